-- The tables, station by station.
use Rattle.std.proofs.Common.{◌≡◌, ℕ, zero, suc, ◌+◌, ◌*◌, ◌<◌, ◌≤◌, List, [], ◌∷◌, length, take, set, replicate, sym, refl, ap, ◌∙◌, arith}
use Rattle.std.proofs.lemmas.List.{length-set, length-take}
use Rattle.visits.specs.Visits.{phases}
use Rattle.places.specs.declared.table.StationRow.{StationRow}
use Rattle.places.specs.Tables.{listed, placed, no_row, all_rows, all_listed, all_placed, places_along}

-- The first i of the stations ss are in the tables: these, with the rest, give the whole.
pub record Filled (b ss : List ℕ) (rows : List StationRow) (records places rest : List ℕ) (used stations i : ℕ) : Type 0 where
  pub most : length ss ≤ 16
  pub few : used ≤ 2000 * i
  pub all : i + length rest ≡ length ss
  pub counted : stations ≡ i
  pub rows_long : length rows ≡ 16
  pub records_long : length records ≡ 2000
  pub places_long : length places ≡ 2001
  pub rows_are : all_rows b rows i used rest ≡ all_rows b (replicate 16 no_row) 0 0 ss
  pub records_are : all_listed b records used rest ≡ all_listed b (replicate 2000 0) 0 ss
  pub places_are : all_placed b places rest ≡ all_placed b (replicate 2001 0) ss

pub filled_none : (b ss : List ℕ) (rest : List ℕ) (i : ℕ) (row : StationRow) → rest ≡ take 16 ss → i ≡ 0 → row ≡ no_row → Filled b (take 16 ss) (replicate 16 row) (replicate 2000 0) (replicate 2001 0) rest 0 0 i
filled_none b ss rest i row is start none = record {
  most = omega (arith, length-take 16 ss);
  few = omega arith;
  all = omega (arith, ap length is, start);
  counted = sym start;
  rows_long = refl;
  records_long = refl;
  places_long = refl;
  rows_are = ap (λ r. all_rows b (replicate 16 r) i 0 rest) none ∙ ap (λ n. all_rows b (replicate 16 no_row) n 0 rest) start ∙ ap (all_rows b (replicate 16 no_row) 0 0) is;
  records_are = ap (all_listed b (replicate 2000 0) 0) is;
  places_are = ap (all_placed b (replicate 2001 0)) is;
}

-- of the first n of a list, the first one, and the others
pub take_first : (n n' : ℕ) (xs xs' : List ℕ) (s : ℕ) → xs ≡ s ∷ xs' → n' + 1 ≡ n → take n xs ≡ s ∷ take n' xs'
take_first n n' xs xs' s is e = let z : n ≡ suc n' = omega arith in ap (take n) is ∙ ap (λ m. take m (s ∷ xs')) z

pub take_none : (n : ℕ) (xs : List ℕ) → (0 < n → xs ≡ []) → take n xs ≡ []
take_none zero xs none = refl
take_none (suc n) xs none = ap (take (suc n)) (none (omega arith))

module _ (b ss : List ℕ) (rows : List StationRow) (records places rest : List ℕ) (used stations i : ℕ) (f : Filled b ss rows records places rest used stations i) where
  pub filled_more : (records' places' rest' : List ℕ) (s count j i' : ℕ) → rest ≡ s ∷ rest' → j ≡ i → i' ≡ i + 1
      → count ≡ length (phases b s) → count ≤ 2000 → length records' ≡ length records → length places' ≡ length places
      → records' ≡ listed records used (phases b s) → places' ≡ placed places 0 (phases b s)
      → Filled b ss (set rows j (record { number = s; start = used; count = count })) records' places' rest' (used + count) (j + 1) i'
  filled_more records' places' rest' s count j i' is here next many low records-long places-long er ep = record {
    most = f.most;
    few = omega (arith, f.few);
    all = omega (arith, f.all, ap length is);
    counted = omega arith;
    rows_long = length-set rows j (record { number = s; start = used; count = count }) ∙ f.rows_long;
    records_long = records-long ∙ f.records_long;
    places_long = places-long ∙ f.places_long;
    rows_are =
        let z : i' ≡ suc i = omega arith in
        ap (λ m. all_rows b (set rows m (record { number = s; start = used; count = count })) i' (used + count) rest') here
        ∙ ap (λ m. all_rows b (set rows i (record { number = s; start = used; count = count })) m (used + count) rest') z
        ∙ ap (λ n. all_rows b (set rows i (record { number = s; start = used; count = n })) (suc i) (used + n) rest') many
        ∙ sym (ap (all_rows b rows i used) is) ∙ f.rows_are;
    records_are = ap (λ t. all_listed b t (used + count) rest') er ∙ ap (λ n. all_listed b (listed records used (phases b s)) (used + n) rest') many
        ∙ sym (ap (all_listed b records used) is) ∙ f.records_are;
    places_are = ap (λ t. all_placed b t rest') ep ∙ sym (ap (all_placed b places) is) ∙ f.places_are;
  }

  pub filled_all : rest ≡ [] → record { stations = stations; rows = rows; records = records; places = places } ≡ places_along b ss
  filled_all none =
      let n : stations ≡ length ss = f.counted ∙ omega (arith, f.all, ap length none) in
      let rs : rows ≡ all_rows b (replicate 16 no_row) 0 0 ss = sym (ap (all_rows b rows i used) none) ∙ f.rows_are in
      let ks : records ≡ all_listed b (replicate 2000 0) 0 ss = sym (ap (all_listed b records used) none) ∙ f.records_are in
      let ps : places ≡ all_placed b (replicate 2001 0) ss = sym (ap (all_placed b places) none) ∙ f.places_are in
      cc (n, rs, ks, ps)
