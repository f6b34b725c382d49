-- Paths: none is wrong exactly if each is lawful.
use Rattle.std.proofs.Common.{◌≡◌, ℕ, ◌≤◌, Bool, false, eqb, ltb, ◌↔◌, List, [], ◌∷◌, ◌++◌, map, length, None, sym, ap, subst, arith}
use Rattle.std.specs.List.{flat_map, AllByRecursion}
use Rattle.std.proofs.ByRecursion.{all-has}
use Rattle.std.proofs.lemmas.Bool.{ltb-false, le-ltb, eqb-false, ne_eqb}
use Rattle.book.specs.Bytes.{two}
use Rattle.book.specs.Chains.{whole_records}
use Rattle.records.specs.Fits.{Byte, Bytes}
use Rattle.visits.specs.Smallest.{smallest}
use Rattle.visits.specs.Visits.{stations}
use Rattle.fields.specs.Fields.{path_at}
use Rattle.chains.specs.Paths.{paths, wrong_path, path_faults}
use Rattle.semantics.specs.Trees.{Path}
use Rattle.semantics.specs.Limits.{LawfulPath}
use Rattle.tree_records.specs.TreeRecords.{stations_in, paths_in}
use Rattle.kept_rules.proofs.Kept.{smallest_none, along_test}
use Rattle.kept_rules.proofs.Everywhere.{all_members, all_mapped, mapped_has}
use Rattle.kept_rules.proofs.ByChains.{followed_is}
use Rattle.tree_laws.proofs.Tests.{none_of_three}
use Rattle.tree_laws.proofs.Records.{rest_byte}

path_right : (n : ℕ) (p : Path) → Byte p.sender_port → Byte p.hearer_port → wrong_path n p ≡ false ↔ LawfulPath n p
path_right n p one two =
    let tests = none_of_three (ltb n p.sender) (ltb n p.hearer) (eqb p.sender p.hearer) in (
      λ e.
          let none = tests.0 e in
          record {
            sender_known = ltb-false n p.sender none.0;
            hearer_known = ltb-false n p.hearer none.1;
            ends_differ = eqb-false p.sender p.hearer none.2;
            sender_port_width = one;
            hearer_port_width = two;
          },
      λ h. tests.1 (le-ltb n p.sender h.sender_known, le-ltb n p.hearer h.hearer_known, ne_eqb p.sender p.hearer h.ends_differ),
    )

module _ (b : List ℕ) (bytes : Bytes b) (few : ltb 2000 (whole_records b) ≡ false) where
  each_path : (n k : ℕ) → wrong_path n (path_at b k) ≡ false ↔ LawfulPath n (path_at b k)
  each_path n k = path_right n (path_at b k) (rest_byte b bytes k 1) (rest_byte b bytes k 3)

  pub paths_right : smallest (path_faults b) ≡ None ↔ AllByRecursion (LawfulPath (length (stations_in b))) (map (path_at b) (paths_in b))
  paths_right =
      let n = length (stations_in b) in
      let wrong : ℕ → ℕ → Bool = λ m k. wrong_path m (path_at b k) in
      let count : length (stations b) ≡ n = ap length (followed_is b few (two b 6)) in
      let chain : paths b ≡ paths_in b = followed_is b few (two b 8) in
      let none = smallest_none (path_faults b) in
      let test = along_test (wrong (length (stations b))) 0 (paths b) in (
        λ e.
            let all = subst (AllByRecursion (λ k. wrong n k ≡ false)) chain (subst (λ m. AllByRecursion (λ k. wrong m k ≡ false) (paths b)) count (test.0 (none.0 e))) in
            all_mapped (LawfulPath n) (path_at b) (paths_in b) (λ k hk. (each_path n k).0 (all-has (λ x. wrong n x ≡ false) (paths_in b) k all hk)),
        λ h.
            let all : AllByRecursion (λ k. wrong n k ≡ false) (paths_in b) =
            all_members (λ k. wrong n k ≡ false) (paths_in b) (λ k hk. (each_path n k).1 (mapped_has (LawfulPath n) (path_at b) (paths_in b) h k hk)) in
            none.1 (test.1 (subst (λ m. AllByRecursion (λ k. wrong m k ≡ false) (paths b)) (sym count) (subst (AllByRecursion (λ k. wrong n k ≡ false)) (sym chain) all))),
      )

-- a path needs a station
pub some_station : (own : ℕ → List ℕ) (path : ℕ → Path) (ss ks : List ℕ) → 1 ≤ length (flat_map own ss ++ ks) → AllByRecursion (LawfulPath (length ss)) (map path ks) → 1 ≤ length ss
some_station own path [] [] some paths = absurd (omega arith)
some_station own path [] (k ∷ ks) some paths =
    let sender = paths.0.sender_known in
    let hearer = paths.0.hearer_known in
    absurd (paths.0.ends_differ (omega arith))
some_station own path (s ∷ ss) ks some paths = omega arith
