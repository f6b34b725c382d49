-- The index fields of records: the first and next indexes, each with the kind of record that it should name.
use Rattle.std.specs.Prelude.{ℕ, cond, List, [], ◌∷◌, ◌==◌}
use Rattle.book.specs.Bytes.{at, two, row}
use Rattle.book.specs.Chains.{next_index}
use Rattle.book.specs.Terms.{kind_byte}
use Rattle.book.specs.declared.term.Kind.{Kind}
use Rattle.book.specs.declared.term.Kind.TheVariants.{Station, Phase, Edge, Word, Path}
use Rattle.links.specs.declared.link.Link.{Link}

abbrev pub link : ℕ → Kind → Link
link t k = record { to = t; kind = k }

-- a field that a record lacks: an index of 0 names nothing, whatever the kind
abbrev pub no_link : Link
no_link = link 0 Station

abbrev pub only_next : ℕ → Kind → List Link
only_next next k = link next k ∷ no_link ∷ no_link ∷ []

-- the index fields of a model record, by its kind byte: every record's next index, a station's
-- first phase, a phase's first edge and first word; none where the kind is not a record's
abbrev pub model_links : List ℕ → List Link
model_links r =
    let kind = at r 0 in
    let next = next_index r in
    let station = link next Station ∷ link (two r 4) Phase ∷ no_link ∷ [] in
    let phase = link next Phase ∷ link (two r 4) Edge ∷ link (two r 8) Word ∷ [] in
    let none = no_link ∷ no_link ∷ no_link ∷ [] in
    let five = cond (kind == kind_byte Path) (only_next next Path) none in
    let four = cond (kind == kind_byte Word) (only_next next Word) five in
    let three = cond (kind == kind_byte Edge) (only_next next Edge) four in
    let two = cond (kind == kind_byte Phase) phase three in
    cond (kind == kind_byte Station) station two

-- the same of an automaton record: every record's next index, an automaton's first location, a
-- location's first transition
abbrev pub automaton_links : List ℕ → List Link
automaton_links r =
    let kind = at r 0 in
    let next = next_index r in
    let automaton = link next Station ∷ link (two r 4) Phase ∷ no_link ∷ [] in
    let location = link next Phase ∷ link (two r 4) Edge ∷ no_link ∷ [] in
    let none = no_link ∷ no_link ∷ no_link ∷ [] in
    let five = cond (kind == kind_byte Path) (only_next next Path) none in
    let three = cond (kind == kind_byte Edge) (only_next next Edge) five in
    let two = cond (kind == kind_byte Phase) location three in
    cond (kind == kind_byte Station) automaton two

-- the head's: the first station or automaton, and the first path; its bytes 2 and 3 are no next index
abbrev pub head_links : List ℕ → List Link
head_links r = link (two r 6) Station ∷ link (two r 8) Path ∷ no_link ∷ []

-- the index fields of record i of a book; the head is record 0
abbrev pub links_of : (List ℕ → List Link) → List ℕ → ℕ → List Link
links_of links b i =
    let r = row b i in
    let head = head_links r in
    let other = links r in
    cond (i == 0) head other
