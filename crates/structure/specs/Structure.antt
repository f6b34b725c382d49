-- The structure of a book, and what it is refused for, in the order of the checks.
use Rattle.std.specs.Prelude.{ℕ, Bool, cond, List, is_some, Some, None, Ok, Err, Option, Result}
use Rattle.book.specs.Bytes.{at}
use Rattle.book.specs.Refusals.{refused}
use Rattle.book.specs.Terms.{book_of_byte}
use Rattle.book.specs.declared.refusal.Fault.{Fault}
use Rattle.book.specs.declared.refusal.Fault.TheVariants.{Length, Head, Layout, Links}
use Rattle.book.specs.declared.refusal.Refusal.{Refusal}
use Rattle.book.specs.declared.term.BookKind.{BookKind}
use Rattle.book.specs.declared.term.BookKind.TheVariants.{Model, Automaton}
use Rattle.records.specs.Model.{decoded_model}
use Rattle.records.specs.Automaton.{decoded_automaton}
use Rattle.links.specs.declared.link.Link.{Link}
use Rattle.links.specs.Fields.{model_links, automaton_links, links_of}
use Rattle.links.specs.Naming.{reached}
use Rattle.structure.specs.Search.{first_of}
use Rattle.structure.specs.Faults.{told_records, wrong_length, wrong_head, unlaid, ill_linked}

-- the fault at the place where one is found, else what comes later
abbrev pub unless : {A : Type 0} → Option ℕ → Fault → Result A Refusal → Result A Refusal
unless None fault later = later
unless (Some place) fault later = Err (refused fault place)

-- a fault of the whole book has the place 0
abbrev pub at_0 : Bool → Option ℕ
at_0 wrong = cond wrong (Some 0) None

-- the layout of a record and its index fields, in each kind of book
abbrev pub laid_in : BookKind → List ℕ → Bool
laid_in Model r = is_some (decoded_model r)
laid_in Automaton r = is_some (decoded_automaton r)

abbrev pub links_in : BookKind → List ℕ → List Link
links_in Model = model_links
links_in Automaton = automaton_links

-- the smallest record that is not laid out as it should be
abbrev pub first_unlaid : (List ℕ → Bool) → List ℕ → Option ℕ
first_unlaid laid b = first_of (unlaid laid b) (told_records b)

-- the smallest record that is linked wrongly
abbrev pub first_ill_linked : (List ℕ → List Link) → List ℕ → Option ℕ
first_ill_linked links b =
    let n = told_records b in
    let seen = reached (links_of links b) n in
    first_of (ill_linked (links_of links b) b n seen) n

-- the checks of a book whose length is right, of one kind
abbrev pub structure_by : BookKind → (List ℕ → Bool) → (List ℕ → List Link) → List ℕ → Result BookKind Refusal
structure_by kind laid links b =
    let linked = unless (first_ill_linked links b) Links (Ok kind) in
    let laid_out = unless (first_unlaid laid b) Layout linked in
    unless (at_0 (wrong_head kind b)) Head laid_out

-- byte 0 of the head tells the kind
abbrev pub structure_in : List ℕ → Option BookKind → Result BookKind Refusal
structure_in b None = Err (refused Head 0)
structure_in b (Some kind) = structure_by kind (laid_in kind) (links_in kind) b

abbrev pub structure_of : List ℕ → Result BookKind Refusal
structure_of b =
    let headed = structure_in b (book_of_byte (at b 0)) in
    unless (at_0 (wrong_length b)) Length headed
