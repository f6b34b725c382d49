-- Which model books are accepted.
use Rattle.std.specs.Prelude.{◌≡◌, ℕ, true, ◌↔◌, List, Ok}
use Rattle.std.specs.List.{AllByRecursion}
use Rattle.book.specs.declared.term.BookKind.TheVariants.{Model}
use Rattle.records.specs.Fits.{Bytes}
use Rattle.structure.specs.Sound.{Sound}
use Rattle.fields.specs.Fields.{phase_at, is_endless}
use Rattle.semantics.specs.Books.{read_model}
use Rattle.semantics.specs.LawfulModels.{LawfulModel}
use Rattle.book_check.specs.Check.{check_of}
use Rattle.tree_records.specs.TreeRecords.{stations_in, phases_in}

-- an endless phase names neither a next phase nor a word: its tree has no place for them
pub record Rests (b : List ℕ) (p : ℕ) : Type 0 where
  pub no_next : is_endless (phase_at b p).lifetime ≡ true → (phase_at b p).next_phase ≡ 0
  pub no_word : is_endless (phase_at b p).lifetime ≡ true → (phase_at b p).first_word ≡ 0

-- the bytes of a model book are well formed: the structure is right, and endless phases rest
pub record WellFormed (b : List ℕ) : Type 0 where
  pub sound : Sound b Model
  pub rests : AllByRecursion (λ s. AllByRecursion (Rests b) (phases_in b s)) (stations_in b)

-- A model book is accepted exactly if its bytes are well formed and its tree is lawful.
abbrev pub AcceptedModelsAreLawful : Type 0
AcceptedModelsAreLawful = (b : List ℕ) → Bytes b → check_of b ≡ Ok Model ↔ WellFormed b × LawfulModel (read_model b)
