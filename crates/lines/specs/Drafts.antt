-- A line while it is being written.
use Rattle.std.specs.Prelude.{ℕ, List, take}
use Rattle.lines.specs.declared.draft.Draft.TheInside.{Inside}

-- the bytes in use
abbrev pub text_of : Inside → List ℕ
text_of d = take d.used d.bytes
