use Rattle.std.proofs.Common.{◌≡◌, ◌+◌, drop}
use Rattle.records.specs.Books.{put_rows}
use Rattle.records.proofs.books.put_rows.Given as goal

abbrev pub invariant-loop-i : goal.invariant-loop-i
invariant-loop-i g l =
    let encoded = g.B.Rows.encoded in
    put_rows encoded l.out (l.i + 1) (drop l.i l.records) ≡ put_rows encoded l.initial.out 1 l.records
