use Rattle.std.proofs.Common.{length, ap, ◌∙◌, rules}
use Rattle.records.specs.Books.{head_bytes}
use Rattle.records.proofs.Written.{book_put}
use Rattle.records.proofs.books.write.Goals as goal

pub returns : goal.returns
returns g c = record {
  answer = search rules;
  bytes = book_put g.B.Rows.encoded g.met.B.Rows.long g.B.Rows.kind c.args.head c.args.records.now c.args.out.now c.head_row.result c.put_row.new.out c.put_rows.new.out
      (c.head_row.ensures ∙ ap (λ k. head_bytes k (length c.args.records.now) c.args.head) c.kind-kind.ensures) c.put_row.ensures c.put_rows.ensures;
}
