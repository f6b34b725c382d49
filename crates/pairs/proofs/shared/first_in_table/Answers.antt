use Rattle.std.proofs.Common.{◌≡◌, ◌-◌, ◌++◌, length, drop, Err, ap, ◌∙◌, arith}
use Rattle.book.specs.Bytes.{two, row}
use Rattle.links.specs.Walks.{left}
use Rattle.visits.specs.Visits.{followed, edges}
use Rattle.pairs.specs.Pairs.{takers}
use Rattle.pairs.proofs.Tables.{too_few, enough}
use Rattle.pairs.proofs.shared.first_in_table.Goals as goal

pub returns-then-table-count : goal.returns-then-table-count
returns-then-table-count g c =
    let b = c.args.book.now in
    let here : c.two_at-first.result ≡ two (row b c.args.p) 4 = c.two_at-first.ensures ∙ ap (λ l. two l 4) c.row_of.ensures in
    let count = c.chain_length-count.ensures ∙ ap (λ i. length (followed b i)) here in
    let short = λ (heard : _). too_few g.T.Time.time b heard c.args.p c.args.table.now c.chain_length-count.result count c.if-table-count.true in
    record { answer = λ heard acts. ap (λ e. Err e) c.at.ensures ∙ (short heard).0; slots = λ heard acts. (short heard).1 }

pub returns : goal.returns
returns g c =
    let b = c.args.book.now in
    let p = c.args.p in
    let n = c.chain_length-count.result in
    let table = c.args.table.now in
    let slots = c.fill.new.table in
    let here : c.two_at-first.result ≡ two (row b p) 4 = c.two_at-first.ensures ∙ ap (λ l. two l 4) c.row_of.ensures in
    let count : n ≡ length (edges b p) = c.chain_length-count.ensures ∙ ap (λ i. length (followed b i)) here in
    let these : left c.followed.result ≡ edges b p = c.followed.ensures.records ∙ ap (followed b) here in
    let z : n - 0 ≡ n = omega arith in
    let done = λ (heard : _) (acts : _). enough g.T.Time.time b heard p table n slots c.first_meeting.result count c.if-table-count.false
    (c.fill.ensures (heard p) acts ∙ ap (takers (heard p)) these) c.first_meeting.ensures in
    record {
      answer = λ heard acts. (done heard acts).0;
      slots = λ heard acts. ap (λ k. slots ++ drop k table) z ∙ (done heard acts).1;
    }
