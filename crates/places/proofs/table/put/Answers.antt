use Rattle.std.proofs.Common.{sym}
use Rattle.std.proofs.lemmas.List.{set_past}
use Rattle.places.proofs.table.put.Goals as goal

pub returns-else-i-table : goal.returns-else-i-table
returns-else-i-table c = sym (set_past _ c.args.i c.args.value c.if-i-table.false)
