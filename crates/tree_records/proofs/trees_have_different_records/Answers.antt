use Rattle.tree_records.proofs.TreeRecords.{trees_have_different_records}
use Rattle.tree_records.proofs.trees_have_different_records.Goals as goal

pub returns : goal.returns
returns c = trees_have_different_records
