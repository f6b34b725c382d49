use Rattle.tree_laws.proofs.Chains.{place_there}
use Rattle.tree_laws.proofs.Paths.{paths_right}
use Rattle.tree_laws.proofs.Stages.{same_kind}
use Rattle.tree_laws.proofs.the_laws_hold.Goals as goal

pub returns : goal.returns
returns c = record { kinds = same_kind; places = λ ks k. place_there k 0 ks; paths = paths_right }
