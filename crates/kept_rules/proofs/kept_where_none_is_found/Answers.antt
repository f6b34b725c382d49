use Rattle.kept_rules.proofs.Kept.{kept_where_none_is_found}
use Rattle.kept_rules.proofs.kept_where_none_is_found.Goals as goal

pub returns : goal.returns
returns c = kept_where_none_is_found
