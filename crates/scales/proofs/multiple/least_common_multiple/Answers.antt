use Rattle.std.proofs.Common.{arith}
use Rattle.scales.proofs.Multiples.{divisor_some, lcm_by_divisor}
use Rattle.scales.proofs.multiple.least_common_multiple.Goals as goal

pub nonzero_div-first : goal.nonzero_div-first
nonzero_div-first c =
    divisor_some c.args.first c.args.second c.greatest_common_divisor-divisor.result
    (omega arith) (omega arith) c.greatest_common_divisor-divisor.ensures

pub returns : goal.returns
returns c =
    let same = lcm_by_divisor c.args.first c.args.second c.greatest_common_divisor-divisor.result
    (omega arith) (omega arith) c.greatest_common_divisor-divisor.ensures in
    cc
