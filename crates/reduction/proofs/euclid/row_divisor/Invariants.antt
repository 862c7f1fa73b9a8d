-- `row_divisor` meets its contract: g is the divisor of the coefficients so far.
use lib.ListN.{take}
use Rattle.reduction.specs.Divisors.{IsCommon}
use Rattle.reduction.proofs.euclid.row_divisor.Given as goal

abbrev pub invariant-loop-z : goal.invariant-loop-z
invariant-loop-z l = IsCommon (take l.z-index l.k) l.g
