-- `exact` meets its contract: the divisor divides the number, so the quotient is the other factor, and it is no larger.
use mathlib.Core.Path.{◌≡◌}
use native.Mathlib.Omega.{arith}
use lib.IntN.{pos}
use mir.Syntax.{w16, w32}
use mir.Val.{SFits, to_z, of_z}
use Rattle.std.proofs.lemmas.Int.{ints}
use Rattle.signed.specs.Divide.{quot_exact}
use Rattle.nets.specs.Reduced.{Divides}
use Rattle.reduction.proofs.Rows.{factor_fits}
use Rattle.reduction.proofs.exact.Goals as goal

pub returns : goal.returns
unfolding Divides
returns c =
    let (q, e) = c.requires.1 in
    let fits : SFits w16 q = factor_fits w16 c.args.z q c.args.g c.requires.0 e c.ranges.z in
    let z-is : to_z w32 (of_z w32 c.from.result) ≡ c.args.z = omega (arith, ints) in
    let g-is : to_z w32 (of_z w32 c.from-2.result) ≡ pos c.args.g = omega (arith, ints) in
    let back : to_z w16 (of_z w16 (to_z w32 (of_z w32 q))) ≡ q = omega (arith, ints) in
    rw (z-is, g-is, quot_exact c.args.z q c.args.g c.requires.0 e, back) e
