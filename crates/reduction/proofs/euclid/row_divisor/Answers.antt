-- `row_divisor` meets its contract: g is the divisor of the coefficients so far.
use mathlib.Core.Path.{◌≡◌, sym, subst}
use mathlib.Core.List.{List}
use Prim.Native.Nat.{ℕ}
use native.Mathlib.Omega.{arith}
use lib.IntN.{ℤ, pos, nat_abs}
use lib.ListN.{get_or, take}
use Rattle.std.proofs.lemmas.Int.{ints}
use Rattle.std.proofs.lemmas.Nat.Gcd.{IsGcd-swap}
use Rattle.std.specs.Int.{IsGcd}
use Rattle.reduction.specs.Divisors.{IsCommon}
use Rattle.reduction.proofs.Common.{common_none, common_more}
use Rattle.reduction.proofs.Rows.{row_more}
use Rattle.reduction.proofs.euclid.row_divisor.Goals as goal

pub loop-z-init : goal.loop-z-init
loop-z-init c = common_none

pub loop-z-preserved : goal.loop-z-preserved
loop-z-preserved c =
    let k = c.args.k.now in
    let p = c.loop-z.z-index in
    let g = c.loop-z.g in
    let z = get_or k p (pos 0) in
    let size : c.from.result ≡ nat_abs z = omega (arith, ints) in
    let both : IsGcd (nat_abs z) g c.gcd-g.result = subst (λ (n : ℕ). IsGcd n g c.gcd-g.result) size c.gcd-g.ensures in
    subst (λ (r : List ℤ). IsCommon r c.gcd-g.result) (sym (row_more k p c.loop-z-test.true)) (common_more (take p k) z g c.gcd-g.result c.loop-z.invariant (IsGcd-swap (nat_abs z) g c.gcd-g.result both))
