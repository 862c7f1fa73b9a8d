-- `divisor` meets its contract: the constant is one number more beside the coefficients.
use mathlib.Core.Path.{◌≡◌, subst}
use Prim.Native.Nat.{ℕ}
use native.Mathlib.Omega.{arith}
use lib.IntN.{nat_abs}
use Rattle.std.proofs.lemmas.Int.{ints}
use Rattle.std.proofs.lemmas.Nat.Gcd.{IsGcd-swap}
use Rattle.std.specs.Int.{IsGcd}
use Rattle.nets.specs.Reduced.{divided_by}
use Rattle.reduction.proofs.Common.{common_more, common_divisor}
use Rattle.reduction.proofs.euclid.divisor.Goals as goal

pub returns : goal.returns
unfolding divided_by
returns c =
    let g = c.row_divisor.result in
    let d = c.gcd.result in
    let size : c.unsigned_abs.result ≡ nat_abs c.args.c = omega (arith, ints) in
    let both : IsGcd (nat_abs c.args.c) g d = subst (λ (n : ℕ). IsGcd n g d) size c.gcd.ensures in
    common_divisor (record { coefficients = c.args.k.now; constant = c.args.c }) d (common_more c.args.k.now c.args.c g d c.row_divisor.ensures (IsGcd-swap (nat_abs c.args.c) g d both))
