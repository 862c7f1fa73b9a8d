-- `reduced` meets its contract: the divisor divides the coefficients and the constant, and what is divided by it is the reduced form.
use mathlib.Core.Path.{◌≡◌, sym, subst, ◌∙◌}
use mathlib.Core.List.{[], ◌∷◌}
use native.Mathlib.Omega.{arith}
use lib.IntN.{ℤ}
use mir.Syntax.{w16}
use mir.Val.{to_z, of_z}
use mir.Facts.{to_z-of_z}
use Rattle.std.proofs.lemmas.Int.{ints}
use Rattle.nets.specs.HalfSpaces.{HalfSpace}
use Rattle.nets.specs.Reduced.{EachOf, Divides, divided_by}
use Rattle.reduction.specs.Divisors.{IsDivisorOf}
use Rattle.reduction.proofs.Common.{each_left, each_right}
use Rattle.reduction.proofs.Scaled.{divided_reduced, divisor_divides}
use Rattle.reduction.proofs.reduced.Goals as goal

pub row_divided-requires : goal.row_divided-requires
unfolding divided_by
row_divided-requires c =
    let h : HalfSpace = record { coefficients = c.args.k.now; constant = c.args.c } in
    let divisor : IsDivisorOf h c.divisor.result = subst (λ (z : ℤ). IsDivisorOf (record { coefficients = c.args.k.now; constant = z }) c.divisor.result) (to_z-of_z c.ranges.c) c.divisor.ensures in
    let g = c.max-g.result in
    (c.requires, omega (arith, c.max-g.ensures), each_left (Divides g) c.args.k.now (c.args.c ∷ []) (divisor_divides h c.divisor.result g divisor c.max-g.ensures))

pub exact-requires : goal.exact-requires
unfolding divided_by EachOf
exact-requires c =
    let h : HalfSpace = record { coefficients = c.args.k.now; constant = c.args.c } in
    let divisor : IsDivisorOf h c.divisor.result = subst (λ (z : ℤ). IsDivisorOf (record { coefficients = c.args.k.now; constant = z }) c.divisor.result) (to_z-of_z c.ranges.c) c.divisor.ensures in
    let g = c.max-g.result in
    (omega (arith, c.max-g.ensures), rw (to_z-of_z c.ranges.c) (each_right (Divides g) c.args.k.now (c.args.c ∷ []) (divisor_divides h c.divisor.result g divisor c.max-g.ensures)).0)

pub returns : goal.returns
returns c =
    let h : HalfSpace = record { coefficients = c.args.k.now; constant = c.args.c } in
    let divisor : IsDivisorOf h c.divisor.result = subst (λ (z : ℤ). IsDivisorOf (record { coefficients = c.args.k.now; constant = z }) c.divisor.result) (to_z-of_z c.ranges.c) c.divisor.ensures in
    let back : to_z w16 (of_z w16 c.exact.result) ≡ c.exact.result = omega (arith, ints) in
    (rw back (divided_reduced h _ c.divisor.result c.max-g.result divisor c.max-g.ensures c.row_divided.ensures.0 (sym (to_z-of_z c.ranges.c) ∙ c.exact.ensures)), c.row_divided.ensures.1)
