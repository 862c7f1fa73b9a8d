-- `row_divided` meets its contract: the first p numbers are divided and zeros stand behind them.
use mathlib.Core.Path.{◌≡◌, sym, ap, ◌∙◌, subst}
use native.Mathlib.Omega.{arith}
use borrow.Author.Rules.{rules}
use lib.IntN.{ℤ, pos, ◌*ℤ◌}
use lib.ListN.{get_or}
use mir.Syntax.{w8, w16}
use mir.Val.{SFits, to_z, of_z}
use Rattle.std.proofs.lemmas.Int.{ints}
use Rattle.nets.specs.Reduced.{Divides}
use Rattle.reduction.proofs.Common.{each_at}
use Rattle.reduction.proofs.Rows.{divided_more, factor_fits}
use Rattle.reduction.proofs.row_divided.Goals as goal

pub exact-requires : goal.exact-requires
exact-requires c =
    let z = get_or c.args.k.now c.loop-p.p (pos 0) in
    let z-is : to_z w16 (of_z w16 c.from.result) ≡ z = omega (arith, ints) in
    (c.requires.1, subst (Divides c.args.g) (sym z-is) (each_at (Divides c.args.g) c.args.k.now c.loop-p.p c.loop-p-test.true c.requires.2))

pub loop-p-preserved : goal.loop-p-preserved
loop-p-preserved c =
    let z = get_or c.args.k.now c.loop-p.p (pos 0) in
    let z-is : to_z w16 (of_z w16 c.from.result) ≡ z = omega (arith, ints) in
    let product : z ≡ c.exact.result *ℤ pos c.args.g = sym z-is ∙ c.exact.ensures in
    let z-fits : SFits w8 z = search rules in
    let fits : SFits w8 c.exact.result = factor_fits w8 z c.exact.result c.args.g c.requires.1 product z-fits in
    let back : to_z w8 (of_z w8 (to_z w16 (of_z w16 c.exact.result))) ≡ c.exact.result = omega (arith, ints) in
    divided_more c.args.k.now c.args.g c.loop-p.row c.loop-p.p (to_z w8 (of_z w8 (to_z w16 (of_z w16 c.exact.result)))) (omega arith) c.loop-p-test.true c.loop-p.invariant (product ∙ ap (λ (q : ℤ). q *ℤ pos c.args.g) (sym back))
