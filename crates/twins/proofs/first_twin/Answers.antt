-- `first_twin` meets its contract: the claims that were passed are no twins, since a twin is a multiple of the reduced form, and the first multiple is the lowest twin.
use mathlib.Core.Path.{◌≡◌, sym, ap, ◌∙◌}
use mathlib.Core.Logic.{◌↔◌}
use native.Mathlib.Omega.{arith}
use lib.ListN.{length}
use mir.Syntax.{w16}
use mir.Val.{to_z, of_z}
use Rattle.std.specs.Prelude.{IsTrue}
use Rattle.std.proofs.lemmas.Int.{ints}
use Rattle.std.proofs.lemmas.Bool.{false≢true}
use Rattle.nets.specs.HalfSpaces.{HalfSpace}
use Rattle.nets.specs.Reduced.{IsReduced, Twins}
use Rattle.values.proofs.Same.{same_space}
use Rattle.reduction.specs.Divisors.{space_of}
use Rattle.format.specs.Contents.{half_space, claim}
use Rattle.multiples.specs.Multiples.{IsMultiple}
use Rattle.multiples.proofs.Scaled.{told_twins}
use Rattle.twins.proofs.Earlier.{no_twin_more, no_twin_yet}
use Rattle.twins.proofs.first_twin.Goals as goal
use Rattle.twins.proofs.first_twin.Goals.{After-is_multiple}

pub loop-earlier-init : goal.loop-earlier-init
loop-earlier-init c = (no_twin_yet c.args.sheet.now c.args.number, omega arith, omega (arith, c.requires.0))

-- the test of an earlier claim
told : (c : After-is_multiple) → IsTrue c.is_multiple.result ↔ Twins (half_space (claim c.args.sheet.now c.args.number)) (half_space (claim c.args.sheet.now c.loop-earlier.earlier))
told c =
    let h : HalfSpace = half_space (claim c.args.sheet.now c.args.number) in
    let w : HalfSpace = half_space (claim c.args.sheet.now c.loop-earlier.earlier) in
    let f = c.reduced-form.result in
    let r : HalfSpace = space_of (length c.nth_row-row.result.now) f.coefficients f.constant in
    let row = c.coefficients.ensures.value ∙ ap (λ (k : HalfSpace). k.coefficients) c.nth_half_space-half_space.ensures.value in
    let last : to_z w16 (of_z w16 c.constant.result) ≡ c.constant.result = omega (arith, ints) in
    let theirs = same_space h _ _ row (last ∙ c.constant.ensures.value ∙ ap (λ (k : HalfSpace). k.constant) c.nth_half_space-half_space.ensures.value) in
    let long : length c.coefficients.result.now ≡ length c.nth_row-row.result.now = ap (length {A = _}) c.coefficients.ensures.value ∙ c.nth_half_space-half_space.ensures.places ∙ sym c.nth_row-row.ensures.places in
    let form : IsReduced h r = rw theirs at (rw long at c.reduced-form.ensures.0) in
    let other_last : to_z w16 (of_z w16 c.nth_constant-constant.result) ≡ c.nth_constant-constant.result = omega (arith, ints) in
    let other = same_space w _ _ c.nth_row-row.ensures.value (other_last ∙ c.nth_constant-constant.ensures) in
    let tells : IsTrue c.is_multiple.result ↔ IsMultiple w r = rw other at c.is_multiple.ensures in
    told_twins h w r form c.is_multiple.result tells

pub returns-then-is_multiple : goal.returns-then-is_multiple
returns-then-is_multiple c =
    let l = c.loop-earlier in
    record { some = l.invariant.1; earlier = omega arith; twin = (told (goal.at.returns-then-is_multiple c).After-is_multiple).0 c.if-is_multiple.true; lowest = l.invariant.0 }

pub loop-earlier-preserved : goal.loop-earlier-preserved
loop-earlier-preserved c =
    let l = c.loop-earlier in
    let strange = (told (goal.at.loop-earlier-preserved c).After-is_multiple).1 in
    (no_twin_more c.args.sheet.now c.args.number l.earlier l.invariant.0 (λ t. false≢true (sym c.if-is_multiple.false ∙ strange t)), omega arith, omega arith)
