-- `judge` meets its contract: each question is asked once those before it were answered.
use Rattle.std.proofs.Common.{◌≡◌, sym, ap, ◌∙◌, ◌↔◌, IsTrue, length, take, to_z, of_z, w16, arith}
use Rattle.std.proofs.lemmas.Int.{ints}
use Rattle.nets.specs.HalfSpaces.{Inside}
use Rattle.nets.specs.Verdicts.{Setting, TargetInside}
use Rattle.reader.specs.Targets.{target_shown}
use Rattle.judging.proofs.Answered.{inside_of, target_of, outside_so, target_so, proof_so, broken_so}
use Rattle.judging.proofs.judge.Goals as goal
use Rattle.judging.proofs.judge.Goals.{After-is_inside, After-target_inside}

places : (c : After-is_inside) → length c.coefficients-coefficients.result.now ≡ length c.args.half_space.now.coefficients
places c = ap {B = _} length c.coefficients-coefficients.ensures.value

started : (c : After-is_inside) → IsTrue c.is_inside.result ↔ Inside c.args.half_space.now (take (length c.coefficients-coefficients.result.now) c.start-start.result)
started c =
    let same : to_z w16 (of_z w16 c.constant-constant.result) ≡ c.constant-constant.result = omega (arith, ints) in
    inside_of c.args.half_space.now _ c.is_inside.ensures c.coefficients-coefficients.ensures.value (same ∙ c.constant-constant.ensures.value)

reached : (c : After-target_inside) → (p : Setting) → c.target.result ≡ target_shown p.target → length p.target.tokens ≡ length c.args.half_space.now.coefficients → IsTrue c.target_inside.result ↔ TargetInside p c.args.half_space.now
reached c =
    let same : to_z w16 (of_z w16 c.constant-constant.result) ≡ c.constant-constant.result = omega (arith, ints) in
    target_of c.args.half_space.now c.target_inside.ensures c.coefficients-coefficients.ensures.value (same ∙ c.constant-constant.ensures.value)

pub returns-then-not-is_inside : goal.returns-then-not-is_inside
returns-then-not-is_inside c =
    let first = (goal.at.returns-then-not-is_inside c).After-is_inside in
    outside_so c.args.sheet.now.setting c.args.half_space.now _ _ (places first) c.start-start.ensures _ (started first) c.if-not-is_inside.true

pub returns-then-target_inside : goal.returns-then-target_inside
returns-then-target_inside c =
    let first = (goal.at.returns-then-target_inside c).After-is_inside in
    let second = (goal.at.returns-then-target_inside c).After-target_inside in
    target_so c.args.sheet.now.setting c.args.half_space.now _ _ (places first) c.start-start.ensures _ (started first) c.if-not-is_inside.false _ c.target.ensures.value (c.target.ensures.places ∙ sym c.requires) _ (reached second) c.if-target_inside.true

pub returns-in_default : goal.returns-in_default
returns-in_default c =
    let first = (goal.at.returns-in_default c).After-is_inside in
    let second = (goal.at.returns-in_default c).After-target_inside in
    proof_so c.args.sheet.now.setting c.args.half_space.now _ _ (places first) c.start-start.ensures _ (started first) c.if-not-is_inside.false _ c.target.ensures.value (c.target.ensures.places ∙ sym c.requires) _ (reached second) c.if-target_inside.false _ c.first_broken.ensures c.in_default.is

pub returns : goal.returns
returns c =
    let first = (goal.at.returns c).After-is_inside in
    let second = (goal.at.returns c).After-target_inside in
    broken_so c.args.sheet.now.setting c.args.half_space.now _ _ (places first) c.start-start.ensures _ (started first) c.if-not-is_inside.false _ c.target.ensures.value (c.target.ensures.places ∙ sym c.requires) _ (reached second) c.if-target_inside.false _ c.first_broken.ensures _ _ _ _ c.in-Some.is c.unwrap-marking.ensures c.nth_arcs-arcs.ensures.value c.crossing_of.ensures
