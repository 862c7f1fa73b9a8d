-- `target_inside` meets its contract: the written target decides, and for kind 1 else whether some coefficient is above zero.
use Rattle.std.proofs.Common.{◌≡◌, refl, ◌↔◌, IsTrue, to_z, of_z, w16, take, length, arith}
use Rattle.std.proofs.lemmas.Int.{ints}
use Rattle.nets.specs.HalfSpaces.{Inside}
use Rattle.inside.proofs.Targets.{exact_told, written_told, above_told}
use Rattle.inside.proofs.target_inside.Goals as goal
use Rattle.inside.proofs.target_inside.Goals.{After-is_inside-written}

written : (c : After-is_inside-written) → IsTrue c.is_inside-written.result ↔ Inside (record { coefficients = c.args.coefficients.now; constant = c.args.constant }) (take (length c.args.coefficients.now) c.args.target.tokens)
written c =
    let same : to_z w16 (of_z w16 c.args.constant) ≡ c.args.constant = omega (arith, ints) in
    rw same at c.is_inside-written.ensures

pub returns-in-Exact : goal.returns-in-Exact
returns-in-Exact c = λ q e l. exact_told _ _ _ refl _ (written (goal.at.returns-in-Exact c).After-is_inside-written) q e c.in-Exact.is

pub returns-then-written : goal.returns-then-written
returns-then-written c = λ q e l. written_told _ _ _ refl _ (written (goal.at.returns-then-written c).After-is_inside-written) q e c.in-AtOrAbove.is l c.if-written.true

pub returns-else-written : goal.returns-else-written
returns-else-written c = λ q e l. above_told _ _ _ refl _ (written (goal.at.returns-else-written c).After-is_inside-written) q e c.in-AtOrAbove.is l _ _ c.if-written.false refl c.some_above.ensures
