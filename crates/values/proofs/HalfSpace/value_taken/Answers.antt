use Rattle.std.proofs.Common.{rules, arith}
use borrow.Author.Rules.{sfits_of}
use Rattle.values.proofs.Bounds.{computed_range}
use Rattle.values.proofs.HalfSpace.value_taken.Goals as goal

pub returns-clause-range : goal.returns-clause-range
returns-clause-range c =
    computed_range c.value_of.result c.coefficients-coefficients.result.now c.taken.result.now (sfits_of c.value_of.type_inv) c.value_of.ensures c.coefficients-coefficients.ensures.fit c.taken.ensures.fit (search (rules, arith))
