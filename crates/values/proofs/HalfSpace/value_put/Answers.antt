use Rattle.std.proofs.Common.{rules, arith}
use borrow.Author.Rules.{sfits_of}
use Rattle.values.proofs.Bounds.{computed_range}
use Rattle.values.proofs.HalfSpace.value_put.Goals as goal

pub returns-clause-range : goal.returns-clause-range
returns-clause-range c =
    computed_range c.value_of.result c.coefficients-coefficients.result.now c.put.result.now (sfits_of c.value_of.type_inv) c.value_of.ensures c.coefficients-coefficients.ensures.fit c.put.ensures.fit (search (rules, arith))
