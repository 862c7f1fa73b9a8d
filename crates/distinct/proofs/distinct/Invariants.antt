-- `distinct::distinct` meets its contract. The invariant: the first n of the row stand for the coefficients below p.
use Rattle.distinct.specs.Row.{Kept}
use Rattle.distinct.proofs.distinct.Given as goal

abbrev pub invariant-loop-p : goal.invariant-loop-p
invariant-loop-p l = Kept l.k l.row l.places l.n l.p
