-- `window::beside` meets its contract: after p turns the first p sums stand there.
use Rattle.crossing.proofs.Beside.{Added}
use Rattle.crossing.proofs.window.beside.Given as goal

abbrev pub invariant-loop-p : goal.invariant-loop-p
invariant-loop-p l = Added l.taken l.fn.x l.x l.p
