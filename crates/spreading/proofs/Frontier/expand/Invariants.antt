-- `Frontier::expand` meets its contract.
use Rattle.spreading.proofs.Queue.{Expanding}
use Rattle.spreading.proofs.Frontier.expand.Given as goal

abbrev pub invariant-loop-p : goal.invariant-loop-p
invariant-loop-p l = Expanding l.fn.self.steps.now l.mark l.queue l.initial.queue l.head l.tail l.p l.end
