-- `Frontier::reach` meets its contract. The invariant: the entries below `head` are expanded and lie outside the window, and the queue ends at `tail`.
use Rattle.std.proofs.Common.{◌≤◌, ◌-◌, length}
use Rattle.spreading.specs.Areas.{SameAreas}
use Rattle.spreading.specs.State.{Seen, Misses}
use Rattle.spreading.proofs.Frontier.reach.Given as goal

abbrev pub invariant-loop-head : goal.invariant-loop-head
invariant-loop-head l = (l.head ≤ l.tail) × SameAreas l.initial.self l.self × Seen l.self.steps.now l.self.mark.now l.self.queue.now l.start l.head l.tail × Misses l.self.queue.now l.window.lo l.window.hi l.head

abbrev pub decreases-loop-head : goal.decreases-loop-head
decreases-loop-head l = length l.initial.self.mark.now - l.head
