-- `trails::trail` meets its contract. The invariant: the counts so far lead from w to entry h. The measure is w's index in the queue.
use mathlib.Core.Path.{◌≡◌}
use Prim.Native.Nat.{ℕ, ◌≤◌}
use lib.ListN.{length, get_or}
use Rattle.trails.proofs.Backward.{index, Back}
use Rattle.trails.proofs.trail.Given as goal

abbrev pub invariant-loop-w : goal.invariant-loop-w
invariant-loop-w g l = (length l.x ≡ g.row.N) × ((p : ℕ) → length l.frontier.steps.now ≤ p → get_or l.x p 0 ≡ 0) × Back l.frontier.steps.now l.frontier.mark.now l.frontier.queue.now l.start l.h l.x l.w

abbrev pub decreases-loop-w : goal.decreases-loop-w
decreases-loop-w g l = index l.frontier.queue.now l.w
