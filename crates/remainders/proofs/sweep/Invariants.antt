-- `remainders::sweep` meets its contract. The invariant: the steps from the starts below `start` are closed.
use mathlib.Core.Path.{◌≡◌}
use lib.ListN.{length}
use Rattle.remainders.specs.Steps.{Swept}
use Rattle.remainders.proofs.sweep.Given as goal

abbrev pub invariant-loop-start : goal.invariant-loop-start
invariant-loop-start l = (length l.table ≡ length l.initial.table) × Swept (length l.initial.table) l.k l.start l.initial.table l.table
