-- `search::table::longest` meets its contract. The invariant: no coefficient so far is larger than the most, of either sign.
use Rattle.std.proofs.Common.{ℕ, ◌<◌, get_or, pos}
use Rattle.search.specs.Table.{Length}
use Rattle.search.proofs.Places.{Under}
use Rattle.search.proofs.table.longest.Given as goal

abbrev pub invariant-loop-step : goal.invariant-loop-step
invariant-loop-step l = Length l.most × ((p : ℕ) → p < l.step-index → Under (get_or l.k p (pos 0)) l.most)
