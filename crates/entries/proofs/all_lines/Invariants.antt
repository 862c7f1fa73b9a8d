-- `all_lines` meets its contract: before a claim the lines of the claims before it stand behind the line of counts, in at most 125 bytes each.
use mathlib.Core.List.{List}
use Prim.Native.Nat.{ℕ, ◌+◌, ◌-◌, ◌*◌, ◌≤◌}
use lib.ListN.{length}
use Rattle.text.specs.Writing.{Puts}
use Rattle.entries.specs.Entries.{AreLines}
use Rattle.entries.proofs.all_lines.Given as goal

abbrev pub invariant-loop-number : goal.invariant-loop-number
invariant-loop-number l = (1 ≤ l.number) × (l.number ≤ length l.sheet.claims + 1) × (l.writer.len ≤ l.initial.writer.len + 125 * (l.number - 1)) × ((bs : List ℕ) × AreLines l.sheet (l.number - 1) bs × Puts bs l.initial.writer l.writer)
