-- `residues::meets` meets its contract. The invariant: r is the remainder of v, and of the values from lo on none below v is reached.
use mathlib.Core.Path.{◌≡◌}
use Prim.Native.Nat.{ℕ, ◌%◌, ◌≤◌, ◌<◌}
use lib.ListN.{length, get_or}
use Rattle.residues.proofs.meets.Given as goal

abbrev pub invariant-loop-v : goal.invariant-loop-v
invariant-loop-v l = (l.r ≡ l.v % length l.table) × ((u : ℕ) → u < l.v → l.first ≤ u → get_or l.table (u % length l.table) 0 ≤ u → ⊥)
