-- `remainders::fill` meets its contract. The invariant: the table is that of the sizes taken in so far, the last of the list first.
use mathlib.Core.Path.{◌≡◌}
use mathlib.Core.List.{map, reverse}
use lib.ListN.{length}
use lib.IntN.{ℤ}
use denote.Ref.{Bor}
use Rattle.remainders.specs.Sums.{sizes}
use Rattle.remainders.specs.Steps.{Tabled}
use Rattle.remainders.proofs.fill.Given as goal

abbrev pub invariant-loop-z : goal.invariant-loop-z
invariant-loop-z l = (length l.table ≡ length l.initial.table) × Tabled (length l.initial.table) (sizes (reverse (map (λ (z : Bor ℤ). z.now) l.yielded))) l.table
