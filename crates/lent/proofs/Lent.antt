-- An area whose first n entries were lent on: it is as long as it was, and what is wiped then is wiped of the area as it was.
-- A part comes back as long as it was lent, which is how each law has it.
use mathlib.Core.Path.{◌≡◌, ap, ◌∙◌}
use mathlib.Core.List.{List, ◌++◌, append-nil}
use Prim.Native.Nat.{ℕ, ◌≤◌}
use native.Mathlib.Omega.{arith}
use lib.ListN.{length, take, drop, replicate, length-append, length-drop, drop_of_length-le}
use lib.Seq.{length-take-le}
use Rattle.lent.specs.Wiped.{Wiped}

-- the part lent on has n entries, and so has what comes back
pub lent_enough : (n : ℕ) (y old : List ℕ) → length y ≡ length (take n old) → n ≤ length old → n ≤ length (y ++ drop n old)
lent_enough n y old e l = omega (arith, e ∙ length-take-le n old l, length-append y (drop n old), length-drop n old)

-- an area that is as long as what is wiped is zeros alone
pub wiped_whole : (n : ℕ) (old new : List ℕ) → length old ≡ n → Wiped n old new → new ≡ replicate n 0
wiped_whole n old new l w = w ∙ ap (λ (r : List ℕ). replicate n 0 ++ r) (drop_of_length-le old {i = n} (omega arith)) ∙ append-nil (replicate n 0)
