-- Document 01, "Marked nets": cases a to l, as one list.
use Rattle.std.specs.Prelude.{List, [], ◌∷◌, ℕ, ℤ, pos, negsuc}
use Rattle.nets.specs.Nets.{Marking, Transition, Enabled}
use Rattle.nets.specs.HalfSpaces.{HalfSpace, Inside, Outside, Bad, Kept}
use Rattle.nets.specs.Verdicts.{Target, at_or_above, IsTarget}

-- what a case says
pub data Says : Type 0 where
  kept : HalfSpace → Transition → Says
  never_inside : HalfSpace → Transition → Says
  broken_at : HalfSpace → Transition → Marking → Says
  excludes : HalfSpace → Target → Says
  fails_at : HalfSpace → Target → Marking → Says

unfoldable pub Holds : Says → Type 0
Holds (kept h t) = Kept h t
Holds (never_inside h t) = (m : Marking) → Enabled t m → Outside h m
Holds (broken_at h t m) = Bad h t m
Holds (excludes h g) = (m : Marking) → IsTarget g m → Outside h m
Holds (fails_at h g m) = IsTarget g m × Inside h m

unfoldable pub AllHold : List Says → Type 0
AllHold [] = Unit {0}
AllHold (x ∷ xs) = Holds x × AllHold xs

-- two places
abbrev pub space : ℤ → ℤ → ℤ → HalfSpace
space k l c = record { coefficients = k ∷ l ∷ []; constant = c }

abbrev pub at : ℕ → ℕ → Marking
at a b = a ∷ b ∷ []

-- taking (2,1) and putting (1,2), as t of 004's example; and case k's
abbrev pub t : Transition
t = record { taken = at 2 1; put = at 1 2 }

abbrev pub u : Transition
u = record { taken = at 0 1; put = at 1 0 }

abbrev pub from_3_0 : Target
from_3_0 = record { kind = at_or_above; tokens = at 3 0 }

unfoldable pub cases : List Says
cases =
    -- a, b
    kept (space (pos 3) (pos 2) (pos 9)) t
    ∷ broken_at (space (pos 3) (pos 2) (pos 10)) t (at 2 2)
    -- c, d, e
    ∷ kept (space (pos 8) (pos 5) (pos 22)) t
    ∷ kept (space (pos 53) (pos 52) (pos 209)) t
    ∷ broken_at (space (pos 53) (pos 52) (pos 210)) t (at 2 2)
    -- f, g, h, i
    ∷ kept (space (negsuc 1) (negsuc 2) (negsuc 5)) t
    ∷ never_inside (space (negsuc 1) (negsuc 2) (negsuc 5)) t
    ∷ broken_at (space (negsuc 1) (negsuc 2) (negsuc 6)) t (at 2 1)
    ∷ kept (space (negsuc 1) (negsuc 2) (negsuc 7)) t
    ∷ broken_at (space (negsuc 1) (negsuc 2) (negsuc 8)) t (at 3 1)
    -- j
    ∷ broken_at (space (pos 2) (negsuc 2) (pos 0)) t (at 2 1)
    -- k
    ∷ kept (space (pos 4) (pos 6) (pos 8)) u
    ∷ broken_at (space (pos 4) (pos 6) (pos 9)) u (at 1 1)
    -- l
    ∷ excludes (space (negsuc 0) (pos 0) (negsuc 1)) from_3_0
    ∷ fails_at (space (negsuc 0) (pos 1) (negsuc 1)) from_3_0 (at 3 1)
    ∷ []
