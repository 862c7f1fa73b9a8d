-- The window of Theorem 1 of source document 004: document 01, "Half spaces and verdicts".
use Rattle.std.specs.Prelude.{List, ℕ, ℤ, pos, ◌-ℤ◌, ◌≤ℤ◌}
use Rattle.nets.specs.Nets.{Transition, Room}
use Rattle.nets.specs.HalfSpaces.{HalfSpace, value}

-- its ends, c - A and c - B - 1: A is the value of the weights taken, B that of the weights put
abbrev pub low_end : HalfSpace → Transition → ℤ
low_end h t = h.constant -ℤ value h.coefficients t.taken

abbrev pub high_end : HalfSpace → Transition → ℤ
high_end h t = (h.constant -ℤ value h.coefficients t.put) -ℤ pos 1

-- a vector beside the weights taken whose value lies between them
pub record InWindow (h : HalfSpace) (t : Transition) (x : List ℕ) : Type 0 where
  pub room : Room t x
  pub low : low_end h t ≤ℤ value h.coefficients x
  pub high : value h.coefficients x ≤ℤ high_end h t
