-- What a transition asks of a claim's coefficients, and what it is told of a half space.
use Rattle.std.specs.Prelude.{◌≡◌, Bool, true, false, List, ℕ, length, ℤ, pos, negsuc, ◌≤ℤ◌}
use Rattle.nets.specs.Nets.{Transition}
use Rattle.nets.specs.HalfSpaces.{HalfSpace, value, Kept, Broken}
use Rattle.remainders.specs.Sums.{Reached}

-- a value that is reached lies in lo .. hi
abbrev pub SomeIn : List ℕ → ℤ → ℤ → Type 0
SomeIn ss lo hi = (v : ℕ) × Reached ss v × (lo ≤ℤ pos v) × (pos v ≤ℤ hi)

-- the flag says whether the transition breaks the half space
abbrev pub IsBroken : Bool → HalfSpace → Transition → Type 0
IsBroken true h t = Broken h t
IsBroken false h t = Kept h t

-- a constant, and the values of the weights that a transition takes and puts: sixteen coefficients of 100 and weights of 9 at most
pub record Limits (c a b : ℤ) : Type 0 where
  pub c_low : negsuc 4999 ≤ℤ c
  pub c_high : c ≤ℤ pos 5000
  pub a_low : negsuc 14399 ≤ℤ a
  pub a_high : a ≤ℤ pos 14400
  pub b_low : negsuc 14399 ≤ℤ b
  pub b_high : b ≤ℤ pos 14400

-- a transition that takes the value a and puts the value b
pub record Moves (ks : List ℤ) (a b : ℤ) (t : Transition) : Type 0 where
  pub takes : length t.taken ≡ length ks
  pub puts : length t.put ≡ length ks
  pub taken : a ≡ value ks t.taken
  pub put : b ≡ value ks t.put
