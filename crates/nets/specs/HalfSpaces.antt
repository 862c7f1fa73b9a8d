-- Half spaces, and what keeps or breaks them: document 01, "Half spaces and verdicts"; source document 004.
use Rattle.std.specs.Prelude.{List, [], ◌∷◌, ◌++◌, ℕ, ◌-◌, ◌≤◌, length, get_or, replicate, ℤ, pos, ◌+ℤ◌, ◌*ℤ◌, ◌≤ℤ◌}
use Rattle.nets.specs.Nets.{Marking, Transition, Enabled, fire}

pub record HalfSpace : Type 0 where
  pub coefficients : List ℤ
  pub constant : ℤ

-- The value of a marking under coefficients k is the sum of k(p) times tokens(p).
unfoldable pub value : List ℤ → Marking → ℤ
value [] ms = pos 0
value (k ∷ ks) [] = pos 0
value (k ∷ ks) (m ∷ ms) = (k *ℤ pos m) +ℤ value ks ms

-- A marking is inside (k, c) if its value is at least c.
unfoldable pub Inside : HalfSpace → Marking → Type 0
Inside h m = h.constant ≤ℤ value h.coefficients m

unfoldable pub Outside : HalfSpace → Marking → Type 0
Outside h m = Inside h m → ⊥

-- A bad marking lies inside, enables the transition and lies outside once fired.
pub record Bad (h : HalfSpace) (t : Transition) (m : Marking) : Type 0 where
  pub inside : Inside h m
  pub enabled : Enabled t m
  pub leaves : Outside h (fire t m)

-- A shown bad marking has at most 20,000 tokens in any place.
abbrev pub most_shown : ℕ
most_shown = 20000

pub record Shown (h : HalfSpace) (t : Transition) (m : Marking) : Type 0 where
  pub bad : Bad h t m
  pub bounded : (p : ℕ) → get_or m p 0 ≤ most_shown

-- It is held as 16 numbers, zero beyond place n.
abbrev pub sixteen : {A : Type 0} → A → List A → List A
sixteen z xs = xs ++ replicate (16 - length xs) z

-- Kept exactly if no marking, of any size, is bad; broken if one is.
unfoldable pub Kept : HalfSpace → Transition → Type 0
Kept h t = (m : Marking) → Bad h t m → ⊥

unfoldable pub Broken : HalfSpace → Transition → Type 0
Broken h t = (m : Marking) × Bad h t m
