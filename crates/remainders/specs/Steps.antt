-- What the table's making goes through. Its length a is the smallest size, so that a may be added to any value with no change of remainder.
use Rattle.std.specs.Prelude.{◌≡◌, List, [], ◌∷◌, ℕ, ◌+◌, ◌*◌, ◌%◌, ◌≤◌, ◌<◌, length, get_or}

-- a sum of numbers of ss and of a
unfoldable pub Over : ℕ → List ℕ → ℕ → Type 0
Over a [] v = (m : ℕ) × (v ≡ m * a)
Over a (s ∷ ss) v = (x : ℕ) × (w : ℕ) × Over a ss w × (v ≡ s * x + w)

-- beyond every window
abbrev pub far : ℕ
far = 5001

-- a value with that remainder stands in each entry that is not far
unfoldable pub Sound : ℕ → List ℕ → List ℕ → Type 0
Sound a ss T = (r : ℕ) → r < a → get_or T r 0 < far → (get_or T r 0 % a ≡ r) × Over a ss (get_or T r 0)

-- entry c and k more are no less than what stands where that leads
unfoldable pub Closed : ℕ → ℕ → List ℕ → ℕ → Type 0
Closed a k T c = get_or T ((c + k) % a) 0 ≤ get_or T c 0 + k

-- the table of the sizes ss and of a
pub record Tabled (a : ℕ) (ss T : List ℕ) : Type 0 where
  pub low : (r : ℕ) → get_or T r 0 ≤ far
  pub sound : Sound a ss T
  pub all : (v : ℕ) → Over a ss v → get_or T (v % a) 0 ≤ v

-- what a sweep by k makes of T, once the starts below n are done
pub record Swept (a k n : ℕ) (T T' : List ℕ) : Type 0 where
  pub below : (r : ℕ) → get_or T' r 0 ≤ get_or T r 0
  pub sound : (ss : List ℕ) → Sound a (k ∷ ss) T → Sound a (k ∷ ss) T'
  pub closed : (c : ℕ) → c < n → Closed a k T' c

-- a table of no sizes: 0 alone is reached
pub record Blank (T : List ℕ) : Type 0 where
  pub first : get_or T 0 0 ≡ 0
  pub others : (r : ℕ) → 0 < r → r < length T → get_or T r 0 ≡ far

-- a size and a table's length for which no sum can wrap
pub record Ready (k a : ℕ) : Type 0 where
  pub some : 0 < k
  pub small : k ≤ 128
  pub long : 0 < a
  pub short : a ≤ 100
