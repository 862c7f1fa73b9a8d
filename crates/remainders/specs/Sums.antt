-- Which values a vector can have under coefficients of one sign, by the coefficients' sizes.
use Rattle.std.specs.Prelude.{◌≡◌, ◌↔◌, List, [], ◌∷◌, map, ℕ, ◌+◌, ◌*◌, ◌%◌, ◌≤◌, ℤ, nat_abs, get_or}

abbrev pub sizes : List ℤ → List ℕ
sizes ks = map nat_abs ks

-- every size is at most 100
unfoldable pub Within : List ℕ → Type 0
Within ss = (p : ℕ) → get_or ss p 0 ≤ 100

-- v is a sum of numbers of ss, each taken as often as one likes
unfoldable pub Reached : List ℕ → ℕ → Type 0
Reached [] v = v ≡ 0
Reached (s ∷ ss) v = (x : ℕ) × (w : ℕ) × Reached ss w × (v ≡ s * x + w)

-- The table answers every value that a window can ask: entry r is the least value with remainder r, or too large for any window.
pub record Exact (ss : List ℕ) (least : ℕ) (table : List ℕ) : Type 0 where
  pub exactly : (v : ℕ) → v ≤ 5000 → Reached ss v ↔ (get_or table (v % least) 0 ≤ v)
