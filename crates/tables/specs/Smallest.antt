-- The smallest of the sizes that are not 0.
use Rattle.std.specs.Prelude.{◌≡◌, List, ℕ, ◌≤◌, ◌<◌, get_or}

-- some size is not 0
unfoldable pub NotAll0 : List ℕ → Type 0
NotAll0 ss = (p : ℕ) × (0 < get_or ss p 0)

-- r is the smallest of the sizes that are not 0
pub record Smallest (ss : List ℕ) (r : ℕ) : Type 0 where
  pub place : ℕ
  pub is : get_or ss place 0 ≡ r
  pub some : 0 < r
  pub short : r ≤ 100
  pub least : (p : ℕ) → 0 < get_or ss p 0 → r ≤ get_or ss p 0
