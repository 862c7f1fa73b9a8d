-- The row that is searched: each coefficient once and none of 0, with a place where it stands.
use Rattle.std.specs.Prelude.{◌≡◌, ◌⊎◌, List, map, ℕ, ◌≤◌, ◌<◌, length, get_or, ℤ, pos}
use Rattle.sums.specs.Sum.{total, dot}

-- c is one of the first n
pub record Among (row : List ℤ) (n : ℕ) (c : ℤ) : Type 0 where
  pub at : ℕ
  pub below : at < n
  pub is : get_or row at (pos 0) ≡ c

-- the first n of the row stand for the first p coefficients: each is the coefficient of its place, and each coefficient is 0 or one of them
pub record Kept (ks row : List ℤ) (places : List ℕ) (n p : ℕ) : Type 0 where
  pub few : n ≤ p
  pub inside : (i : ℕ) → i < n → get_or places i 0 < p
  pub same : (i : ℕ) → i < n → get_or row i (pos 0) ≡ get_or ks (get_or places i 0) (pos 0)
  pub covers : (q : ℕ) → q < p → (get_or ks q (pos 0) ≡ pos 0) ⊎ Among row n (get_or ks q (pos 0))

-- each of the places is one of n
abbrev pub Inside : List ℕ → ℕ → Type 0
Inside places n = (i : ℕ) → i < length places → get_or places i 0 < n

-- the counts y put back at their places: every sum over places is that over the row, and the total is the same
pub record Spread (places y x : List ℕ) : Type 0 where
  pub sums : (f : List ℕ) → dot f x ≡ dot (map (λ (p : ℕ). get_or f p 0) places) y
  pub amount : total x ≡ total y
