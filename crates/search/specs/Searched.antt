-- What `find` answers: is there an x of whole numbers, zero or more, with lo ≤ k(0) x(0) + k(1) x(1) + .. ≤ hi, and which has the least total?
use Rattle.std.specs.Prelude.{◌≡◌, Option, Some, None, List, ℕ, ◌≤◌, length, get_or, take, ℤ, pos, negsuc, ◌≤ℤ◌}
use Rattle.nets.specs.HalfSpaces.{value, sixteen}
use Rattle.sums.specs.Sum.{total}

-- x has a number for each coefficient, and the value lies in the window
pub record Hit (ks : List ℤ) (lo hi : ℤ) (x : List ℕ) : Type 0 where
  pub places : length x ≡ length ks
  pub low : lo ≤ℤ value ks x
  pub high : value ks x ≤ℤ hi

-- sixteen numbers, zero beyond place n, whose first n hit; nothing that hits has a smaller total, and no number is large
pub record Best (ks : List ℤ) (lo hi : ℤ) (n : ℕ) (x : List ℕ) : Type 0 where
  pub row : x ≡ sixteen 0 (take n x)
  pub hits : Hit ks lo hi (take n x)
  pub least : (z : List ℕ) → Hit ks lo hi z → total (take n x) ≤ total z
  pub bounded : (p : ℕ) → get_or x p 0 ≤ 19900

-- the best, or that nothing hits
abbrev pub Searched : List ℤ → ℤ → ℤ → ℕ → Option (List ℕ) → Type 0
Searched ks lo hi n (Some x) = Best ks lo hi n x
Searched ks lo hi n None = (z : List ℕ) → Hit ks lo hi z → ⊥

-- the window's ends are within 19,500 of 0 (hi may be lower: then it is below lo, and nothing hits)
pub record Ends (lo hi : ℤ) : Type 0 where
  pub low : negsuc 19499 ≤ℤ lo
  pub high : lo ≤ℤ pos 19500
  pub top : hi ≤ℤ pos 19500
