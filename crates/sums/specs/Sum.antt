-- Sums of counts, and of coefficients times counts, in ℕ: a coefficient k is P k - N k, and one of the two is 0.
use Rattle.std.specs.Prelude.{List, [], ◌∷◌, map, ℕ, ◌+◌, ◌*◌, ◌≤◌, ℤ}
use Rattle.signed.specs.Parts.{positive_part, negative_part}

-- x(0) + x(1) + ..
unfoldable pub total : List ℕ → ℕ
total [] = 0
total (x ∷ xs) = x + total xs

abbrev pub ups : List ℤ → List ℕ
ups ks = map positive_part ks

abbrev pub downs : List ℤ → List ℕ
downs ks = map negative_part ks

-- k(0) * x(0) + k(1) * x(1) + .. ; a list that is shorter counts as 0 past its end
unfoldable pub dot : List ℕ → List ℕ → ℕ
dot [] xs = 0
dot (k ∷ ks) [] = 0
dot (k ∷ ks) (x ∷ xs) = k * x + dot ks xs

-- from position v, the counts x lead into the window: lo ≤ v + up·x - dn·x ≤ hi
pub record Hits (up dn : List ℕ) (lo hi v : ℕ) (x : List ℕ) : Type 0 where
  pub least : lo + dot dn x ≤ v + dot up x
  pub most : v + dot up x ≤ hi + dot dn x
