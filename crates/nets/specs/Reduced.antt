-- The reduced form of a claim, and twins: document 01, "Half spaces and verdicts".
use Rattle.std.specs.Prelude.{◌≡◌, ◌⊎◌, List, [], ◌∷◌, ◌++◌, map, ℕ, ◌≤◌, ℤ, pos, ◌*ℤ◌}
use Rattle.nets.specs.HalfSpaces.{HalfSpace}

unfoldable pub EachOf : (ℤ → Type 0) → List ℤ → Type 0
EachOf P [] = Unit {0}
EachOf P (k ∷ ks) = P k × EachOf P ks

unfoldable pub Divides : ℕ → ℤ → Type 0
Divides d z = (q : ℤ) × (z ≡ q *ℤ pos d)

-- d is the greatest common divisor of the sizes of zs
pub record IsDivisor (zs : List ℤ) (d : ℕ) : Type 0 where
  pub common : EachOf (Divides d) zs
  pub greatest : (e : ℕ) → EachOf (Divides e) zs → e ≤ d

-- the numbers by whose divisor a claim is divided: all coefficients and the constant
unfoldable pub divided_by : HalfSpace → List ℤ
divided_by h = h.coefficients ++ (h.constant ∷ [])

unfoldable pub AllZero : HalfSpace → Type 0
AllZero h = EachOf (λ z. z ≡ pos 0) (divided_by h)

-- r is h with its coefficients and its constant divided by that divisor
pub record IsDivided (h r : HalfSpace) : Type 0 where
  pub divisor : ℕ
  pub is_divisor : IsDivisor (divided_by h) divisor
  pub coefficients_divided : h.coefficients ≡ map (λ (k : ℤ). k *ℤ pos divisor) r.coefficients
  pub constant_divided : h.constant ≡ r.constant *ℤ pos divisor

-- The reduced form; where all are zero it is the claim itself.
unfoldable pub IsReduced : HalfSpace → HalfSpace → Type 0
IsReduced h r = (AllZero h × (r ≡ h)) ⊎ ((AllZero h → ⊥) × IsDivided h r)

-- Two claims are twins if their reduced forms are equal.
unfoldable pub Twins : HalfSpace → HalfSpace → Type 0
Twins h g = (r : HalfSpace) × IsReduced h r × IsReduced g r
