-- A claim that is a whole number of times another, and how that number is found: at one place that isn't zero.
use Rattle.std.specs.Prelude.{◌≡◌, map, ℕ, zero, suc, ◌/◌, ◌≤◌, ℤ, pos, nat_abs, ◌*ℤ◌, length, get_or}
use Rattle.nets.specs.HalfSpaces.{HalfSpace}
use Rattle.nets.specs.Reduced.{divided_by, AllZero}

-- w is d times r
pub record IsTimes (d : ℕ) (w r : HalfSpace) : Type 0 where
  pub some : 1 ≤ d
  pub coefficients : w.coefficients ≡ map (λ (k : ℤ). k *ℤ pos d) r.coefficients
  pub constant : w.constant ≡ r.constant *ℤ pos d

unfoldable pub IsMultiple : HalfSpace → HalfSpace → Type 0
IsMultiple w r = (d : ℕ) × IsTimes d w r

-- the number at a place of a claim, counted from 0, the constant behind the coefficients
abbrev pub entry : HalfSpace → ℕ → ℤ
entry h p = get_or (divided_by h) p (pos 0)

-- a place where r isn't zero, and the size of the number there; any place where all of r is zero
pub record IsPivot (r : HalfSpace) (place size : ℕ) : Type 0 where
  pub within : place ≤ length r.coefficients
  pub size_there : size ≡ nat_abs (entry r place)
  pub zero_only : size ≡ 0 → AllZero r

-- how often a size goes into another; once where it is zero
abbrev pub factor_of : ℕ → ℕ → ℕ
factor_of x zero = 1
factor_of x (suc y) = x / suc y
