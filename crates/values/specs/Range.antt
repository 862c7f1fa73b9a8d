-- How large the numbers of a window are: constants within 5,000, values of weights within 14,400.
use Rattle.std.specs.Prelude.{ℤ, pos, negsuc, ◌≤ℤ◌}

pub record Constants (c : ℤ) : Type 0 where
  pub low : negsuc 4999 ≤ℤ c
  pub high : c ≤ℤ pos 5000

pub record Values (v : ℤ) : Type 0 where
  pub low : negsuc 14399 ≤ℤ v
  pub high : v ≤ℤ pos 14400
