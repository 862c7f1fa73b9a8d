-- Which contents a sheet can hold: as many numbers as there are places, and each in its range (document 01, "What the sheet holds").
use Rattle.std.specs.Prelude.{◌≡◌, true, List, [], ◌∷◌, ℕ, ◌≤◌, ◌<◌, ◌^◌, length, ℤ}
use Rattle.terms.specs.Limits.{places_fit, transitions_fit, weight_fits, coefficient_fits, constant_fits, most_claims}
use Rattle.nets.specs.Nets.{Transition}
use Rattle.nets.specs.Verdicts.{Setting}
use Rattle.format.specs.Contents.{Claim, half_space, some_nonzero, Contents}

unfoldable pub All : {A : Type 0} → (A → Type 0) → List A → Type 0
All P [] = Unit {0}
All P (x ∷ xs) = P x × All P xs

-- a sheet is a list of bytes
abbrev pub IsSheet : List ℕ → Type 0
IsSheet s = All (λ b. b < 256) s

-- one number for each of n places, and each fits
pub record Row {A : Type 0} (n : ℕ) (fits : A → Type 0) (xs : List A) : Type 0 where
  pub places : length xs ≡ n
  pub each : All fits xs

abbrev pub IsWeight : ℕ → Type 0
IsWeight w = weight_fits w ≡ true

-- 0 to 65,535
abbrev pub IsTokens : ℕ → Type 0
IsTokens m = m < 2 ^ 16

abbrev pub IsCoefficient : ℤ → Type 0
IsCoefficient k = coefficient_fits k ≡ true

pub record FormedTransition (n : ℕ) (t : Transition) : Type 0 where
  pub taken : Row n IsWeight t.taken
  pub put : Row n IsWeight t.put

pub record FormedSetting (q : Setting) : Type 0 where
  pub places : places_fit q.net.places ≡ true
  pub count : transitions_fit (length q.net.transitions) ≡ true
  pub transitions : All (FormedTransition q.net.places) q.net.transitions
  pub start : Row q.net.places IsTokens q.start
  pub target : Row q.net.places IsTokens q.target.tokens

pub record FormedClaim (n : ℕ) (i : Claim) : Type 0 where
  pub coefficients : Row n IsCoefficient (half_space i).coefficients
  pub constant : constant_fits (half_space i).constant ≡ true
  pub nonzero : some_nonzero (half_space i).coefficients ≡ true

pub record Formed (x : Contents) : Type 0 where
  pub setting : FormedSetting x.setting
  pub some : 1 ≤ length x.claims
  pub most : length x.claims ≤ most_claims
  pub claims : All (FormedClaim x.setting.net.places) x.claims
