-- The reduced form and the earlier twin of a claim, as the calls answer: document 01, "Half spaces and verdicts", "The listing".
use Rattle.std.specs.Prelude.{◌≡◌, ℕ, ◌≤◌, ◌<◌, pos, Err, Ok, Option, None, Some}
use Rattle.terms.specs.declared.Claim.{Claim}
use Rattle.nets.specs.HalfSpaces.{HalfSpace, sixteen}
use Rattle.nets.specs.Reduced.{IsReduced, Twins}
use Rattle.reduction.specs.declared.Form.{Form}
use Rattle.format.specs.Read.{Read}
use Rattle.format.specs.Contents.{Contents, half_space, claim}
use Rattle.refusals.specs.Refusals.{Check}
use Rattle.claims.specs.Held.{claim_check, half_space_of}

-- a reduced form as sixteen numbers, zero beyond place n
abbrev pub shown_form : HalfSpace → Form
shown_form f = record { coefficients = sixteen (pos 0) f.coefficients; constant = f.constant }

-- the reduced form of a claim, or its refusal
abbrev pub IsReducedForm : Read HalfSpace → Read Form → Type 0
IsReducedForm (Ok h) r = (f : HalfSpace) × IsReduced h f × (r ≡ Ok (shown_form f))
IsReducedForm (Err q) r = r ≡ Err q

-- the sheet's refusal, then 11, then the reduced form of claim i
abbrev pub IsReducedOf : Read Contents → Claim → Read Form → Type 0
IsReducedOf y i r = IsReducedForm (half_space_of y i) r

-- none of the claims before claim j is a twin of claim i
unfoldable pub NoTwinBefore : Contents → ℕ → ℕ → Type 0
NoTwinBefore x i j = (m : ℕ) → 1 ≤ m → m < j → Twins (half_space (claim x i)) (half_space (claim x m)) → ⊥

-- claim j is the lowest claim before claim i that is its twin
pub record IsFirstTwin (x : Contents) (i j : ℕ) : Type 0 where
  pub some : 1 ≤ j
  pub earlier : j < i
  pub twin : Twins (half_space (claim x i)) (half_space (claim x j))
  pub lowest : NoTwinBefore x i j

-- the lowest earlier twin, or none exactly if no earlier claim is a twin
abbrev pub IsTwinNumber : Contents → ℕ → Option Claim → Type 0
IsTwinNumber x i None = NoTwinBefore x i i
IsTwinNumber x i (Some j) = IsFirstTwin x i j.0

-- the sheet's refusal, then 11, then the twin
abbrev pub IsTwinIn : Check → Contents → Claim → Read (Option Claim) → Type 0
IsTwinIn (Ok u) x i r = (twin : Option Claim) × IsTwinNumber x i.0 twin × (r ≡ Ok twin)
IsTwinIn (Err q) x i r = r ≡ Err q

abbrev pub IsTwinOf : Read Contents → Claim → Read (Option Claim) → Type 0
IsTwinOf (Err q) i r = r ≡ Err q
IsTwinOf (Ok x) i r = IsTwinIn (claim_check (Ok x) i) x i r
