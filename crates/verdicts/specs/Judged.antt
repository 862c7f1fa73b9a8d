-- The verdict call: demand 3 and document 01, "Half spaces and verdicts", "Numbers that say no".
use Rattle.std.specs.Prelude.{◌≡◌, ℕ, Err, Ok}
use Rattle.terms.specs.Limits.{areas_fit}
use Rattle.refusals.specs.declared.Refusal.TheVariants.{SmallArea}
use Rattle.terms.specs.declared.Claim.{Claim}
use Rattle.nets.specs.HalfSpaces.{HalfSpace}
use Rattle.nets.specs.Verdicts.{Setting}
use Rattle.format.specs.Read.{Read, need, ◌>>=◌, ◌>>◌}
use Rattle.format.specs.Checked.{checked}
use Rattle.format.specs.Contents.{Contents}
use Rattle.reader.specs.Numbered.{claim_numbered}
use Rattle.refusals.specs.Refusals.{Check}
use Rattle.judged.specs.Judges.{Judges}
use Rattle.judged.specs.declared.Verdict.{Verdict}

-- what is judged, or the refusals in their order: the sheet's, then 11, 13
abbrev pub asked : Read Contents → Claim → ℕ → ℕ → Read (Setting × HalfSpace)
asked y i marks queue = y >>= λ x. claim_numbered x i >>= λ h. need (areas_fit marks queue) SmallArea >> Ok (x.setting, h)

abbrev pub verdict_check : Read Contents → Claim → ℕ → ℕ → Check
verdict_check y i marks queue = checked (asked y i marks queue)

abbrev pub IsJudgedIn : Read (Setting × HalfSpace) → Read Verdict → Type 0
IsJudgedIn (Ok (q, h)) (Ok v) = Judges q h v
IsJudgedIn (Ok (q, h)) (Err r) = ⊥
IsJudgedIn (Err r) v = v ≡ Err r

abbrev pub IsJudged : Read Contents → Claim → ℕ → ℕ → Read Verdict → Type 0
IsJudged y i marks queue v = IsJudgedIn (asked y i marks queue) v
