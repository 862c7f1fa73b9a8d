-- The pair question: demand 2 and document 01, "Half spaces and verdicts", "Numbers that say no".
use Rattle.std.specs.Prelude.{◌≡◌, List, ◌++◌, ℕ, drop, replicate, Err, Ok}
use Rattle.terms.specs.Limits.{areas_fit, area_size}
use Rattle.refusals.specs.declared.Refusal.TheVariants.{SmallArea}
use Rattle.terms.specs.declared.Claim.{Claim}
use Rattle.terms.specs.declared.Transition.{Transition}
use Rattle.nets.specs.Nets as nets
use Rattle.nets.specs.HalfSpaces as spaces
use Rattle.format.specs.Read.{Read, need, ◌>>=◌, ◌>>◌}
use Rattle.format.specs.Checked.{checked}
use Rattle.format.specs.Contents.{Contents}
use Rattle.reader.specs.Numbered.{claim_numbered, transition_numbered}
use Rattle.refusals.specs.Refusals.{Check}
use Rattle.pairs.specs.declared.Answer.{Answer}
use Rattle.pairs.specs.declared.Answer.TheVariants as answers

-- what is asked, or the refusals in their order: the sheet's, then 11, 12, 13
abbrev pub asked : Read Contents → Claim → Transition → ℕ → ℕ → Read (spaces.HalfSpace × nets.Transition)
asked y i t marks queue =
    y >>= λ x. claim_numbered x i >>= λ h. transition_numbered x t >>= λ u. need (areas_fit marks queue) SmallArea >> Ok (h, u)

abbrev pub pair_check : Read Contents → Claim → Transition → ℕ → ℕ → Check
pair_check y i t marks queue = checked (asked y i t marks queue)

-- kept exactly if no marking is bad; broken with one that is, held as 16 numbers
abbrev pub Says : spaces.HalfSpace → nets.Transition → Answer → Type 0
Says h t answers.Kept = spaces.Kept h t
Says h t (answers.Broken m) = (b : nets.Marking) × spaces.Shown h t b × (m ≡ spaces.sixteen 0 b)

abbrev pub IsAnswer : Read (spaces.HalfSpace × nets.Transition) → Read Answer → Type 0
IsAnswer (Ok (h, t)) (Ok a) = Says h t a
IsAnswer (Ok (h, t)) (Err q) = ⊥
IsAnswer (Err q) r = r ≡ Err q

abbrev pub IsPair : Read Contents → Claim → Transition → ℕ → ℕ → Read Answer → Type 0
IsPair y i t marks queue r = IsAnswer (asked y i t marks queue) r

-- a work area afterwards: its first 20,000 entries zero and the rest untouched; after a refusal all as before
abbrev pub area_after : Check → List ℕ → List ℕ
area_after (Ok u) old = replicate area_size 0 ++ drop area_size old
area_after (Err q) old = old
