-- When two listings of a sheet are alike: they differ in the choice among bad markings alone.
use Rattle.std.specs.Prelude.{◌≡◌, ◌≤◌, List, [], ◌++◌, ℕ, zero, suc, length, drop, Option, Some, Err, Ok}
use Rattle.terms.specs.declared.Claim.{Claim}
use Rattle.refusals.specs.declared.Refusal.{Refusal}
use Rattle.nets.specs.Nets.{Marking}
use Rattle.nets.specs.Verdicts.{Verdict, broken, IsVerdict, SameBut}
use Rattle.format.specs.Read.{Read}
use Rattle.format.specs.Contents.{Contents, half_space, claim}
use Rattle.lines.specs.Lines.{claim_line}
use Rattle.entries.specs.Entries.{counts_of_sheet}

-- two lines of claim i: one verdict, but for the bad marking, and one twin
pub record LineAlike (i : ℕ) (line other : List ℕ) : Type 0 where
  pub verdict : Verdict
  pub another : Verdict
  pub same : SameBut verdict another
  pub twin : Option Claim
  pub numbered : (j : Claim) → twin ≡ Some j → 1 ≤ j.0
  pub is : line ≡ claim_line i verdict twin
  pub other_is : other ≡ claim_line i another twin

-- the lines of the claims 1 to i, line by line
unfoldable pub LinesAlike : ℕ → List ℕ → List ℕ → Type 0
LinesAlike zero text other = (text ≡ []) × (other ≡ [])
LinesAlike (suc i) text other = (before : List ℕ) × (line : List ℕ) × (before_too : List ℕ) × (line_too : List ℕ) × LinesAlike i before before_too × LineAlike (suc i) line line_too × (text ≡ before ++ line) × (other ≡ before_too ++ line_too)

-- the same line of counts, and lines that are alike
pub record Alike (x : Contents) (text other : List ℕ) : Type 0 where
  pub lines : List ℕ
  pub other_lines : List ℕ
  pub alike : LinesAlike (length x.claims) lines other_lines
  pub is : text ≡ counts_of_sheet x ++ lines
  pub other_is : other ≡ counts_of_sheet x ++ other_lines

-- no transition breaks claim i where start and target leave it to the transitions
unfoldable pub Unbroken : Contents → ℕ → Type 0
Unbroken x i = (t : ℕ) (m : Marking) → IsVerdict x.setting (half_space (claim x i)) (broken t m) → ⊥

-- two answers with the areas that they leave: one refusal, or listings that are alike
pub data AnswersAlike (y : Read Contents) (old new new_too : List ℕ) (r s : Read ℕ) : Type 0 where
  both_refused : (q : Refusal) → r ≡ Err q → s ≡ Err q → new ≡ old → new_too ≡ old → AnswersAlike y old new new_too r s
  both_listed : (x : Contents) → y ≡ Ok x → (text other : List ℕ) → Alike x text other → r ≡ Ok (length text) → s ≡ Ok (length other) → new ≡ text ++ drop (length text) old → new_too ≡ other ++ drop (length other) old → AnswersAlike y old new new_too r s
