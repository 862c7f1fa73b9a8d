-- The listing of a sheet: document 01, "The listing". Which bad marking a line shows is free, so it is told of a text whether it is one.
use Rattle.std.specs.Prelude.{◌≡◌, List, [], ◌++◌, ℕ, zero, suc, length, Option}
use Rattle.terms.specs.declared.Claim.{Claim}
use Rattle.nets.specs.Verdicts.{Verdict, IsVerdict}
use Rattle.format.specs.Contents.{Contents, half_space, claim}
use Rattle.twins.specs.Answers.{IsTwinNumber}
use Rattle.firstline.specs.FirstLine.{counts_line}
use Rattle.lines.specs.Lines.{claim_line}

-- the line of claim i: its verdict, and its lowest earlier twin
pub record IsLine (x : Contents) (i : ℕ) (line : List ℕ) : Type 0 where
  pub verdict : Verdict
  pub is_verdict : IsVerdict x.setting (half_space (claim x i)) verdict
  pub twin : Option Claim
  pub is_twin : IsTwinNumber x i twin
  pub is : line ≡ claim_line i verdict twin

-- the lines of the claims 1 to i, one behind the other
unfoldable pub AreLines : Contents → ℕ → List ℕ → Type 0
AreLines x zero text = text ≡ []
AreLines x (suc i) text = (before : List ℕ) × (line : List ℕ) × AreLines x i before × IsLine x (suc i) line × (text ≡ before ++ line)

-- the sheet's line of counts
abbrev pub counts_of_sheet : Contents → List ℕ
counts_of_sheet x = counts_line x.setting.net.places (length x.setting.net.transitions) (length x.claims)

-- the line of counts, and a line for each claim
pub record IsListing (x : Contents) (text : List ℕ) : Type 0 where
  pub lines : List ℕ
  pub are : AreLines x (length x.claims) lines
  pub is : text ≡ counts_of_sheet x ++ lines
