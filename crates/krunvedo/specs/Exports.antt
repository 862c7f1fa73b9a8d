-- What the exports answer where the call has a statement and not one definition: the numbers of an answer that the statement allows.
use Rattle.std.specs.Prelude.{◌≡◌, List, ◌++◌, ℕ, leb, length, drop, Option, Ok, Err}
use Rattle.terms.specs.Limits.{text_size}
use Rattle.refusals.specs.declared.Refusal.TheVariants.{SmallText}
use Rattle.terms.specs.declared.Claim.{Claim}
use Rattle.terms.specs.declared.Transition.{Transition}
use Rattle.format.specs.Read.{Read, choose}
use Rattle.format.specs.Contents.{Contents}
use Rattle.claims.specs.Held.{claim_check}
use Rattle.claims.specs.Part.{record_at, record_bytes}
use Rattle.pairs.specs.Pairs.{IsPair}
use Rattle.pairs.specs.declared.Answer.{Answer}
use Rattle.verdicts.specs.Judged.{IsJudged}
use Rattle.judged.specs.declared.Verdict as judged
use Rattle.twins.specs.Answers.{IsReducedOf, IsTwinOf}
use Rattle.reduction.specs.declared.Form.{Form}
use Rattle.firstline.specs.FirstLine.{refused_line}
use Rattle.listing.specs.Listed.{IsListed}
use Rattle.numbers.specs.declared.Space.{Space}
use Rattle.numbers.specs.declared.Record.{Record}
use Rattle.numbers.specs.declared.Paired.{Paired}
use Rattle.numbers.specs.declared.Verdict.{Verdict}
use Rattle.numbers.specs.declared.Twinned.{Twinned}
use Rattle.numbers.specs.declared.Written.{Written}
use Rattle.numbers.specs.Numbers.{check_is, pair_is, verdict_is, form_is, twin_is, length_is}

-- where the record of claim i starts, and how many bytes it has
abbrev pub record_of : Read Contents → Claim → Record
record_of y i = record { refusal = check_is (claim_check y i); offset = record_at y i; length = length (record_bytes y i) }

abbrev pub IsPaired : Read Contents → Claim → Transition → ℕ → ℕ → Paired → Type 0
IsPaired y i t marks queue r = (p : Read Answer) × IsPair y i t marks queue p × (r ≡ pair_is p)

abbrev pub IsVerdict : Read Contents → Claim → ℕ → ℕ → Verdict → Type 0
IsVerdict y i marks queue r = (v : Read judged.Verdict) × IsJudged y i marks queue v × (r ≡ verdict_is v)

abbrev pub IsReducedSpace : Read Contents → Claim → Space → Type 0
IsReducedSpace y i r = (f : Read Form) × IsReducedOf y i f × (r ≡ form_is f)

abbrev pub IsTwinned : Read Contents → Claim → Twinned → Type 0
IsTwinned y i r = (t : Read (Option Claim)) × IsTwinOf y i t × (r ≡ twin_is t)

-- a listing of the sheet stands at the start of the text area, which was `old` and is `new`; or all of it is as it was
abbrev pub IsListingText : Read Contents → ℕ → ℕ → List ℕ → List ℕ → Written → Type 0
IsListingText y marks queue old new r = (l : Read ℕ) × IsListed y marks queue old new l × (r ≡ length_is l)

-- the line of a refusal that has this number and this detail: its length and the text area afterwards; 19 where the area is too short
abbrev pub refusal_told : ℕ → ℕ → List ℕ → Written
refusal_told number detail old = length_is (choose (leb text_size (length old)) (Ok (length (refused_line number detail))) (Err SmallText))

abbrev pub refusal_after : ℕ → ℕ → List ℕ → List ℕ
refusal_after number detail old = choose (leb text_size (length old)) (refused_line number detail ++ drop (length (refused_line number detail)) old) old
