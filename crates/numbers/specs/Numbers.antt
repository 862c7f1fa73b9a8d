-- The numbers that C gets for each answer. An enum's case is a number, and the numbers are set out here once.
use Rattle.std.specs.Prelude.{List, [], ℕ, ◌-◌, pos, Option, Some, None, Result, Ok, Err}
use Rattle.refusals.specs.Refusals.{number_of, detail_of, Check}
use Rattle.refusals.specs.declared.Refusal.{Refusal}
use Rattle.terms.specs.declared.Claim.{Claim}
use Rattle.nets.specs.HalfSpaces.{HalfSpace, sixteen}
use Rattle.format.specs.Read.{Read, map_ok}
use Rattle.amounts.specs.declared.Kind.{Kind}
use Rattle.amounts.specs.declared.Kind.TheVariants.{Exact, AtOrAbove}
use Rattle.reader.specs.declared.Counts.{Counts}
use Rattle.reader.specs.declared.Target as goals
use Rattle.sheet.specs.declared.Weights.{Weights}
use Rattle.pairs.specs.declared.Answer.{Answer}
use Rattle.pairs.specs.declared.Answer.TheVariants.{Kept, Broken}
use Rattle.judged.specs.Judges.{marking_of}
use Rattle.judged.specs.declared.Verdict as verdicts
use Rattle.reduction.specs.declared.Form.{Form}
use Rattle.walk.specs.declared.Marking.{Marking}
use Rattle.traces.specs.declared.Halt.{Halt}
use Rattle.traces.specs.Traces.{Traced, halted}
use Rattle.numbers.specs.Verdicts.{verdict_number, verdict_transition}
use Rattle.numbers.specs.declared.Refused.{Refused}
use Rattle.numbers.specs.declared.Counted.{Counted}
use Rattle.numbers.specs.declared.Weighted.{Weighted}
use Rattle.numbers.specs.declared.Tokens.{Tokens}
use Rattle.numbers.specs.declared.Target.{Target}
use Rattle.numbers.specs.declared.Space.{Space}
use Rattle.numbers.specs.declared.Paired.{Paired}
use Rattle.numbers.specs.declared.Record.{Record}
use Rattle.std.specs.declared.ops.Range.{Range}
use Rattle.numbers.specs.declared.Verdict.{Verdict}
use Rattle.numbers.specs.declared.Twinned.{Twinned}
use Rattle.numbers.specs.declared.Fired.{Fired}
use Rattle.numbers.specs.declared.Written.{Written}

-- A refusal has its number and its detail. Where nothing is refused both are 0, which is no refusal's number.
abbrev pub nothing : Refused
nothing = record { number = 0; detail = 0 }

abbrev pub refusal_is : Refusal → Refused
refusal_is r = record { number = number_of r; detail = detail_of r }

abbrev pub check_is : Check → Refused
check_is (Ok u) = nothing
check_is (Err r) = refusal_is r

-- the counts; a refused sheet has zeros
abbrev pub counts_are : Read Counts → Counted
counts_are (Ok k) = record { refusal = nothing; places = k.places; transitions = k.transitions; claims = k.claims }
counts_are (Err r) = record { refusal = refusal_is r; places = 0; transitions = 0; claims = 0 }

-- what a sheet holds; a refusal has zeros
abbrev pub weights_are : Read Weights → Weighted
weights_are (Ok w) = record { refusal = nothing; taken = w.taken; put = w.put }
weights_are (Err r) = record { refusal = refusal_is r; taken = sixteen 0 []; put = sixteen 0 [] }

abbrev pub tokens_are : Read (List ℕ) → Tokens
tokens_are (Ok m) = record { refusal = nothing; tokens = m }
tokens_are (Err r) = record { refusal = refusal_is r; tokens = sixteen 0 [] }

-- the sheet's own kind bytes
abbrev pub kind_is : Kind → ℕ
kind_is Exact = 0
kind_is AtOrAbove = 1

abbrev pub target_is : Read goals.Target → Target
target_is (Ok g) = record { refusal = nothing; kind = kind_is g.kind; tokens = g.tokens }
target_is (Err r) = record { refusal = refusal_is r; kind = kind_is Exact; tokens = sixteen 0 [] }

abbrev pub half_space_is : Read HalfSpace → Space
half_space_is (Ok h) = record { refusal = nothing; coefficients = sixteen (pos 0) h.coefficients; constant = h.constant }
half_space_is (Err r) = record { refusal = refusal_is r; coefficients = sixteen (pos 0) []; constant = pos 0 }

-- where a record starts, and its bytes
abbrev pub range_is : Read (Range ℕ) → Record
range_is (Ok range) = record { refusal = nothing; offset = range.start; length = range.end - range.start }
range_is (Err r) = record { refusal = refusal_is r; offset = 0; length = 0 }

-- a pair: 0 refused, 1 kept, 2 broken, with its marking
abbrev pub pair_is : Read Answer → Paired
pair_is (Ok Kept) = record { refusal = nothing; answer = 1; marking = sixteen 0 [] }
pair_is (Ok (Broken m)) = record { refusal = nothing; answer = 2; marking = m }
pair_is (Err r) = record { refusal = refusal_is r; answer = 0; marking = sixteen 0 [] }

-- a verdict: 0 refused, then its number; the marking is zeros but where the claim is broken
abbrev pub verdict_is : Read verdicts.Verdict → Verdict
verdict_is (Ok v) = record { refusal = nothing; answer = verdict_number v; transition = verdict_transition v; marking = marking_of v }
verdict_is (Err r) = record { refusal = refusal_is r; answer = 0; transition = 0; marking = sixteen 0 [] }

-- reduced forms, and the lowest earlier twin: 0 where there is none
abbrev pub form_is : Read Form → Space
form_is (Ok f) = record { refusal = nothing; coefficients = f.coefficients; constant = f.constant }
form_is (Err r) = record { refusal = refusal_is r; coefficients = sixteen (pos 0) []; constant = pos 0 }

abbrev pub twin_is : Read (Option Claim) → Twinned
twin_is (Ok (Some j)) = record { refusal = nothing; claim = j.0 }
twin_is (Ok None) = record { refusal = nothing; claim = 0 }
twin_is (Err r) = record { refusal = refusal_is r; claim = 0 }

-- the marking that a walk begins at
abbrev pub marking_is : Read Marking → Tokens
marking_is y = tokens_are (map_ok (λ m. m.tokens) y)

-- a list that was fired, or the refusal and the position of the step that it came from
abbrev pub halt_is : Result (Unit {0}) Halt → Fired
halt_is (Ok u) = record { refusal = nothing; position = 0 }
halt_is (Err h) = record { refusal = refusal_is h.refusal; position = h.position }

abbrev pub traced_is : Traced → Fired
traced_is a = halt_is (halted a)

-- a text that was written: its length, or the refusal
abbrev pub length_is : Read ℕ → Written
length_is (Ok n) = record { number = 0; value = n }
length_is (Err r) = record { number = number_of r; value = detail_of r }
