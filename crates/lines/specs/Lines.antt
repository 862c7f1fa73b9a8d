-- A claim's line: document 01, "The listing".
use Rattle.std.specs.Prelude.{List, ◌++◌, ℕ, ◌<◌, take, Option, codes}
use Rattle.terms.specs.declared.Claim.{Claim}
use Rattle.nets.specs.Verdicts as nets
use Rattle.text.specs.Bytes.{decimal, newline}
use Rattle.phrases.specs.Phrases.{tokens_text, twin_text}
use Rattle.judged.specs.declared.Verdict.{Verdict}
use Rattle.judged.specs.declared.Verdict.TheVariants as verdicts

-- the verdict: broken with the transition and the tokens of the bad marking
abbrev pub verdict_text : nets.Verdict → List ℕ
verdict_text nets.start_outside = codes "start-outside"
verdict_text nets.target_inside = codes "target-inside"
verdict_text (nets.broken t m) = (codes "broken " ++ decimal t) ++ tokens_text m
verdict_text nets.proof = codes "proof"

-- a claim's line: its number, the verdict, the lowest earlier twin
abbrev pub claim_line : ℕ → nets.Verdict → Option Claim → List ℕ
claim_line i v j = (codes "claim " ++ decimal i) ++ codes " " ++ verdict_text v ++ twin_text j ++ newline

-- the same for the answer of a call, over n places
abbrev pub answer_text : Verdict → ℕ → List ℕ
answer_text verdicts.StartOutside n = codes "start-outside"
answer_text verdicts.TargetInside n = codes "target-inside"
answer_text (verdicts.Broken t m) n = (codes "broken " ++ decimal t.0) ++ tokens_text (take n m)
answer_text verdicts.Proof n = codes "proof"

abbrev pub answer_line : ℕ → Verdict → Option Claim → ℕ → List ℕ
answer_line i v j n = (codes "claim " ++ decimal i) ++ codes " " ++ answer_text v n ++ twin_text j ++ newline

-- a transition number of at most two digits
abbrev pub Brief : Verdict → Type 0
Brief verdicts.StartOutside = Unit {0}
Brief verdicts.TargetInside = Unit {0}
Brief (verdicts.Broken t m) = t.0 < 100
Brief verdicts.Proof = Unit {0}
