-- The numbers of verdicts: document 01's list from 1 to 4, and the transition, 0 but where the claim is broken.
use Rattle.std.specs.Prelude.{ℕ}
use Rattle.judged.specs.declared.Verdict.{Verdict}
use Rattle.judged.specs.declared.Verdict.TheVariants.{StartOutside, TargetInside, Broken, Proof}

abbrev pub verdict_number : Verdict → ℕ
verdict_number StartOutside = 1
verdict_number TargetInside = 2
verdict_number (Broken t m) = 3
verdict_number Proof = 4

abbrev pub verdict_transition : Verdict → ℕ
verdict_transition StartOutside = 0
verdict_transition TargetInside = 0
verdict_transition (Broken t m) = t.0
verdict_transition Proof = 0
