-- The verdict on a half space: document 01, "Half spaces and verdicts".
use Rattle.std.specs.Prelude.{◌≡◌, List, [], ℕ}
use Rattle.nets.specs.HalfSpaces.{HalfSpace, sixteen}
use Rattle.nets.specs.Verdicts as nets
use Rattle.judged.specs.declared.Verdict.{Verdict}
use Rattle.judged.specs.declared.Verdict.TheVariants as verdicts

-- how each verdict is answered: broken names the transition, and its marking is held as 16 numbers, zero beyond place n
abbrev pub verdict_of : nets.Verdict → Verdict
verdict_of nets.start_outside = verdicts.StartOutside
verdict_of nets.target_inside = verdicts.TargetInside
verdict_of (nets.broken t m) = verdicts.Broken (record { 0 = t }) (sixteen 0 m)
verdict_of nets.proof = verdicts.Proof

-- the marking that an answer shows; zeros where it has none to show
abbrev pub marking_of : Verdict → List ℕ
marking_of verdicts.StartOutside = sixteen 0 []
marking_of verdicts.TargetInside = sixteen 0 []
marking_of (verdicts.Broken t m) = m
marking_of verdicts.Proof = sixteen 0 []

-- the answer is the verdict on the half space
abbrev pub Judges : nets.Setting → HalfSpace → Verdict → Type 0
Judges q h r = (v : nets.Verdict) × nets.IsVerdict q h v × (r ≡ verdict_of v)
