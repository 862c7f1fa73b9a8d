-- What the verdict call's answer tells: `Proof` says that the sheet's claim is a proof, so that no firing sequence reaches a target marking; and two results that fit one statement are equal, but for the choice among bad markings.
use Rattle.std.specs.Prelude.{Err, Ok}
use mathlib.Core.Path.{◌≡◌, refl, sym, ap, ◌∙◌, subst}
use mathlib.Core.Bool.{Bool, true, false}
use mathlib.Core.Logic.{◌⊎◌, inl, inr}
use mathlib.Core.List.{List}
use Prim.Native.Nat.{ℕ}
use native.Mathlib.Omega.{arith}
use lib.ListN.{length}
use Rattle.terms.specs.Limits.{among, areas_fit}
use Rattle.terms.specs.declared.Claim.{Claim}
use Rattle.terms.specs.declared.Transition.{Transition}
use Rattle.refusals.specs.declared.Refusal.{Refusal}
use Rattle.refusals.specs.declared.Refusal.TheVariants.{NotAClaim, SmallArea}
use Rattle.nets.specs.Nets.{Marking, Ends}
use Rattle.nets.specs.HalfSpaces.{HalfSpace, sixteen}
use Rattle.nets.specs.Verdicts as nets
use Rattle.nets.specs.Verdicts.{Setting, IsTarget, IsProof, SameBut}
use Rattle.nets.proofs.OneVerdict.{proof_exactly, one_verdict}
use Rattle.nets.proofs.Consequence.{nothing_reached}
use Rattle.format.specs.Read.{Read, choose, need, ◌>>=◌, ◌>>◌}
use Rattle.format.specs.Checked.{checked}
use Rattle.format.specs.Contents.{Contents, half_space, claim}
use Rattle.format.specs.Reading.{reading}
use Rattle.judged.specs.declared.Verdict.{Verdict}
use Rattle.judged.specs.declared.Verdict.TheVariants as verdicts
use Rattle.judged.specs.Judges.{verdict_of, Judges}
use Rattle.verdicts.specs.Judged.{asked, verdict_check, IsJudgedIn, IsJudged}

-- no other verdict is `Proof`
so_proof : (q : Setting) (h : HalfSpace) → Judges q h verdicts.Proof → IsProof q h
so_proof q h (nets.start_outside, v, e) = absurd (let z : ◌≡◌ {A = ℕ} 0 1 = cc in omega arith)
so_proof q h (nets.target_inside, v, e) = absurd (let z : ◌≡◌ {A = ℕ} 0 1 = cc in omega arith)
so_proof q h (nets.broken t m, v, e) = absurd (let z : ◌≡◌ {A = ℕ} 0 1 = cc in omega arith)
so_proof q h (nets.proof, v, e) = (proof_exactly q h).0 v

never : (v : Verdict) (q : Refusal) → ◌≡◌ {A = Read Verdict} (Ok v) (Err q) → ⊥
never v q e = let z : ◌≡◌ {A = ℕ} 0 1 = cc in omega arith

-- a verdict is given only where every test is passed
given_so : (q : Setting) (h : HalfSpace) (t f : Bool) (a b : Refusal) (v : Verdict) → IsJudgedIn (choose t (Ok h) (Err a) >>= λ h. need f b >> Ok (q, h)) (Ok v) → Judges q h v
given_so q h true true a b v j = j
given_so q h true false a b v j = absurd (never v b j)
given_so q h false f a b v j = absurd (never v a j)

judged_so : (x : Contents) (i : Claim) (marks queue : ℕ) (v : Verdict) → IsJudged (Ok x) i marks queue (Ok v) → Judges x.setting (half_space (claim x i.0)) v
judged_so x i marks queue v j = given_so x.setting (half_space (claim x i.0)) (among i.0 (length x.claims)) (areas_fit marks queue) (NotAClaim i) SmallArea v j

-- Demand 3, over the call's answer.
pub proof_tells : (s : List ℕ) (i : Claim) (marks queue : ℕ) (r : Read Verdict) → IsJudged (reading s) i marks queue r → r ≡ Ok verdicts.Proof → (x : Contents) × (reading s ≡ Ok x) × IsProof x.setting (half_space (claim x i.0)) × ((ts : List ℕ) (e : Marking) → Ends x.setting.net x.setting.start ts e → IsTarget x.setting.target e → ⊥)
proof_tells s i marks queue r j a = by (reading s) refl (subst (IsJudged (reading s) i marks queue) a j)
  where
    by : (y : Read Contents) → reading s ≡ y → IsJudged y i marks queue (Ok verdicts.Proof) → (x : Contents) × (reading s ≡ Ok x) × IsProof x.setting (half_space (claim x i.0)) × ((ts : List ℕ) (e : Marking) → Ends x.setting.net x.setting.start ts e → IsTarget x.setting.target e → ⊥)
    by (Err q) e j = absurd (let z : ◌≡◌ {A = ℕ} 0 1 = cc in omega arith)
    by (Ok x) e j =
        let p = so_proof x.setting (half_space (claim x i.0)) (judged_so x i marks queue verdicts.Proof j) in
        (x, e, p, nothing_reached x.setting (half_space (claim x i.0)) p)

-- and the other way round: a claim that is a proof, asked for where nothing is refused, is answered so
only_proof : (v : nets.Verdict) → SameBut v nets.proof → verdict_of v ≡ verdicts.Proof
unfolding SameBut
only_proof nets.start_outside s = absurd s
only_proof nets.target_inside s = absurd s
only_proof (nets.broken t m) s = absurd s
only_proof nets.proof s = refl

proof_only : (q : Setting) (h : HalfSpace) (v : Verdict) → Judges q h v → IsProof q h → v ≡ verdicts.Proof
proof_only q h v j p = j.2 ∙ only_proof j.0 (one_verdict q h j.0 nets.proof j.1 ((proof_exactly q h).1 p))

given_proof : (q : Setting) (h : HalfSpace) (t f : Bool) (a b : Refusal) (r : Read Verdict) → IsJudgedIn (choose t (Ok h) (Err a) >>= λ h. need f b >> Ok (q, h)) r → checked {A = Setting × HalfSpace} (choose t (Ok h) (Err a) >>= λ h. need f b >> Ok (q, h)) ≡ Ok tt → IsProof q h → r ≡ Ok verdicts.Proof
given_proof q h true true a b (Ok v) j e p = ap Ok (proof_only q h v j p)
given_proof q h true true a b (Err s) j e p = absurd j
given_proof q h true false a b r j e p = absurd (let z : ◌≡◌ {A = ℕ} 0 1 = cc in omega arith)
given_proof q h false f a b r j e p = absurd (let z : ◌≡◌ {A = ℕ} 0 1 = cc in omega arith)

pub proof_given : (s : List ℕ) (i : Claim) (marks queue : ℕ) (r : Read Verdict) (x : Contents) → IsJudged (reading s) i marks queue r → reading s ≡ Ok x → verdict_check (Ok x) i marks queue ≡ Ok tt → IsProof x.setting (half_space (claim x i.0)) → r ≡ Ok verdicts.Proof
proof_given s i marks queue r x j e f p =
    let k : IsJudged (Ok x) i marks queue r = subst (λ (y : Read Contents). IsJudged y i marks queue r) e j in
    given_proof x.setting (half_space (claim x i.0)) (among i.0 (length x.claims)) (areas_fit marks queue) (NotAClaim i) SmallArea r k f p

-- broken by this transition, with some marking
abbrev pub IsBrokenBy : Transition → Read Verdict → Type 0
IsBrokenBy t r = (m : List ℕ) × (r ≡ Ok (verdicts.Broken t m))

-- the same answer, and the same marking unless it is a bad one
abbrev pub SameButMarking : Read Verdict → Read Verdict → Type 0
SameButMarking r p = (r ≡ p) ⊎ ((t : Transition) × IsBrokenBy t r × IsBrokenBy t p)

one_verdict_one_answer : (v w : nets.Verdict) → SameBut v w → SameButMarking (Ok (verdict_of v)) (Ok (verdict_of w))
unfolding SameBut
one_verdict_one_answer nets.start_outside nets.start_outside s = inl refl
one_verdict_one_answer nets.start_outside nets.target_inside s = absurd s
one_verdict_one_answer nets.start_outside (nets.broken u l) s = absurd s
one_verdict_one_answer nets.start_outside nets.proof s = absurd s
one_verdict_one_answer nets.target_inside nets.start_outside s = absurd s
one_verdict_one_answer nets.target_inside nets.target_inside s = inl refl
one_verdict_one_answer nets.target_inside (nets.broken u l) s = absurd s
one_verdict_one_answer nets.target_inside nets.proof s = absurd s
one_verdict_one_answer (nets.broken t m) nets.start_outside s = absurd s
one_verdict_one_answer (nets.broken t m) nets.target_inside s = absurd s
one_verdict_one_answer (nets.broken t m) (nets.broken u l) s = inr (record { 0 = u }, (sixteen 0 m, ap (λ (j : ℕ). Ok (verdicts.Broken (record { 0 = j }) (sixteen 0 m))) s), (sixteen 0 l, refl))
one_verdict_one_answer (nets.broken t m) nets.proof s = absurd s
one_verdict_one_answer nets.proof nets.start_outside s = absurd s
one_verdict_one_answer nets.proof nets.target_inside s = absurd s
one_verdict_one_answer nets.proof (nets.broken u l) s = absurd s
one_verdict_one_answer nets.proof nets.proof s = inl refl

one_asked : (k : Read (Setting × HalfSpace)) (r p : Read Verdict) → IsJudgedIn k r → IsJudgedIn k p → SameButMarking r p
one_asked (Err q) r p a b = inl (a ∙ sym b)
one_asked (Ok (q, h)) (Ok r) (Ok p) (v, a, e) (w, b, f) = rw (e, f) (one_verdict_one_answer v w (one_verdict q h v w a b))
one_asked (Ok (q, h)) (Ok r) (Err p) a b = absurd b
one_asked (Ok (q, h)) (Err r) p a b = absurd a

-- Two results for the same sheet, claim and areas.
pub two_answers : (y : Read Contents) (i : Claim) (marks queue : ℕ) (r p : Read Verdict) → IsJudged y i marks queue r → IsJudged y i marks queue p → SameButMarking r p
two_answers y i marks queue r p a b = one_asked (asked y i marks queue) r p a b
