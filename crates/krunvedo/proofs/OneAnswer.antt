-- Two results of an export that fit its statement are equal, but for the choice among bad markings: the calls' own laws, over numbers.
use mathlib.Core.Path.{◌≡◌, refl, sym, ap, ◌∙◌}
use mathlib.Core.Logic.{inl, inr}
use Prim.Native.Nat.{ℕ}
use Rattle.terms.specs.declared.Claim.{Claim}
use Rattle.terms.specs.declared.Transition.{Transition}
use Rattle.format.specs.Read.{Read}
use Rattle.format.specs.Contents.{Contents}
use Rattle.pairs.specs.declared.Answer.{Answer}
use Rattle.pairs.proofs.Tells as pairs
use Rattle.judged.specs.declared.Verdict as judged
use Rattle.verdicts.proofs.Tells as verdicts
use Rattle.twins.proofs.OneAnswer.{one_reduced, one_twin}
use Rattle.numbers.specs.declared.Space.{Space}
use Rattle.numbers.specs.declared.Paired.{Paired}
use Rattle.numbers.specs.declared.Verdict.{Verdict}
use Rattle.numbers.specs.declared.Twinned.{Twinned}
use Rattle.numbers.specs.Numbers.{pair_is, verdict_is, form_is, twin_is}
use Rattle.krunvedo.specs.Exports.{IsPaired, IsVerdict, IsReducedSpace, IsTwinned}

-- the same but for the marking of a broken pair, whose number is 2
pub record SamePair (r p : Paired) : Type 0 where
  pub refusal : r.refusal ≡ p.refusal
  pub answer : r.answer ≡ p.answer
  pub else_equal : (r.answer ≡ 2 → ⊥) → r ≡ p

-- the same but for the marking of a broken claim, whose number is 3
pub record SameVerdict (r p : Verdict) : Type 0 where
  pub refusal : r.refusal ≡ p.refusal
  pub answer : r.answer ≡ p.answer
  pub transition : r.transition ≡ p.transition
  pub else_equal : (r.answer ≡ 3 → ⊥) → r ≡ p

same_pair : (q u : Read Answer) → pairs.SameButMarking q u → SamePair (pair_is q) (pair_is u)
same_pair q u (inl s) = rw s record { refusal = refl; answer = refl; else_equal = λ n. refl }
same_pair q u (inr ((m, s), (l, z))) = rw (s, z) record { refusal = refl; answer = refl; else_equal = λ n. absurd (n refl) }

same_verdict : (v w : Read judged.Verdict) → verdicts.SameButMarking v w → SameVerdict (verdict_is v) (verdict_is w)
same_verdict v w (inl s) = rw s record { refusal = refl; answer = refl; transition = refl; else_equal = λ n. refl }
same_verdict v w (inr (t, (m, s), (l, z))) = rw (s, z) record { refusal = refl; answer = refl; transition = refl; else_equal = λ n. absurd (n refl) }

module _ (y : Read Contents) (i : Claim) where
  pub one_paired : (t : Transition) (marks queue : ℕ) (r p : Paired) → IsPaired y i t marks queue r → IsPaired y i t marks queue p → SamePair r p
  one_paired t marks queue r p (q, a, e) (u, b, f) = rw (e, f) (same_pair q u (pairs.two_answers y i t marks queue q u a b))

  pub one_verdict : (marks queue : ℕ) (r p : Verdict) → IsVerdict y i marks queue r → IsVerdict y i marks queue p → SameVerdict r p
  one_verdict marks queue r p (v, a, e) (w, b, f) = rw (e, f) (same_verdict v w (verdicts.two_answers y i marks queue v w a b))

  pub one_space : (r p : Space) → IsReducedSpace y i r → IsReducedSpace y i p → r ≡ p
  one_space r p (f, a, e) (g, b, d) = e ∙ ap form_is (one_reduced y i f g a b) ∙ sym d

  pub one_twinned : (r p : Twinned) → IsTwinned y i r → IsTwinned y i p → r ≡ p
  one_twinned r p (t, a, e) (u, b, d) = e ∙ ap twin_is (one_twin y i t u a b) ∙ sym d
