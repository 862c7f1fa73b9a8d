-- The line of a verdict is the line of its answer, and lines are joined one by one.
use mathlib.Core.Path.{◌≡◌, refl, ap, ◌∙◌, subst}
use mathlib.Core.List.{List, [], ◌++◌}
use Prim.Native.Nat.{ℕ, zero, suc, ◌-◌, ◌≤◌, ◌<◌}
use native.Mathlib.Omega.{arith}
use lib.Chars.{codes}
use lib.ListN.{length, replicate}
use lib.Seq.{take_at}
use borrow.Author.Tests.{leb-true}
use Rattle.std.specs.Prelude.{Option, None, Some, IfSome}
use Rattle.terms.specs.declared.Claim.{Claim}
use Rattle.nets.specs.Nets.{IsTransition, transition, none}
use Rattle.nets.specs.HalfSpaces.{HalfSpace}
use Rattle.nets.specs.Verdicts.{Verdict, start_outside, target_inside, broken, proof, IsVerdict}
use Rattle.nets.proofs.Vectors.{enabled-length}
use Rattle.format.specs.Contents.{Contents}
use Rattle.format.specs.Formed.{Formed, FormedTransition}
use Rattle.format.proofs.Sound.{places_fit_lem}
use Rattle.reader.proofs.Known.{all_at}
use Rattle.judged.specs.Judges.{verdict_of}
use Rattle.text.specs.Bytes.{decimal}
use Rattle.text.specs.declared.Writer.{Writer}
use Rattle.text.specs.Writing.{Puts}
use Rattle.text.proofs.Writing.{puts_then}
use Rattle.phrases.specs.Phrases.{tokens_text}
use Rattle.twins.specs.Answers.{IsTwinNumber}
use Rattle.lines.specs.Lines.{answer_text, verdict_text, Brief}
use Rattle.entries.specs.Entries.{IsLine, AreLines}

module _ (x : Contents) (f : Formed x) where
  pub limits : (x.setting.net.places ≤ 16) × (length x.setting.net.transitions ≤ 64) × (length x.claims ≤ 32)
  limits = ((places_fit_lem x.setting.net.places f.setting.places).1, leb-true (length x.setting.net.transitions) 64 f.setting.count, f.most)

  pub twin_small : (i : ℕ) (t : Option Claim) → i ≤ length x.claims → IsTwinNumber x i t → IfSome t (λ j. j.0 < 100)
  twin_small i None l t = tt
  twin_small i (Some j) l t = omega (arith, t.earlier, limits.2)

  formed_at : (t : ℕ) → 1 ≤ t → t ≤ length x.setting.net.transitions → FormedTransition x.setting.net.places (transition x.setting.net t)
  unfolding transition
  formed_at zero l m = absurd (omega arith)
  formed_at (suc j) l m = all_at (FormedTransition x.setting.net.places) none x.setting.net.transitions j (omega arith) f.setting.transitions

  module _ (h : HalfSpace) where
    pub brief : (v : Verdict) → IsVerdict x.setting h v → Brief (verdict_of v)
    unfolding IsVerdict IsTransition
    brief start_outside i = tt
    brief target_inside i = tt
    brief (broken t m) i = omega (arith, i.1.there.1, limits.1)
    brief proof i = tt

    pub same_text : (v : Verdict) → IsVerdict x.setting h v → answer_text (verdict_of v) x.setting.net.places ≡ verdict_text v
    unfolding IsVerdict IsTransition
    same_text start_outside i = refl
    same_text target_inside i = refl
    same_text (broken t m) i =
        let w = i.1.there in
        let long : length m ≡ x.setting.net.places = enabled-length (transition x.setting.net t) m i.1.shown.bad.enabled ∙ (formed_at t w.0 w.1).taken.places in
        ap (λ (ms : List ℕ). (codes "broken " ++ decimal t) ++ tokens_text ms) (take_at m (replicate (16 - length m) 0) x.setting.net.places long)
    same_text proof i = refl

pub lines_next : (x : Contents) (i : ℕ) (before line : List ℕ) → AreLines x i before → IsLine x (suc i) line → AreLines x (suc i) (before ++ line)
unfolding AreLines
lines_next x i before line a l = (before, line, a, l, refl)

-- one line more
pub one_more : (x : Contents) (i : ℕ) (u v w : Writer) → 1 ≤ i → (bs : List ℕ) × AreLines x (i - 1) bs × Puts bs u v → (bs : List ℕ) × IsLine x i bs × Puts bs v w → (bs : List ℕ) × AreLines x i bs × Puts bs u w
one_more x zero u v w l p n = absurd (omega arith)
one_more x (suc i) u v w l p n =
    let same : suc i - 1 ≡ i = omega arith in
    (p.0 ++ n.0, lines_next x i p.0 n.0 (subst (λ (k : ℕ). AreLines x k p.0) same p.1) n.1, puts_then p.0 n.0 u v w p.2 n.2)

pub lines_none : (x : Contents) → AreLines x 0 []
unfolding AreLines
lines_none x = refl
