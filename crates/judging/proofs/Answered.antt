-- The verdict once each question is answered.
use Rattle.std.proofs.Common.{◌≡◌, refl, sym, ap, ◌∙◌, subst, ℤ, ◌↔◌, List, ℕ, length, take, Bool, true, false, IsTrue, Option, Some, None, IsSome}
use Rattle.std.proofs.lemmas.Bool.{false≢true}
use Rattle.terms.specs.declared.Transition.{Transition}
use Rattle.nets.specs.Nets as net
use Rattle.nets.specs.Nets.{IsTransition, transition}
use Rattle.nets.specs.HalfSpaces.{HalfSpace, Inside, Outside, Kept, Broken, sixteen}
use Rattle.nets.specs.Verdicts as nets
use Rattle.nets.specs.Verdicts.{Setting, TargetInside, Separates, IsVerdict}
use Rattle.values.proofs.Same.{same_space}
use Rattle.crossing.specs.Crosses.{Crosses}
use Rattle.inside.proofs.Targets.{inside_shown}
use Rattle.lowest.specs.Lowest.{FirstBroken}
use Rattle.judged.specs.declared.Verdict.TheVariants.{StartOutside, TargetInside as Reached, Broken as IsBroken, Proof}
use Rattle.judged.specs.Judges.{Judges}
use Rattle.reader.specs.declared.Target.{Target}
use Rattle.reader.specs.Targets.{target_shown}

not_so : {Q : Type 0} (t : Bool) → t ≡ false → (IsTrue t ↔ Q) → Q → ⊥
not_so t f told x = false≢true (sym f ∙ told.1 x)

-- what was asked of the coefficients and the constant was asked of the half space
pub inside_of : (h : HalfSpace) (m : List ℕ) {ks : List ℤ} {k : ℤ} {t : Bool} → (IsTrue t ↔ Inside (record { coefficients = ks; constant = k }) m) → ks ≡ h.coefficients → k ≡ h.constant → IsTrue t ↔ Inside h m
inside_of h m {ks} {k} {t} told e f = subst (λ (s : HalfSpace). IsTrue t ↔ Inside s m) (same_space h ks k e f) told

pub target_of : (h : HalfSpace) {ks : List ℤ} {k : ℤ} {t : Bool} {g : Target} → ((p : Setting) → g ≡ target_shown p.target → length p.target.tokens ≡ length ks → IsTrue t ↔ TargetInside p (record { coefficients = ks; constant = k })) → ks ≡ h.coefficients → k ≡ h.constant
    → (p : Setting) → g ≡ target_shown p.target → length p.target.tokens ≡ length h.coefficients → IsTrue t ↔ TargetInside p h
target_of h {ks} {k} {t} {g} told e f = subst (λ (s : HalfSpace). (p : Setting) → g ≡ target_shown p.target → length p.target.tokens ≡ length s.coefficients → IsTrue t ↔ TargetInside p s) (same_space h ks k e f) told

-- the start as it is shown was asked
module _ (q : Setting) (h : HalfSpace) (n : ℕ) (tokens : List ℕ) (some : n ≡ length h.coefficients) (start : tokens ≡ sixteen 0 q.start) (in_start : Bool) (told_start : IsTrue in_start ↔ Inside h (take n tokens)) where
  shown : Inside h (take n tokens) ↔ Inside h q.start
  shown = inside_shown h n q.start tokens some start

  pub outside_so : in_start ≡ false → Judges q h StartOutside
  unfolding IsVerdict Outside
  outside_so f = (nets.start_outside, (λ i. not_so in_start f told_start (shown.1 i)), refl)

  -- and then the target as it is shown
  module _ (s : in_start ≡ true) (g : Target) (target : g ≡ target_shown q.target) (places : length q.target.tokens ≡ length h.coefficients) (in_target : Bool) (told_target : (p : Setting) → g ≡ target_shown p.target → length p.target.tokens ≡ length h.coefficients → IsTrue in_target ↔ TargetInside p h) where
    started : Inside h q.start
    started = shown.0 (told_start.0 s)

    pub target_so : in_target ≡ true → Judges q h Reached
    unfolding IsVerdict
    target_so t = (nets.target_inside, (started, (told_target q target places).0 t), refl)

    -- and then the transitions
    module _ (f : in_target ≡ false) (t : Option Transition) (told : FirstBroken q.net h t) where
      apart : Separates q h
      apart = record { start_inside = started; target_outside = not_so in_target f (told_target q target places) }

      pub proof_so : t ≡ None → Judges q h Proof
      unfolding IsVerdict
      proof_so e = (nets.proof, (apart, subst (FirstBroken q.net h) e told), refl)

      pub broken_so : (u : Transition) (m : List ℕ) (c : Option (List ℕ)) (w : net.Transition) → t ≡ Some u → c ≡ Some m → w ≡ transition q.net u.0 → Crosses h w c → Judges q h (IsBroken u m)
      unfolding IsVerdict
      broken_so u m c w e k same crossed =
          let first : FirstBroken q.net h (Some u) = subst (FirstBroken q.net h) e told in
          let bad : Crosses h (transition q.net u.0) (Some m) = subst (λ w. Crosses h w (Some m)) same (subst (Crosses h w) k crossed) in
          (nets.broken u.0 bad.0, (apart, record { there = first.0; shown = bad.1; lowest = first.2 }), ap (IsBroken u) bad.2)

-- where a transition breaks it the search finds a marking
pub found : (h : HalfSpace) (N : net.Net) (t : Option Transition) (u : Transition) (c : Option (List ℕ)) (w : net.Transition) → FirstBroken N h t → t ≡ Some u → w ≡ transition N u.0 → Crosses h w c → IsSome c
unfolding Kept Broken
found h N t u (Some m) w f e same k = refl
found h N t u None w f e same k = let first : FirstBroken N h (Some u) = subst (FirstBroken N h) e f in absurd (subst (Kept h) same k first.1.0 first.1.1)
