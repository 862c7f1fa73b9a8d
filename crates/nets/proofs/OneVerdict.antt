-- Verdicts: `proof` says exactly that the claim is a proof, and a claim has at most one verdict, but for the choice among bad markings.
use mathlib.Core.Logic.{◌↔◌}
use Prim.Native.Nat.{ℕ, ◌<◌}
use native.Mathlib.Omega.{arith}
use Rattle.nets.specs.Nets.{Marking}
use Rattle.nets.specs.HalfSpaces.{HalfSpace, Outside, Kept}
use Rattle.nets.specs.Verdicts.{Verdict, start_outside, target_inside, broken, proof, Setting, IsProof, TargetInside, BrokenFirst, IsVerdict, SameBut}

pub proof_exactly : (q : Setting) (h : HalfSpace) → IsVerdict q h proof ↔ IsProof q h
unfolding IsVerdict TargetInside Outside
proof_exactly q h = (
  λ v. record { start_inside = v.0.start_inside; target_outside = λ m g i. v.0.target_outside (m, g, i); every_kept = v.1 },
  λ p. (record { start_inside = p.start_inside; target_outside = λ w. p.target_outside w.0 w.1 w.2 }, p.every_kept),
)

module _ (q : Setting) (h : HalfSpace) where
  pub none_lower : (t u : ℕ) (m l : Marking) → BrokenFirst q h t m → BrokenFirst q h u l → u < t → ⊥
  unfolding Kept
  none_lower t u m l b c less = b.lowest u c.there less l c.shown.bad

  pub one_verdict : (v w : Verdict) → IsVerdict q h v → IsVerdict q h w → SameBut v w
  unfolding IsVerdict SameBut Outside Kept
  one_verdict start_outside start_outside a b = tt
  one_verdict start_outside target_inside a b = a b.0
  one_verdict start_outside (broken u l) a b = a b.0.start_inside
  one_verdict start_outside proof a b = a b.0.start_inside
  one_verdict target_inside start_outside a b = b a.0
  one_verdict target_inside target_inside a b = tt
  one_verdict target_inside (broken u l) a b = b.0.target_outside a.1
  one_verdict target_inside proof a b = b.0.target_outside a.1
  one_verdict (broken t m) start_outside a b = b a.0.start_inside
  one_verdict (broken t m) target_inside a b = a.0.target_outside b.1
  one_verdict (broken t m) (broken u l) a b =
      omega (arith, none_lower t u m l a.1 b.1, none_lower u t l m b.1 a.1)
  one_verdict (broken t m) proof a b = b.1 t a.1.there m a.1.shown.bad
  one_verdict proof start_outside a b = b a.0.start_inside
  one_verdict proof target_inside a b = a.0.target_outside b.1
  one_verdict proof (broken u l) a b = a.1 u b.1.there l b.1.shown.bad
  one_verdict proof proof a b = tt
