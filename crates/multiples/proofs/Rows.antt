-- A test of each coefficient with its other tells whether one row is d times the other.
use mathlib.Core.Path.{◌≡◌, refl, sym, ap, ◌∙◌}
use mathlib.Core.Bool.{Bool, true, false}
use mathlib.Core.List.{List, [], ◌∷◌, map}
use mathlib.Core.Logic.{◌↔◌}
use Prim.Native.Nat.{ℕ, ◌<◌}
use native.Mathlib.Omega.{arith}
use lib.IntN.{ℤ, pos, ◌*ℤ◌}
use lib.ListN.{length, get_or, length-map}
use lib.Seq.{ext_get_or}
use Rattle.std.specs.Prelude.{IsTrue}
use Rattle.std.proofs.lemmas.Bool.{false≢true}
use Rattle.std.proofs.lemmas.List.{get_or-map}
use Rattle.std.specs.Bool.{MatchBool}
use Rattle.std.specs.List.{HoldsAt, AllWithin, zip}
use Rattle.std.proofs.lemmas.Slice.Zip.{length-zip, get_or-zip}
use Rattle.reduction.proofs.Scaled.{times}
use Rattle.multiples.proofs.Scaled.{times_at}

-- a coefficient is d times another
abbrev pub Agree : {A : Type 0} → (A → ℤ) → ℕ → A × ℤ → Type 0
Agree told d p = told p.0 ≡ p.1 *ℤ pos d

module _ {A : Type 0} (told : A → ℤ) where
  -- an element, for a place that is there
  one_of : (xs : List A) → 0 < length xs → A
  one_of [] l = absurd (omega arith)
  one_of (x ∷ xs) l = x

  module _ (d : ℕ) (xs : List A) (ks : List ℤ) (long : length xs ≡ length ks) where
    many : length (zip xs ks) ≡ length xs
    many = omega (arith, length-zip xs ks)

    pair : (q : ℕ) (a : A) → q < length xs → get_or (zip xs ks) q (a, pos 0) ≡ (get_or xs q a, get_or ks q (pos 0))
    pair q a l = get_or-zip xs ks q (a, pos 0) l (omega arith)

    pub rows_told : (r : Bool) → MatchBool r (AllWithin (Agree told d) (zip xs ks) 0 (length (zip xs ks))) ((q : ℕ) × (q < length (zip xs ks)) × HoldsAt (λ p. Agree told d p → ⊥) (zip xs ks) q) → IsTrue r ↔ (map told xs ≡ times d ks)
    rows_told true all = (λ _. ext_get_or (pos 0) _ _ (length-map xs told ∙ long ∙ sym (length-map ks (λ (z : ℤ). z *ℤ pos d))) each, λ _. refl)
      where
        each : (q : ℕ) → q < length (map told xs) → get_or (map told xs) q (pos 0) ≡ get_or (times d ks) q (pos 0)
        each q m =
            let l : q < length xs = omega (arith, m, length-map xs told) in
            let a = one_of xs (omega (arith, l)) in
            get_or-map told xs q a (pos 0) l ∙ rw (pair q a l) at (all q (a, pos 0) (omega arith) (omega (arith, many))) ∙ sym (times_at d ks q)
    rows_told false w =
        let l : w.0 < length xs = omega (arith, w.1, many) in
        let a = one_of xs (omega (arith, l)) in
        (λ e. absurd (false≢true e), λ same. absurd (rw (pair w.0 a l) at (w.2 (a, pos 0)) (sym (get_or-map told xs w.0 a (pos 0) l) ∙ ap (λ (r : List ℤ). get_or r w.0 (pos 0)) same ∙ times_at d ks w.0)))
