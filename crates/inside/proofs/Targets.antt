-- When a target marking is inside, over the target as it is shown: the written one, or for kind 1 one above it (Theorem 7 of 004).
use Rattle.std.proofs.Common.{◌≡◌, refl, sym, ap, ◌∙◌, ◌↔◌, ◌⊎◌, inl, inr, List, ℕ, length, take, Bool, true, false, IsTrue, ℤ, subst, arith}
use Rattle.std.proofs.lemmas.Bool.{false≢true}
use Rattle.nets.specs.HalfSpaces.{HalfSpace, Inside, sixteen}
use Rattle.nets.specs.Verdicts as nets
use Rattle.nets.specs.Verdicts.{Setting, TargetInside, SomeAbove}
use Rattle.nets.proofs.Theorem7.{theorem_7, theorem_7_exact}
use Rattle.amounts.specs.declared.Kind.TheVariants.{Exact, AtOrAbove}
use Rattle.reader.specs.declared.Target.{Target}
use Rattle.reader.specs.Targets.{kind_is, target_shown}
use Rattle.inside.proofs.Rows.{value_sixteen}

is_exact : (k : nets.Kind) → kind_is k ≡ Exact → k ≡ nets.exact
is_exact nets.exact e = refl
is_exact nets.at_or_above e = absurd (let z : ◌≡◌ {A = ℕ} 0 1 = cc in omega arith)

is_above : (k : nets.Kind) → kind_is k ≡ AtOrAbove → k ≡ nets.at_or_above
is_above nets.exact e = absurd (let z : ◌≡◌ {A = ℕ} 0 1 = cc in omega arith)
is_above nets.at_or_above e = refl

-- the first of the sixteen numbers that are shown are inside where the marking is
pub inside_shown : (h : HalfSpace) (n : ℕ) (m tokens : List ℕ) → n ≡ length h.coefficients → tokens ≡ sixteen 0 m → Inside h (take n tokens) ↔ Inside h m
unfolding Inside
inside_shown h n m tokens e f = rw (e, f, value_sixteen h.coefficients m) ((λ i. i), (λ i. i))

module _ (h : HalfSpace) (g : Target) (n : ℕ) (places : n ≡ length h.coefficients) (written : Bool) (told : IsTrue written ↔ Inside h (take n g.tokens)) (q : Setting) (e : g ≡ target_shown q.target) where
  as_written : IsTrue written ↔ Inside h q.target.tokens
  as_written =
      let i = inside_shown h n q.target.tokens g.tokens places (ap (λ (g : Target). g.tokens) e) in
      ((λ t. i.0 (told.0 t)), (λ j. told.1 (i.1 j)))

  pub exact_told : g.kind ≡ Exact → IsTrue written ↔ TargetInside q h
  exact_told k =
      let t = theorem_7_exact q h (is_exact q.target.kind (sym (ap (λ (g : Target). g.kind) e) ∙ k)) in
      ((λ w. t.1 (as_written.0 w)), (λ i. as_written.1 (t.0 i)))

  module _ (k : g.kind ≡ AtOrAbove) (l : length q.target.tokens ≡ length h.coefficients) where
    both : TargetInside q h ↔ (Inside h q.target.tokens ⊎ SomeAbove h.coefficients)
    both = theorem_7 q h (is_above q.target.kind (sym (ap (λ (g : Target). g.kind) e) ∙ k)) (sym l)

    pub written_told : written ≡ true → IsTrue written ↔ TargetInside q h
    written_told w = ((λ t. both.1 (inl (as_written.0 t))), (λ i. w))

    pub above_told : (above : Bool) (ks : List ℤ) → written ≡ false → ks ≡ h.coefficients → (IsTrue above ↔ SomeAbove ks) → IsTrue above ↔ TargetInside q h
    above_told above ks f r a = ((λ t. both.1 (inr (subst SomeAbove r (a.0 t)))), (λ i. by (both.0 i)))
      where
        by : Inside h q.target.tokens ⊎ SomeAbove h.coefficients → IsTrue above
        by (inl i) = absurd (false≢true (sym f ∙ as_written.1 i))
        by (inr s) = a.1 (subst SomeAbove (sym r) s)
