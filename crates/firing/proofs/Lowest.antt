-- The lowest place for which a test holds: one law for each way on of a loop over the places, and what is known where no place was found.
use Rattle.std.specs.Prelude.{Err, Ok}
use mathlib.Core.Path.{◌≡◌, refl, sym, ap, ◌∙◌}
use mathlib.Core.Bool.{Bool, true, false}
use mathlib.Core.Logic.{◌⊎◌, inl, inr, ⊎_elim}
use Prim.Native.Nat.{ℕ, zero, suc, ◌+◌, ◌-◌, ◌≤◌, ◌<◌}
use native.Mathlib.Numerals.{add-one}
use native.Mathlib.Omega.{arith}
use Rattle.terms.specs.declared.Place.{Place}
use Rattle.refusals.specs.declared.Refusal.{Refusal}
use Rattle.format.specs.Read.{choose}
use Rattle.refusals.specs.Refusals.{Check}
use Rattle.format.proofs.Parts.{never_both}
use Rattle.firing.specs.Firing.{lowest}
use Rattle.firing.specs.Table.{IsLowest}

abbrev pub number : ℕ → Place
number p = record { 0 = p + 1 }

module _ (test : ℕ → Bool) (refusal : Place → Refusal) where
  -- at the place behind p others
  module _ (n p : ℕ) (within : p < n) where
    left : n - p ≡ suc (n - (p + 1))
    left = let e : n - p ≡ (n - (p + 1)) + 1 = omega arith in e ∙ add-one _

    at_place : lowest test refusal p (n - p) ≡ choose (test p) (Err (refusal (number p))) (lowest test refusal (p + 1) (n - (p + 1)))
    unfolding lowest
    at_place = ap (lowest test refusal p) left

    pub found : test p ≡ true → lowest test refusal p (n - p) ≡ Err (refusal (number p))
    found h = at_place ∙ ap (λ (b : Bool). choose b (Err (refusal (number p))) (lowest test refusal (p + 1) (n - (p + 1)))) h

    pub passed : test p ≡ false → lowest test refusal p (n - p) ≡ lowest test refusal (p + 1) (n - (p + 1))
    passed h = at_place ∙ ap (λ (b : Bool). choose b (Err (refusal (number p))) (lowest test refusal (p + 1) (n - (p + 1)))) h

  pub all_passed : (n p : ℕ) → n ≤ p → lowest test refusal p (n - p) ≡ (Ok tt)
  unfolding lowest
  all_passed n p h = let e : n - p ≡ 0 = omega arith in rw e

  -- where none is found the test holds of none
  behind_first : (b : Bool) (k p : ℕ) → test p ≡ b → (lowest test refusal (p + 1) k ≡ (Ok tt) → (i : ℕ) → i < k → test (p + 1 + i) ≡ false)
      → choose b (Err (refusal (number p))) (lowest test refusal (p + 1) k) ≡ (Ok tt) → (i : ℕ) → i < suc k → test (p + i) ≡ false
  behind_first true k p h rest e i l = absurd (never_both _ tt e)
  behind_first false k p h rest e zero l = ap test (omega arith) ∙ h
  behind_first false k p h rest e (suc i) l = ap test (omega arith) ∙ rest e i (omega arith)

  none_behind : (k p : ℕ) → lowest test refusal p k ≡ (Ok tt) → (i : ℕ) → i < k → test (p + i) ≡ false
  unfolding lowest
  none_behind zero p e i l = absurd (omega arith)
  none_behind (suc k) p e i l = behind_first (test p) k p refl (none_behind k (p + 1)) e i l

  pub none_found : (n : ℕ) → lowest test refusal 0 n ≡ (Ok tt) → (p : ℕ) → p < n → test p ≡ false
  none_found n e p l = ap test (omega arith) ∙ none_behind n 0 e p l

  -- the one that is found, and that none stands before it
  pub record Found (k p : ℕ) (q : Check) : Type 0 where
    pub at : ℕ
    pub within : at < k
    pub holds : test (p + at) ≡ true
    pub none_before : (i : ℕ) → i < at → test (p + i) ≡ false
    pub refused : q ≡ Err (refusal (number (p + at)))

  later : (k p : ℕ) (q : Check) → test p ≡ false → Found k (p + 1) q → Found (suc k) p q
  later k p q h f =
      let same : p + 1 + f.at ≡ p + suc f.at = omega arith in
      record {
        at = suc f.at;
        within = omega (arith, f.within);
        holds = ap test (sym same) ∙ f.holds;
        none_before = before;
        refused = f.refused ∙ ap (λ (p : ℕ). Err (refusal (number p))) same;
      }
    where
      before : (i : ℕ) → i < suc f.at → test (p + i) ≡ false
      before zero l = ap test (omega arith) ∙ h
      before (suc i) l = ap test (omega arith) ∙ f.none_before i (omega arith)

  by_first : (b : Bool) (k p : ℕ) → test p ≡ b → (lowest test refusal (p + 1) k ≡ (Ok tt)) ⊎ Found k (p + 1) (lowest test refusal (p + 1) k)
      → (choose b (Err (refusal (number p))) (lowest test refusal (p + 1) k) ≡ (Ok tt)) ⊎ Found (suc k) p (choose b (Err (refusal (number p))) (lowest test refusal (p + 1) k))
  by_first true k p h rest =
      let same : p ≡ p + 0 = omega arith in
      inr (record {
        at = 0;
        within = omega arith;
        holds = ap test (sym same) ∙ h;
        none_before = λ i l. absurd (omega arith);
        refused = ap (λ (p : ℕ). Err (refusal (number p))) same;
      })
  by_first false k p h rest = ⊎_elim (λ e. inl e) (λ f. inr (later k p _ h f)) rest

  none_or_found : (k p : ℕ) → (lowest test refusal p k ≡ (Ok tt)) ⊎ Found k p (lowest test refusal p k)
  unfolding lowest
  none_or_found zero p = inl refl
  none_or_found (suc k) p = by_first (test p) k p refl (none_or_found k (p + 1))

  -- what the test says of a place as P, by its number
  module _ (n : ℕ) (P : Place → Type 0) (is : (p : Place) → test (p.0 - 1) ≡ true → P p) (is-not : (p : Place) → test (p.0 - 1) ≡ false → P p → ⊥) where
    pub record Named (q : Check) : Type 0 where
      pub place : Place
      pub is_lowest : IsLowest P place
      pub is_refused : q ≡ Err (refusal place)

    named : (q : Check) → Found n 0 q → Named q
    named q f =
        record {
          place = number f.at;
          is_lowest = record {
            numbered = omega arith;
            holds = is (number f.at) (ap test (omega arith) ∙ f.holds);
            least = λ p s l. is-not p (ap test (omega arith) ∙ f.none_before (p.0 - 1) (omega arith));
          };
          is_refused = f.refused ∙ ap (λ (p : ℕ). Err (refusal (number p))) (omega arith);
        }

    pub none_or_lowest : (lowest test refusal 0 n ≡ (Ok tt)) ⊎ Named (lowest test refusal 0 n)
    none_or_lowest = ⊎_elim (λ e. inl e) (λ f. inr (named _ f)) (none_or_found n 0)
