-- The table's "given exactly when" for a step of a sound sheet: 12, 15 and 16 are given just where the net says so, each with its detail, and otherwise the step is fine.
use Rattle.std.specs.Prelude.{Err, Ok}
use mathlib.Core.Path.{◌≡◌, refl, sym, ap, ◌∙◌, subst}
use mathlib.Core.Bool.{Bool, true, false}
use mathlib.Core.Logic.{◌↔◌, ◌⊎◌, inl, inr, ⊎_elim}
use mathlib.Core.List.{[], ◌∷◌}
use Prim.Native.Nat.{ℕ, zero, suc, ◌-◌, ◌≤◌, ◌<◌}
use native.Mathlib.Omega.{arith}
use lib.Dec.{ltb}
use lib.ListN.{length, take, get_or-eq_default}
use lib.Seq.{length-take-le}
use borrow.Author.Tests.{le-leb, ltb-true, ltb-false}
use Rattle.terms.specs.Limits.{among, most_tokens}
use Rattle.refusals.specs.declared.Refusal.TheVariants.{NotATransition, NotEnabled, TooManyTokens}
use Rattle.refusals.specs.Refusals.{number_of, detail_of}
use Rattle.terms.specs.declared.Place.{Place}
use Rattle.terms.specs.declared.Transition.{Transition}
use Rattle.nets.specs.Nets as nets
use Rattle.nets.specs.Nets.{◌⊑◌, Enabled, IsTransition, fire, none}
use Rattle.nets.specs.Verdicts.{Setting}
use Rattle.format.specs.Read.{choose}
use Rattle.format.specs.Contents.{Contents}
use Rattle.format.specs.Formed.{FormedTransition, FormedSetting}
use Rattle.format.proofs.Sound.{places_fit_lem}
use Rattle.refusals.specs.Refusals.{Check}
use Rattle.reader.proofs.Known.{all_at}
use Rattle.reader.proofs.Taken.{among_some}
use Rattle.firing.specs.Firing.{is_short, is_over, lowest_short, lowest_over}
use Rattle.walk.specs.Walk.{first, firing_checks, step_of}
use Rattle.walk.specs.declared.Marking.{Marking}
use Rattle.firing.specs.Table.{tokens_in, IsLowest, Short, Over}
use Rattle.firing.proofs.Lowest.{none_found, none_or_lowest}
use Rattle.firing.proofs.Fires.{fire-length}

-- the number and the detail of an answer tell refusals apart
abbrev check_number : Check → ℕ
check_number (Ok u) = 0
check_number (Err r) = number_of r

abbrev check_detail : Check → ℕ
check_detail (Ok u) = 0
check_detail (Err r) = detail_of r

same_place : (p q : Place) → p.0 ≡ q.0 → p ≡ q
same_place p q e = ap {B = Place} (λ (i : ℕ). record { 0 = i }) e

pub below_or_not : (a b : ℕ) → (a < b) ⊎ (b ≤ a)
below_or_not a b = by_test (ltb a b) refl
  where
    by_test : (t : Bool) → ltb a b ≡ t → (a < b) ⊎ (b ≤ a)
    by_test true e = inl (ltb-true a b e)
    by_test false e = inr (ltb-false a b e)

-- there is one lowest place at most
one_lowest : (P : Place → Type 0) (p q : Place) → IsLowest P p → IsLowest P q → p ≡ q
one_lowest P p q a b =
    ⊎_elim (λ l. absurd (b.least p a.numbered l a.holds))
    (λ l. ⊎_elim (λ g. absurd (a.least q b.numbered g b.holds)) (λ g. same_place p q (omega arith)) (below_or_not q.0 p.0))
    (below_or_not p.0 q.0)

among_so : (i count : ℕ) → 1 ≤ i → i ≤ count → among i count ≡ true
among_so i count l h = rw (le-leb 1 i l) (le-leb i count h)

-- A transition of a formed net has a weight for each place.
pub weights_formed : (q : Setting) → FormedSetting q → (t : ℕ) → IsTransition q.net t → FormedTransition q.net.places (nets.transition q.net t)
unfolding IsTransition nets.transition
weights_formed q f zero i = absurd (omega (arith, i.0))
weights_formed q f (suc t) i = all_at (FormedTransition q.net.places) none q.net.transitions t (omega (arith, i.1)) f.transitions

-- A step by t from the marking lent, of which the first n numbers are m.
module _ (x : Contents) (f : FormedSetting x.setting) (t : Transition) (lent : Marking) (long : length lent.tokens ≡ 16) where
  abbrev net : nets.Net
  net = x.setting.net

  abbrev n : ℕ
  n = net.places

  abbrev w : nets.Transition
  w = nets.transition net t.0

  abbrev m : nets.Marking
  m = take n lent.tokens

  pub length_places : length m ≡ n
  length_places = length-take-le n lent.tokens (omega (arith, places_fit_lem n f.places))

  module _ (i : IsTransition net t.0) where
    pub taken_long : length w.taken ≡ length m
    taken_long = (weights_formed x.setting f t.0 i).taken.places ∙ sym length_places

    pub put_long : length w.put ≡ length m
    put_long = (weights_formed x.setting f t.0 i).put.places ∙ sym length_places

    enabled_if : lowest_short n w.taken m ≡ (Ok tt) → Enabled w m
    unfolding Enabled ◌⊑◌
    enabled_if e = (
      taken_long,
      λ p. ⊎_elim (λ l. ltb-false _ _ (none_found (is_short w.taken m) NotEnabled n e p l))
          (λ l. rw (get_or-eq_default w.taken 0 {n = p} (omega (arith, taken_long, length_places))) (omega arith)) (below_or_not p n),
    )

    not_enabled_if : (p : Place) → Short w m p → Enabled w m → ⊥
    unfolding Enabled ◌⊑◌
    not_enabled_if p s e = omega (arith, e.1 (p.0 - 1))

    none_over_if : lowest_over n (fire w m) ≡ (Ok tt) → (p : Place) → Over w m p → ⊥
    none_over_if e p o = ⊎_elim (λ l. omega (arith, ltb-false most_tokens (tokens_in (fire w m) p) (none_found (is_over (fire w m)) TooManyTokens n e (p.0 - 1) l)))
        (λ l. omega (arith, get_or-eq_default (fire w m) 0 {n = p.0 - 1} (omega (arith, fire-length w m taken_long put_long, length_places)))) (below_or_not (p.0 - 1) n)

  -- the four answers, and what the net says of each
  pub data Outcome (a : Check) : Type 0 where
    no_transition : (IsTransition net t.0 → ⊥) → a ≡ Err (NotATransition t) → Outcome a
    short : IsTransition net t.0 → (p : Place) → IsLowest (Short w m) p → a ≡ Err (NotEnabled p) → Outcome a
    over : IsTransition net t.0 → Enabled w m → (p : Place) → IsLowest (Over w m) p → a ≡ Err (TooManyTokens p) → Outcome a
    fine : IsTransition net t.0 → Enabled w m → ((p : Place) → Over w m p → ⊥) → a ≡ (Ok tt) → Outcome a

  abbrev by_number : Bool → Check
  by_number b = first (choose b (Ok tt) (Err (NotATransition t)) ∷ firing_checks n w m)

  abbrev by_checks : Check → Check → Check
  by_checks a b = first (a ∷ b ∷ [])

  outcome_of : (b : Bool) → among t.0 (length net.transitions) ≡ b → Outcome (by_number b)
  unfolding IsTransition
  outcome_of false h = no_transition (λ i. let z = sym h ∙ among_so t.0 (length net.transitions) i.0 i.1 in let e : ◌≡◌ {A = ℕ} 0 1 = cc in omega arith) refl
  outcome_of true h =
      let i = among_some t.0 (length net.transitions) h in
      ⊎_elim
      (λ e. ⊎_elim (λ g. fine i (enabled_if i e) (none_over_if i g) (ap (λ a. by_checks a (lowest_over n (fire w m))) e ∙ ap (λ b. by_checks (Ok tt) b) g))
      (λ o. over i (enabled_if i e) o.place o.is_lowest (ap (λ a. by_checks a (lowest_over n (fire w m))) e ∙ ap (λ b. by_checks (Ok tt) b) o.is_refused))
      (none_or_lowest (is_over (fire w m)) TooManyTokens n (Over w m) (λ p e. ltb-true _ _ e) (λ p e o. omega (arith, ltb-false most_tokens (tokens_in (fire w m) p) e))))
      (λ s. short i s.place s.is_lowest (ap (λ a. by_checks a (lowest_over n (fire w m))) s.is_refused))
      (none_or_lowest (is_short w.taken m) NotEnabled n (Short w m) (λ p e. ltb-true _ _ e) (λ p e o. omega (arith, ltb-false (tokens_in m p) (tokens_in w.taken p) e)))

  abbrev answer : Check
  answer = (step_of (Ok x) t lent).answer

  pub outcome : Outcome answer
  outcome = outcome_of (among t.0 (length net.transitions)) refl

  -- the answers' numbers tell them apart
  apart : (a b : Check) → answer ≡ a → answer ≡ b → check_number a ≡ check_number b
  apart a b e g = ap check_number (sym e ∙ g)

  -- 12: transition number 0 or above T, with that number
  pub twelve_exactly : (answer ≡ Err (NotATransition t)) ↔ (IsTransition net t.0 → ⊥)
  twelve_exactly = (told outcome, given outcome)
    where
      told : Outcome answer → answer ≡ Err (NotATransition t) → IsTransition net t.0 → ⊥
      told (no_transition h g) e = h
      told (short i p l g) e = absurd (omega (arith, apart _ _ e g))
      told (over i h p l g) e = absurd (omega (arith, apart _ _ e g))
      told (fine i h l g) e = absurd (omega (arith, apart _ _ e g))

      given : Outcome answer → (IsTransition net t.0 → ⊥) → answer ≡ Err (NotATransition t)
      given (no_transition h g) k = g
      given (short i p l g) k = absurd (k i)
      given (over i h p l g) k = absurd (k i)
      given (fine i h l g) k = absurd (k i)

  -- 15: the transition is not enabled, with the lowest place that is short
  pub fifteen_exactly : (p : Place) → (answer ≡ Err (NotEnabled p)) ↔ (IsTransition net t.0 × (Enabled w m → ⊥) × IsLowest (Short w m) p)
  fifteen_exactly p = (told outcome, given outcome)
    where
      told : Outcome answer → answer ≡ Err (NotEnabled p) → IsTransition net t.0 × (Enabled w m → ⊥) × IsLowest (Short w m) p
      told (no_transition h g) e = absurd (omega (arith, apart _ _ e g))
      told (short i o l g) e = (i, not_enabled_if i o l.holds, subst (IsLowest (Short w m)) (same_place o p (ap check_detail (sym g ∙ e))) l)
      told (over i h o l g) e = absurd (omega (arith, apart _ _ e g))
      told (fine i h l g) e = absurd (omega (arith, apart _ _ e g))

      given : Outcome answer → IsTransition net t.0 × (Enabled w m → ⊥) × IsLowest (Short w m) p → answer ≡ Err (NotEnabled p)
      given (no_transition h g) k = absurd (h k.0)
      given (short i o l g) k = g ∙ ap (λ (p : Place). Err (NotEnabled p)) (one_lowest (Short w m) o p l k.2)
      given (over i h o l g) k = absurd (k.1 h)
      given (fine i h l g) k = absurd (k.1 h)

  -- 16: it is enabled, and a place would pass 65,535 after the whole step, with the lowest such place
  pub sixteen_exactly : (p : Place) → (answer ≡ Err (TooManyTokens p)) ↔ (IsTransition net t.0 × Enabled w m × IsLowest (Over w m) p)
  sixteen_exactly p = (told outcome, given outcome)
    where
      told : Outcome answer → answer ≡ Err (TooManyTokens p) → IsTransition net t.0 × Enabled w m × IsLowest (Over w m) p
      told (no_transition h g) e = absurd (omega (arith, apart _ _ e g))
      told (short i o l g) e = absurd (omega (arith, apart _ _ e g))
      told (over i h o l g) e = (i, h, subst (IsLowest (Over w m)) (same_place o p (ap check_detail (sym g ∙ e))) l)
      told (fine i h l g) e = absurd (omega (arith, apart _ _ e g))

      given : Outcome answer → IsTransition net t.0 × Enabled w m × IsLowest (Over w m) p → answer ≡ Err (TooManyTokens p)
      given (no_transition h g) k = absurd (h k.0)
      given (short i o l g) k = absurd (not_enabled_if i o l.holds k.1)
      given (over i h o l g) k = g ∙ ap (λ (p : Place). Err (TooManyTokens p)) (one_lowest (Over w m) o p l k.2)
      given (fine i h l g) k = absurd (l p k.2.holds)

  -- fine: it is enabled, and no place would pass 65,535
  pub fine_exactly : (answer ≡ (Ok tt)) ↔ (IsTransition net t.0 × Enabled w m × ((p : Place) → Over w m p → ⊥))
  fine_exactly = (told outcome, given outcome)
    where
      told : Outcome answer → answer ≡ (Ok tt) → IsTransition net t.0 × Enabled w m × ((p : Place) → Over w m p → ⊥)
      told (no_transition h g) e = absurd (omega (arith, apart _ _ e g))
      told (short i o l g) e = absurd (omega (arith, apart _ _ e g))
      told (over i h o l g) e = absurd (omega (arith, apart _ _ e g))
      told (fine i h l g) e = (i, h, l)

      given : Outcome answer → IsTransition net t.0 × Enabled w m × ((p : Place) → Over w m p → ⊥) → answer ≡ (Ok tt)
      given (no_transition h g) k = absurd (h k.0)
      given (short i o l g) k = absurd (not_enabled_if i o l.holds k.1)
      given (over i h o l g) k = absurd (k.2 o l.holds)
      given (fine i h l g) k = g
