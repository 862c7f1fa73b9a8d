-- A walk fires one transition after the other: a fine step is a firing and a refused one changes nothing, so the walk's marking is always one that the net reaches.
use Rattle.std.specs.Prelude.{Err, Ok}
use mathlib.Core.Path.{◌≡◌, refl, sym, ap, ◌∙◌, subst}
use mathlib.Core.List.{List, [], ◌∷◌, ◌++◌, map}
use Prim.Native.Nat.{ℕ, ◌-◌, ◌≤◌}
use native.Mathlib.Omega.{arith}
use lib.ListN.{length, take, drop, replicate, length-append, length-drop, length-replicate}
use lib.Seq.{take_at, drop_at}
use Rattle.refusals.specs.declared.Refusal.{Refusal}
use Rattle.terms.specs.declared.Transition.{Transition}
use Rattle.nets.specs.Nets as nets
use Rattle.nets.specs.Nets.{Enabled, IsTransition, Ends, Reachable, fire}
use Rattle.format.specs.Read.{Read}
use Rattle.format.specs.Contents.{Contents}
use Rattle.format.specs.Reading.{reading}
use Rattle.format.specs.Formed.{IsSheet, Formed}
use Rattle.format.proofs.Accepted.{formed}
use Rattle.format.proofs.Parts.{sound_same}
use Rattle.format.proofs.Sound.{places_fit_lem}
use Rattle.refusals.specs.Refusals.{Check}
use Rattle.firing.specs.Firing.{fired_in}
use Rattle.walk.specs.Walk.{moved_to, step_of, begun, begin_of, walked, AllFine}
use Rattle.firing.specs.Table.{StaysWithin}
use Rattle.walk.specs.declared.Marking.{Marking}
use Rattle.walk.specs.declared.Moved.{Moved}
use Rattle.firing.proofs.Fires.{fire-length}
use Rattle.walk.proofs.Exactly.{length_places, taken_long, put_long, fine_exactly}

abbrev pub numbers : List Transition → List ℕ
numbers ts = map (λ (t : Transition). t.0) ts

-- a sound sheet's net
module _ (x : Contents) (f : Formed x) where
  abbrev net : nets.Net
  net = x.setting.net

  abbrev n : ℕ
  n = net.places

  few : n ≤ 16
  few = (places_fit_lem n f.setting.places).1

  -- a fine step: the first n numbers are fired, and those beyond stay
  pub record Fired (t : Transition) (tokens after : List ℕ) : Type 0 where
    pub is_transition : IsTransition net t.0
    pub enabled : Enabled (nets.transition net t.0) (take n tokens)
    pub places : take n after ≡ fire (nets.transition net t.0) (take n tokens)
    pub beyond : drop n after ≡ drop n tokens
    pub long : length after ≡ 16

  module _ (t : Transition) (m : Marking) (long : length m.tokens ≡ 16) where
    abbrev w : nets.Transition
    w = nets.transition net t.0

    abbrev step : Moved
    step = step_of (Ok x) t m

    marking_so : (q : Check) → step.answer ≡ q → step.marking ≡ moved_to q (fired_in n w m.tokens) m
    marking_so q e = ap (λ (q : Check). moved_to q (fired_in n w m.tokens) m) e

    pub fine_fires : step.answer ≡ (Ok tt) → Fired t m.tokens step.marking.tokens
    fine_fires e =
        let (i, h, l) = (fine_exactly x f.setting t m long).0 e in
        let size : length (fire w (take n m.tokens)) ≡ n =
        fire-length w (take n m.tokens) (taken_long x f.setting t m long i) (put_long x f.setting t m long i) ∙ length_places x f.setting t m long in
        let so = ap (λ (m : Marking). m.tokens) (marking_so (Ok tt) e) in
        record {
          is_transition = i;
          enabled = h;
          places = ap (take n) so ∙ take_at (fire w (take n m.tokens)) (drop n m.tokens) n size;
          beyond = ap (drop n) so ∙ drop_at (fire w (take n m.tokens)) (drop n m.tokens) n size;
          long = ap length so ∙ length-append (fire w (take n m.tokens)) (drop n m.tokens) ∙ omega (arith, size, length-drop n m.tokens, few);
        }

    pub refused_stays : {r : Refusal} → step.answer ≡ Err r → step.marking ≡ m
    refused_stays {r} e = marking_so (Err r) e

  -- Where every step is fine, the numbers walked are a firing sequence from where the walk began to where it ends, and nothing beyond n has moved.
  pub walk_ends : (ts : List Transition) (m : Marking) → length m.tokens ≡ 16 → AllFine (Ok x) ts m
      → Ends net (take n m.tokens) (numbers ts) (take n (walked (Ok x) ts m).tokens) × (drop n (walked (Ok x) ts m).tokens ≡ drop n m.tokens)
  unfolding Ends walked AllFine
  walk_ends [] m long a = (refl, refl)
  walk_ends (t ∷ ts) m long a =
      let s = fine_fires t m long a.0 in
      let (e, b) = walk_ends ts (step_of (Ok x) t m).marking s.long a.1 in
      ((s.is_transition, s.enabled, subst (λ z. Ends net z (numbers ts) (take n (walked (Ok x) ts (step_of (Ok x) t m).marking).tokens)) s.places e), b ∙ s.beyond)

  -- The other way round, every firing sequence whose markings stay within 65,535 can be walked, and ends where it ends.
  pub walk_follows : (ts : List Transition) (m : Marking) (e : nets.Marking) → length m.tokens ≡ 16 → Ends net (take n m.tokens) (numbers ts) e → StaysWithin net (take n m.tokens) (numbers ts)
      → AllFine (Ok x) ts m × (take n (walked (Ok x) ts m).tokens ≡ e)
  unfolding Ends StaysWithin walked AllFine
  walk_follows [] m e long h l = (tt, h)
  walk_follows (t ∷ ts) m e long h l =
      let g = (fine_exactly x f.setting t m long).1 (h.0, h.1, l.0) in
      let s = fine_fires t m long g in
      let (a, b) = walk_follows ts (step_of (Ok x) t m).marking e s.long (subst (λ z. Ends net z (numbers ts) e) (sym s.places) h.2) (subst (λ z. StaysWithin net z (numbers ts)) (sym s.places) l.1) in
      ((g, a), b)

  -- Refused steps among the others change nothing: wherever a walk leads, the net reaches it, and nothing beyond n has moved.
  pub record Led (m after : Marking) : Type 0 where
    pub reached : Reachable net (take n m.tokens) (take n after.tokens)
    pub beyond : drop n after.tokens ≡ drop n m.tokens

  led_by : (t : Transition) (m after : Marking) (q : Check) → length m.tokens ≡ 16 → (step_of (Ok x) t m).answer ≡ q
      → (length (step_of (Ok x) t m).marking.tokens ≡ 16 → Led (step_of (Ok x) t m).marking after) → Led m after
  unfolding Reachable Ends
  led_by t m after (Ok u) long e rest =
      let s = fine_fires t m long e in
      let l = rest s.long in
      record {
        reached = (t.0 ∷ l.reached.0, (s.is_transition, s.enabled, subst (λ z. Ends net z l.reached.0 (take n after.tokens)) s.places l.reached.1));
        beyond = l.beyond ∙ s.beyond;
      }
  led_by t m after (Err r) long e rest =
      let same = ap (λ (m : Marking). m.tokens) (refused_stays t m long e) in
      let l = rest (ap length same ∙ long) in
      record {
        reached = (l.reached.0, subst (λ (z : List ℕ). Ends net (take n z) l.reached.0 (take n after.tokens)) same l.reached.1);
        beyond = l.beyond ∙ ap (drop n) same;
      }

  pub walk_leads : (ts : List Transition) (m : Marking) → length m.tokens ≡ 16 → Led m (walked (Ok x) ts m)
  unfolding walked Reachable Ends
  walk_leads [] m long = record { reached = ([], refl); beyond = refl }
  walk_leads (t ∷ ts) m long =
      led_by t m _ (step_of (Ok x) t m).answer long refl (λ l. walk_leads ts (step_of (Ok x) t m).marking l)

  -- A walk begins at the sheet's start, with zeros beyond n.
  start_long : length x.setting.start ≡ n
  start_long = f.setting.start.places

  pub begins_at : take n (begun x).tokens ≡ x.setting.start
  begins_at = take_at x.setting.start (replicate (16 - length x.setting.start) 0) n start_long

  pub begins_long : length (begun x).tokens ≡ 16
  begins_long =
      length-append x.setting.start (replicate (16 - length x.setting.start) 0)
      ∙ omega (arith, length-replicate {A = ℕ} (16 - length x.setting.start) 0, start_long, few)

  pub begins_beyond : drop n (begun x).tokens ≡ replicate (16 - n) 0
  begins_beyond = drop_at x.setting.start (replicate (16 - length x.setting.start) 0) n start_long ∙ ap (λ (k : ℕ). replicate (16 - k) 0) start_long

  pub walk_reaches : (ts : List Transition) → Reachable net x.setting.start (take n (walked (Ok x) ts (begun x)).tokens)
  walk_reaches ts =
      subst (λ z. Reachable net z (take n (walked (Ok x) ts (begun x)).tokens)) begins_at (walk_leads ts (begun x) begins_long).reached

  pub beyond_stays : (ts : List Transition) → drop n (walked (Ok x) ts (begun x)).tokens ≡ replicate (16 - n) 0
  beyond_stays ts = (walk_leads ts (begun x) begins_long).beyond ∙ begins_beyond

-- Two walks, one after the other, are one walk.
pub walked_on : (y : Read Contents) (ts us : List Transition) (m : Marking) → walked y (ts ++ us) m ≡ walked y us (walked y ts m)
unfolding walked
walked_on y [] us m = refl
walked_on y (t ∷ ts) us m = walked_on y ts us (step_of y t m).marking

-- From begin and over any steps on one sheet, the marking is one that the net reaches from the sheet's start.
pub sheet_walk : (s : List ℕ) (x : Contents) → IsSheet s → reading s ≡ Ok x → (m : Marking) → begin_of (reading s) ≡ Ok m → (ts : List Transition)
    → Reachable x.setting.net x.setting.start (take x.setting.net.places (walked (reading s) ts m).tokens)
sheet_walk s x small e m b ts =
    let from : begun x ≡ m = sound_same (ap begin_of (sym e) ∙ b) in
    subst (λ m. Reachable x.setting.net x.setting.start (take x.setting.net.places (walked (reading s) ts m).tokens)) from
    (subst (λ y. Reachable x.setting.net x.setting.start (take x.setting.net.places (walked y ts (begun x)).tokens)) (sym e) (walk_reaches x (formed s x small e) ts))
