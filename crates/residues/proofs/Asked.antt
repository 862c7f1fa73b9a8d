-- What a transition is told, by Theorems 1 and 3 of 004: the window of Theorem 1 is turned to sums of the sizes.
use mathlib.Core.Path.{◌≡◌, refl, sym, ◌∙◌}
use mathlib.Core.Bool.{Bool, true, false}
use mathlib.Core.List.{List}
use Prim.Native.Nat.{ℕ}
use native.Mathlib.Omega.{arith}
use lib.IntN.{ℤ, pos, ◌+ℤ◌, ◌-ℤ◌}
use lib.ListN.{length}
use lib.Signed.{◌≤ℤ◌, ◌<ℤ◌}
use Rattle.signed.specs.Linear.{linear}
use Rattle.nets.specs.Nets.{Transition, Room}
use Rattle.nets.specs.HalfSpaces.{HalfSpace, Kept, Broken}
use Rattle.nets.specs.Verdicts.{SomeAbove, SomeBelow}
use Rattle.nets.proofs.Theorem1.{theorem_1, kept_exactly}
use Rattle.nets.proofs.Theorem3.{theorem_3}
use Rattle.remainders.specs.Sums.{sizes}
use Rattle.std.specs.Prelude.{◌↔◌, IsTrue}
use Rattle.std.proofs.lemmas.Bool.{false≢true}
use Rattle.residues.specs.Asked.{SomeIn, IsBroken, Moves, Limits}
use Rattle.residues.proofs.Turned.{turn, AllTurned, none_below, none_above, sum_of, vector_of}

module _ (ks : List ℤ) (c a b : ℤ) (t : Transition) (m : Moves ks a b t) where
  h : HalfSpace
  h = record { coefficients = ks; constant = c }

  same : length t.put ≡ length t.taken
  same = m.puts ∙ sym m.takes

  -- where the value does not fall, no value lies in the window
  pub not_falling : a ≤ℤ b → Kept (record { coefficients = ks; constant = c }) t
  unfolding h
  not_falling l =
      (kept_exactly h t same).1
      (λ x w. omega (arith, simp linear at l, simp linear at m.taken, simp linear at m.put, simp linear at w.low, simp linear at w.high))

  -- with all coefficients zero every value is zero
  pub still : (SomeAbove ks → ⊥) → (SomeBelow ks → ⊥) → a ≤ℤ b
  still f g =
      let x = sum_of false ks t.taken (none_above ks f) m.takes in
      let y = sum_of true ks t.put (none_below ks g) m.puts in
      simp linear (omega (arith, simp linear at (m.taken ∙ x.is), simp linear at (m.put ∙ y.is)))

  pub both_signs : b <ℤ a → SomeAbove ks → SomeBelow ks → Broken (record { coefficients = ks; constant = c }) t
  unfolding h
  both_signs l up dn = theorem_3 h t m.takes same up dn (simp linear (omega (arith, simp linear at l, simp linear at m.taken, simp linear at m.put)))

  -- a sum v stands for the value `turn s v`: both lie in their windows
  record Windows (s : Bool) (lo hi : ℤ) : Type 0 where
    to : (v : ℕ) → lo ≤ℤ pos v → pos v ≤ℤ hi → ((c -ℤ a) ≤ℤ turn s v) × (turn s v ≤ℤ ((c -ℤ b) -ℤ pos 1))
    from : (v : ℕ) → (c -ℤ a) ≤ℤ turn s v → turn s v ≤ℤ ((c -ℤ b) -ℤ pos 1) → (lo ≤ℤ pos v) × (pos v ≤ℤ hi)

  answered : (s : Bool) (lo hi : ℤ) → Windows s lo hi → AllTurned s ks → (r : Bool) → (IsTrue r ↔ SomeIn (sizes ks) lo hi) → IsBroken r (record { coefficients = ks; constant = c }) t
  unfolding h Room
  answered s lo hi W A true told =
      let (v, r, l, u) = told.0 refl in
      let y = vector_of s ks v A r in
      let i = W.to v l u in
      (theorem_1 h t same).1 (
        y.x,
        record {
          room = y.places ∙ sym m.takes;
          low = rw (y.is, ← m.taken) i.0;
          high = rw (y.is, ← m.put) i.1;
        },
      )
  answered s lo hi W A false told =
      (kept_exactly h t same).1
      (λ x w.
      let y = sum_of s ks x A (w.room ∙ m.takes) in
      let i = W.from y.of (rw (← m.taken, y.is) at w.low) (rw (← m.put, y.is) at w.high) in
      false≢true (told.1 (y.of, y.reached, i.0, i.1)))

  module _ (L : Limits c a b) where
    pub rising : (SomeBelow ks → ⊥) → (r : Bool) → (((c -ℤ b) -ℤ pos 1) ≤ℤ pos 5000 → (IsTrue r ↔ SomeIn (sizes ks) (c -ℤ a) ((c -ℤ b) -ℤ pos 1))) → IsBroken r (record { coefficients = ks; constant = c }) t
    rising f r told =
        let A = none_below ks f in
        let y = sum_of true ks t.put A m.puts in
        let e : b ≡ pos y.of = m.put ∙ y.is in
        answered true (c -ℤ a) ((c -ℤ b) -ℤ pos 1) (record { to = λ v l u. (l, u); from = λ v l u. (l, u) }) A r
        (told (simp linear (omega (arith, simp linear at e, simp linear at L.c_high))))

    pub falling : (SomeAbove ks → ⊥) → (r : Bool) → ((a -ℤ c) ≤ℤ pos 5000 → (IsTrue r ↔ SomeIn (sizes ks) ((b +ℤ pos 1) -ℤ c) (a -ℤ c))) → IsBroken r (record { coefficients = ks; constant = c }) t
    falling f r told =
        let A = none_above ks f in
        let y = sum_of false ks t.taken A m.takes in
        let e = simp linear at (m.taken ∙ y.is) in
        answered false ((b +ℤ pos 1) -ℤ c) (a -ℤ c)
        (record {
          to = λ v l u. (simp linear (omega (arith, simp linear at u)), simp linear (omega (arith, simp linear at l)));
          from = λ v l u. (simp linear (omega (arith, simp linear at u)), simp linear (omega (arith, simp linear at l)));
        }) A r
        (told (simp linear (omega (arith, simp linear at L.c_low))))
