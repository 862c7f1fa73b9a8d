-- The transitions and the claims, record after record: each list is read exactly where its bytes stand, by induction over the list.
use Rattle.std.specs.Prelude.{Ok}
use mathlib.Core.Path.{◌≡◌, refl, ap, subst}
use mathlib.Core.Logic.{◌↔◌, ⊎_elim}
use mathlib.Core.List.{List, [], ◌∷◌}
use Prim.Native.Nat.{ℕ, zero, suc, ◌+◌, ◌≤◌}
use native.Mathlib.Omega.{arith}
use lib.ListN.{length, length-append}
use lib.Dec.{leb}
use borrow.Author.Tests.{leb-true, le-leb, lt-leb}
use Rattle.nets.specs.Nets.{Transition}
use Rattle.format.specs.Read.{Read, ◌>>=◌, ◌>>◌}
use Rattle.format.specs.Contents.{Claim}
use Rattle.format.specs.Reading.{transition_size, transitions_at, claim_size, claim_due, claims_at}
use Rattle.format.specs.Formed.{All, IsSheet, FormedTransition, FormedClaim}
use Rattle.format.specs.Encoding.{joined, transition_bytes, claim_bytes}
use Rattle.format.proofs.Standing.{Stands, stands-append, stands_left, stands_right}
use Rattle.format.proofs.Parts.{parts, sound_same, then_first, choose_either}
use Rattle.format.proofs.Records.{length-transition, length-claim, transition_exactly, claim_exactly}

module _ (s : List ℕ) (n : ℕ) where
  pub transitions_exactly : (at k : ℕ) (ts : List Transition) → (transitions_at s n at k ≡ Ok ts) ↔ ((length ts ≡ k) × All (FormedTransition n) ts × Stands s at (joined transition_bytes ts))
  unfolding transitions_at All joined
  transitions_exactly at zero [] = (λ _. (refl, tt, tt), λ _. refl)
  transitions_exactly at zero (t ∷ ts) = (λ e. absurd (let z : ◌≡◌ {A = ℕ} 0 1 = cc in omega arith), λ w. absurd (omega arith))
  transitions_exactly at (suc k) [] =
      (λ e. let w = simp parts at e in absurd (let z : ◌≡◌ {A = ℕ} 0 1 = cc in omega arith), λ w. absurd (omega arith))
  transitions_exactly at (suc k) (t ∷ ts) =
      let to : ℕ = at + transition_size n in (
        λ e. let (u, first, (us, others, all)) = simp parts at e in
            let a = (transition_exactly s n at t).0 (cc) in
            let b = (transitions_exactly to k ts).0 (cc) in
            (ap suc b.0, (a.0, b.1), stands-append s at to (transition_bytes t) (joined transition_bytes ts) (omega (arith, length-transition n t a.0)) a.1 b.2),
        λ w. let here = stands_left s at (transition_bytes t) (joined transition_bytes ts) w.2 in
            let there = stands_right s at to (transition_bytes t) (joined transition_bytes ts) (omega (arith, length-transition n t w.1.0)) w.2 in
            simp parts (t, (transition_exactly s n at t).1 (w.1.0, here), (ts, (transitions_exactly to k ts).1 (omega arith, w.1.1, there), refl)),
      )

-- the claims from `at` to the end, at most `more`
pub record ClaimsStand (s : List ℕ) (n at more : ℕ) (is : List Claim) : Type 0 where
  pub most : length is ≤ more
  pub each : All (FormedClaim n) is
  pub stand : Stands s at (joined claim_bytes is)
  pub end : length s ≤ at + length (joined claim_bytes is)

module _ (s : List ℕ) (small : IsSheet s) (n : ℕ) where
  none_stand : (at more : ℕ) → length s ≤ at → ClaimsStand s n at more []
  unfolding All joined
  none_stand at more h = record { most = omega arith; each = tt; stand = tt; end = omega arith }

  one_more : (at more : ℕ) (i : Claim) (is : List Claim) → FormedClaim n i × Stands s at (claim_bytes i) → ClaimsStand s n (at + claim_size n) more is → ClaimsStand s n at (suc more) (i ∷ is)
  unfolding All joined
  one_more at more i is a b =
      let size : length (claim_bytes i) ≡ claim_size n = length-claim n i a.0 in
      record {
        most = omega arith;
        each = (a.0, b.each);
        stand = stands-append s at (at + claim_size n) (claim_bytes i) (joined claim_bytes is) (omega arith) a.1 b.stand;
        end = omega (arith, length-append (claim_bytes i) (joined claim_bytes is));
      }

  -- what comes where a byte remains
  goes_on : ℕ → ℕ → Read (List Claim)
  goes_on at more = do
    i ← claim_due s n at (suc more)
    is ← claims_at s n (at + claim_size n) more
    Ok (i ∷ is)

  pub claims_read : (at more : ℕ) (is : List Claim) → claims_at s n at more ≡ Ok is → ClaimsStand s n at more is
  unfolding claims_at goes_on
  claims_read at zero is e =
      ⊎_elim
      (λ w. subst (ClaimsStand s n at zero) (sound_same w.1) (none_stand at zero (leb-true (length s) at w.0)))
      (λ w. let (i, due) = then_first (claim_due s n at zero) (Ok []) is w.1 in absurd (omega (arith, (claim_exactly s small n at zero i).0 due)))
      (choose_either (leb (length s) at) (Ok []) (claim_due s n at zero >> Ok []) is e)
  claims_read at (suc more) is e =
      ⊎_elim
      (λ w. subst (ClaimsStand s n at (suc more)) (sound_same w.1) (none_stand at (suc more) (leb-true (length s) at w.0)))
      (λ w. let (i, due, (js, others, all)) = simp parts at w.1 in
      subst (ClaimsStand s n at (suc more)) (sound_same all)
      (one_more at more i js ((claim_exactly s small n at (suc more) i).0 due).1 (claims_read (at + claim_size n) more js others)))
      (choose_either (leb (length s) at) (Ok []) (goes_on at more) is e)

  pub claims_sound : (at more : ℕ) (is : List Claim) → ClaimsStand s n at more is → claims_at s n at more ≡ Ok is
  unfolding claims_at All joined
  claims_sound at zero [] w = rw (le-leb (length s) at (omega arith))
  claims_sound at zero (i ∷ is) w = absurd (omega arith)
  claims_sound at (suc more) [] w = rw (le-leb (length s) at (omega arith))
  claims_sound at (suc more) (i ∷ is) w =
      let size : length (claim_bytes i) ≡ claim_size n = length-claim n i w.each.0 in
      let here : Stands s at (claim_bytes i) = stands_left s at (claim_bytes i) (joined claim_bytes is) w.stand in
      let rest : ClaimsStand s n (at + claim_size n) more is = record {
        most = omega arith;
        each = w.each.1;
        stand = stands_right s at (at + claim_size n) (claim_bytes i) (joined claim_bytes is) (omega arith) w.stand;
        end = omega (arith, length-append (claim_bytes i) (joined claim_bytes is));
      } in
      rw (lt-leb (length s) at here.0)
      (simp parts (i, (claim_exactly s small n at (suc more) i).1 (omega arith, (w.each.0, here)), (is, claims_sound (at + claim_size n) more is rest, refl)))
