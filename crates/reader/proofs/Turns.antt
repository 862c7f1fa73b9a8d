-- One turn of each loop over records: what is left to read at a byte is one record, and what is left behind it.
use Rattle.std.specs.Prelude.{Err, Ok}
use mathlib.Core.Path.{◌≡◌, refl, ap, ◌∙◌}
use mathlib.Core.List.{List, ◌∷◌}
use Prim.Native.Nat.{ℕ, zero, suc, ◌+◌, ◌-◌, ◌≤◌, ◌<◌}
use native.Mathlib.Nat.{add-zero}
use native.Mathlib.Omega.{arith}
use lib.ListN.{length}
use borrow.Author.Tests.{le-leb, lt-leb}
use Rattle.refusals.specs.declared.Refusal.{Refusal}
use Rattle.refusals.specs.Refusals.{Check}
use Rattle.format.specs.Read.{Read, ◌>>=◌, map_ok}
use Rattle.format.specs.Contents.{Claim}
use Rattle.format.specs.Reading.{transition_at, transitions_at, transition_size, claim_due, claims_at, claim_size}
use Rattle.format.specs.Checked.{checked}
use Rattle.format.proofs.Checks.{stop_bind, map_sound, fine}

module _ (s : List ℕ) (n at k t : ℕ) where
  pub transitions_step : (next : ℕ) → next ≡ at + transition_size n → k < t → checked (transition_at s n at) ≡ Ok tt → checked (transitions_at s n at (t - k)) ≡ checked (transitions_at s n next (t - (k + 1)))
  unfolding transitions_at
  transitions_step next is l e =
      let h : t - k ≡ suc (t - (k + 1)) = omega arith in
      let x = fine (transition_at s n at) e in
      rw (h, x.1, is) (map_sound (transitions_at s n (at + transition_size n) (t - (k + 1))) (λ ts. x.0 ∷ ts))

  pub transitions_stop : {a : Check} {r : Refusal} → k < t → a ≡ checked (transition_at s n at) → a ≡ Err r → a ≡ checked (transitions_at s n at (t - k))
  unfolding transitions_at
  transitions_stop l is e =
      let h : t - k ≡ suc (t - (k + 1)) = omega arith in
      rw h (stop_bind (transition_at s n at) is (λ x. transitions_at s n (at + transition_size n) (t - (k + 1)) >>= λ ts. Ok (x ∷ ts)) e)

  pub transitions_done : t ≤ k → checked (transitions_at s n at (t - k)) ≡ Ok tt
  unfolding transitions_at
  transitions_done l =
      let h : t - k ≡ 0 = omega arith in
      rw h

-- how many claims there are, where so many came before those that are read
abbrev pub counted_from : ℕ → Read (List Claim) → Read ℕ
counted_from before x = map_ok (λ is. before + length is) x

pub from_none : (x : Read (List Claim)) → map_ok length x ≡ counted_from 0 x
from_none (Ok is) = ap (λ (k : ℕ). Ok k) (omega arith)
from_none (Err r) = refl

one_more : (before : ℕ) (i : Claim) (x : Read (List Claim)) → counted_from before (x >>= λ is. Ok (i ∷ is)) ≡ counted_from (before + 1) x
one_more before i (Ok is) = ap (λ (k : ℕ). Ok k) (omega arith)
one_more before i (Err r) = refl

module _ (s : List ℕ) (n at before : ℕ) where
  pub claims_begin : at < length s → (x : Read (List Claim)) → x ≡ claims_at s n at 32 → map_ok length x ≡ counted_from 0 (claims_at s n at 32)
  claims_begin l x e = ap (map_ok length) e ∙ from_none (claims_at s n at 32)

  pub claims_step : (more : ℕ) → at < length s → checked (claim_due s n at (suc more)) ≡ Ok tt → counted_from before (claims_at s n at (suc more)) ≡ counted_from (before + 1) (claims_at s n (at + claim_size n) more)
  unfolding claims_at
  claims_step more l e =
      let x = fine (claim_due s n at (suc more)) e in
      rw (lt-leb (length s) at l, x.1) (one_more before x.0 (claims_at s n (at + claim_size n) more))

  pub claims_stop : (more : ℕ) {r : Refusal} → at < length s → claim_due s n at more ≡ Err r → counted_from before (claims_at s n at more) ≡ Err r
  unfolding claims_at
  claims_stop zero l e = rw (lt-leb (length s) at l, e)
  claims_stop (suc more) l e = rw (lt-leb (length s) at l, e)

  pub claims_done : (more : ℕ) → length s ≤ at → counted_from before (claims_at s n at more) ≡ Ok before
  unfolding claims_at
  claims_done zero l = rw (le-leb (length s) at l, add-zero)
  claims_done (suc more) l = rw (le-leb (length s) at l, add-zero)
