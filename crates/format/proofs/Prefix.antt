-- The answer depends on the first 2,891 bytes alone: n is at most 16, T at most 64, and behind 32 claims only a mark is looked at, so no byte and no test reaches further.
use Rattle.std.specs.Prelude.{Err, Ok}
use mathlib.Core.Path.{◌≡◌, refl}
use mathlib.Core.Bool.{Bool, true, false}
use mathlib.Core.List.{List}
use Prim.Native.Nat.{ℕ, zero, suc, ◌+◌, ◌*◌, ◌≤◌, ◌<◌, min}
use native.Mathlib.Nat.{suc-mul, mul-le-mul}
use native.Mathlib.Omega.{arith}
use lib.Dec.{leb}
use lib.ListN.{length, take, length-take}
use lib.Seq.{get_or-take}
use borrow.Author.Tests.{leb-true, leb-false, le-leb, lt-leb}
use Rattle.terms.specs.Limits.{weight_fits, coefficient_fits, most_claims}
use Rattle.refusals.specs.declared.Refusal.TheVariants.{NoClaim}
use Rattle.signed.specs.Twos.{twos8}
use Rattle.refusals.specs.declared.Refusal.{Refusal}
use Rattle.refusals.specs.declared.Refusal.TheVariants as refused
use Rattle.format.specs.Read.{Read, ◌>>=◌, choose}
use Rattle.format.specs.Reading.{byte, bytes, words, marked_at, whole_at, opened_at, each_fits, head_size, transition_size, start_size, target_size, claim_size, Size, head_of, transition_at, transitions_at, start_at, target_at, claim_at, claim_due, claims_at, transitions_from, start_from, target_from, claims_from, setting_of, claims_of, reading}
use Rattle.format.proofs.Sound.{head_sound}

-- two tests, of which one passes where the other does and fails where the other does
pub same_test : (a b c d : ℕ) → (c ≤ d → a ≤ b) → (d < c → b < a) → leb a b ≡ leb c d
same_test a b c d passes fails = go (leb c d) refl
  where
    go : (t : Bool) → leb c d ≡ t → leb a b ≡ t
    go true e = le-leb a b (passes (leb-true c d e))
    go false e = lt-leb a b (fails (leb-false c d e))

module _ (s : List ℕ) (k : ℕ) where
  pub byte_first : (at : ℕ) → at < k → byte (take k s) at ≡ byte s at
  byte_first at h = get_or-take k s at 0 h

  pub fits_first : (x : ℕ) → x ≤ k → leb x (length (take k s)) ≡ leb x (length s)
  fits_first x h = rw length-take (same_test x (min k (length s)) x (length s) (omega arith) (omega arith))

  pub ends_first : (x : ℕ) → x < k → leb (length (take k s)) x ≡ leb (length s) x
  ends_first x h = rw length-take (same_test (min k (length s)) x (length s) x (omega arith) (omega arith))

  pub bytes_first : (at n : ℕ) → at + n ≤ k → bytes (take k s) at n ≡ bytes s at n
  unfolding bytes
  bytes_first at zero h = refl
  bytes_first at (suc n) h = rw (byte_first at (omega arith), bytes_first (at + 1) n (omega arith))

  pub words_first : (at n : ℕ) → at + 2 * n ≤ k → words (take k s) at n ≡ words s at n
  unfolding words
  words_first at zero h = refl
  words_first at (suc n) h = rw (byte_first at (omega arith), byte_first (at + 1) (omega arith), words_first (at + 2) n (omega arith))

  pub marked_first : (at first second : ℕ) → at + 2 ≤ k → marked_at (take k s) at first second ≡ marked_at s at first second
  unfolding marked_at
  marked_first at first second h = rw (fits_first (at + 2) h, byte_first at (omega arith), byte_first (at + 1) (omega arith))

  pub whole_first : (at size : ℕ) → at + size ≤ k → whole_at (take k s) at size ≡ whole_at s at size
  unfolding whole_at
  whole_first at size h = rw (fits_first (at + size) h)

  pub opened_first : (at first second size : ℕ) → at + 2 ≤ k → at + size ≤ k → opened_at (take k s) at first second size ≡ opened_at s at first second size
  unfolding opened_at
  opened_first at first second size l h = rw (marked_first at first second l, whole_first at size h)

  pub each_first : (fits : ℕ → Bool) (refusal : ℕ → Refusal) (at n : ℕ) → at + n ≤ k → each_fits fits refusal (take k s) at n ≡ each_fits fits refusal s at n
  unfolding each_fits
  each_first fits refusal at zero h = refl
  each_first fits refusal at (suc n) h = rw (byte_first at (omega arith), each_first fits refusal (at + 1) n (omega arith))

  pub head_first : 4 ≤ k → head_of (take k s) ≡ head_of s
  unfolding head_of
  head_first h = rw (opened_first 0 0x4E 0x50 head_size (omega arith) h, byte_first 2 (omega arith), byte_first 3 (omega arith))

  pub transition_first : (n at : ℕ) → at + transition_size n ≤ k → transition_at (take k s) n at ≡ transition_at s n at
  unfolding transition_at
  transition_first n at h =
      rw (opened_first at 0x54 0x52 (transition_size n) (omega arith) h, each_first weight_fits refused.Weight (at + 2) (2 * n) (omega arith), bytes_first (at + 2) n (omega arith), bytes_first (at + 2 + n) n (omega arith))

  pub transitions_first : (n at c : ℕ) → at + c * transition_size n ≤ k → transitions_at (take k s) n at c ≡ transitions_at s n at c
  unfolding transitions_at
  transitions_first n at zero h = refl
  transitions_first n at (suc c) h =
      let l : at + transition_size n + c * transition_size n ≤ k = omega (arith, suc-mul c (transition_size n)) in
      rw (transition_first n at (omega arith), transitions_first n (at + transition_size n) c l)

  pub start_first : (n at : ℕ) → at + start_size n ≤ k → start_at (take k s) n at ≡ start_at s n at
  unfolding start_at
  start_first n at h = rw (opened_first at 0x4D 0x4B (start_size n) (omega arith) h, words_first (at + 2) n (omega arith))

  pub target_first : (n at : ℕ) → at + target_size n ≤ k → target_at (take k s) n at ≡ target_at s n at
  unfolding target_at
  target_first n at h =
      rw (opened_first at 0x54 0x47 (target_size n) (omega arith) h, byte_first (at + 2) (omega arith), words_first (at + 3) n (omega arith))

  pub setting_first : (z : Size) → claims_from z ≤ k → setting_of (take k s) z ≡ setting_of s z
  unfolding setting_of
  setting_first z h =
      rw (transitions_first z.n transitions_from z.T (omega arith), start_first z.n (start_from z) (omega arith), target_first z.n (target_from z) h)

  pub claim_first : (n at : ℕ) → at + claim_size n ≤ k → claim_at (take k s) n at ≡ claim_at s n at
  unfolding claim_at
  claim_first n at h =
      rw (whole_first at (claim_size n) h, each_first (λ b. coefficient_fits (twos8 b)) refused.Coefficient (at + 2) n (omega arith), bytes_first (at + 2) n (omega arith), byte_first (at + 2 + n) (omega arith), byte_first (at + 2 + n + 1) (omega arith))

  -- where no claim may come, the mark alone is looked at
  pub due_first : (n at more : ℕ) → at + 2 ≤ k → (0 < more → at + claim_size n ≤ k) → claim_due (take k s) n at more ≡ claim_due s n at more
  unfolding claim_due
  due_first n at zero l h = rw (marked_first at 0x48 0x53 l)
  due_first n at (suc more) l h = rw (marked_first at 0x48 0x53 l, claim_first n at (h (omega arith)))

  pub claims_first : (n at more : ℕ) → at + more * claim_size n + 2 ≤ k → claims_at (take k s) n at more ≡ claims_at s n at more
  unfolding claims_at
  claims_first n at zero h = rw (ends_first at (omega arith), due_first n at 0 (omega arith) (omega arith))
  claims_first n at (suc more) h =
      let l : at + claim_size n + more * claim_size n + 2 ≤ k = omega (arith, suc-mul more (claim_size n)) in
      rw (ends_first at (omega arith), due_first n at (suc more) (omega arith) (omega arith), claims_first n (at + claim_size n) more l)

  -- 9's detail is the length, where the sheet is short
  pub none_first : {A : Type 0} (at : ℕ) (t : Bool) (x : Read A) → at < k → leb (length s) at ≡ t → choose t (Err (NoClaim (length (take k s)))) x ≡ choose t (Err (NoClaim (length s))) x
  none_first at true x h e =
      let l : length s ≤ at = leb-true (length s) at e in
      let same : length (take k s) ≡ length s = rw length-take (omega arith) in
      rw same
  none_first at false x h e = refl

  pub claims_of_first : (z : Size) → claims_from z + most_claims * claim_size z.n + 2 ≤ k → claims_of (take k s) z ≡ claims_of s z
  unfolding claims_of
  claims_of_first z h =
      rw (ends_first (claims_from z) (omega arith), claims_first z.n (claims_from z) most_claims h)
      (none_first (claims_from z) (leb (length s) (claims_from z)) (claims_at s z.n (claims_from z) most_claims) (omega arith) refl)

-- how far a sheet is looked at
pub furthest : (s : List ℕ) (z : Size) → head_of s ≡ Ok z → claims_from z + most_claims * claim_size z.n + 2 ≤ 2891
furthest s z e =
    let head = head_sound s z e in
    let n : z.n ≤ 16 = rw head.size head.places in
    let T : z.T ≤ 64 = rw head.size head.transitions in
    let one : transition_size z.n ≤ 34 = omega arith in
    omega (arith, mul-le-mul T one)

pub same_after : {A B : Type 0} (x : Read A) (f g : A → Read B) → ((a : A) → x ≡ Ok a → f a ≡ g a) → (x >>= f) ≡ (x >>= g)
same_after (Ok a) f g same = same a refl
same_after (Err r) f g same = refl

pub first_bytes : (s : List ℕ) (k : ℕ) → 2891 ≤ k → reading (take k s) ≡ reading s
unfolding reading
first_bytes s k h =
    rw (head_first s k (omega arith))
    (same_after (head_of s) _ _ λ z e.
    let far : claims_from z + most_claims * claim_size z.n + 2 ≤ k = omega (arith, furthest s z e) in
    rw (setting_first s k z (omega arith), claims_of_first s k z far))
