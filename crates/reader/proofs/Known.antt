-- What a sheet that was read holds, claim by claim and transition by transition, and that all of it is within the limits.
use Rattle.std.specs.Prelude.{Ok}
use mathlib.Core.Path.{◌≡◌, sym, ap, ap₂, ◌∙◌, subst}
use mathlib.Core.List.{List, [], ◌∷◌}
use Prim.Native.Nat.{ℕ, zero, suc, ◌+◌, ◌-◌, ◌*◌, ◌≤◌, ◌<◌}
use native.Mathlib.Omega.{arith}
use lib.IntN.{ℤ, pos}
use lib.ListN.{length, get_or, take}
use lib.Seq.{take_at}
use Rattle.nets.specs.HalfSpaces.{HalfSpace, sixteen}
use Rattle.nets.specs.Nets.{transition, none}
use Rattle.format.specs.Contents.{Contents, half_space, claim, no_claim}
use Rattle.format.specs.Formed.{All, IsSheet, Formed, FormedClaim, FormedTransition}
use Rattle.format.specs.Reading.{size_of, transition_in, target_in, claim_in, words, transition_size, claim_size, transitions_from, target_from, claims_from, reading}
use Rattle.format.proofs.Places.{Held, held}
use Rattle.format.proofs.Accepted.{formed}
use Rattle.format.proofs.Nonzero.{HasOther, nonzero_exactly}
use Rattle.reader.specs.declared.Counts.{Counts}
use Rattle.reader.specs.Known.{Known, contents_of}
use Rattle.rows.proofs.Rows.{length_signed}
use Rattle.reader.proofs.Taken.{most, weights_fit, weights_taken, claim_fits, claim_taken, start_fits, start_taken, target_fits, target_taken, tc_is, c_is}

pub all_at : {A : Type 0} (P : A → Type 0) (d : A) (xs : List A) (i : ℕ) → i < length xs → All P xs → P (get_or xs i d)
unfolding All
all_at P d [] i l a = absurd (omega arith)
all_at P d (x ∷ xs) zero l a = a.0
all_at P d (x ∷ xs) (suc i) l a = all_at P d xs i (omega arith) a.1

pub same_contents : (s : List ℕ) (x y : Contents) → reading s ≡ Ok x → reading s ≡ Ok y → x ≡ y
same_contents s x y e f = cc

module _ (s : List ℕ) (k : Counts) (q : Known s k) where
  abbrev x : Contents
  x = contents_of s

  there : Held s x
  there = held s x q.is_read

  pub limits : (k.places ≤ 16) × (k.transitions ≤ 64) × (k.claims ≤ 32)
  limits = most s x k there q.counts

  one : (j : ℕ) → 1 ≤ j → j - 1 + 1 ≡ j
  one j l = omega arith

  module _ (i : ℕ) (some : 1 ≤ i) (few : i ≤ k.claims) (from : ℕ) (is : from ≡ claims_from (size_of k.places k.transitions) + (i - 1) * claim_size k.places) where
    pub claim_whole : from + 4 + k.places ≤ length s
    claim_whole = claim_fits s x k there q.counts from (i - 1) (omega arith) is

    pub claim_is : claim_in s k.places from ≡ claim x i
    claim_is = claim_taken s x k there q.counts from (i - 1) (omega arith) is ∙ ap (claim x) (one i some)

    -- as sixteen numbers and a constant: those that are taken from the record are the claim's
    pub space_is : (row : List ℤ) (c : ℤ) → row ≡ sixteen (pos 0) (claim_in s k.places from).coefficients → c ≡ (claim_in s k.places from).constant → ◌≡◌ {A = HalfSpace} (record { coefficients = take k.places row; constant = c }) (half_space (claim x i))
    space_is row c r e =
        let ks = (claim_in s k.places from).coefficients in
        ap₂ {C = HalfSpace} (λ (l : List ℤ) (z : ℤ). record { coefficients = l; constant = z }) (ap (take k.places) r ∙ take_at ks _ k.places (length_signed s (from + 2) k.places)) e ∙ claim_is

  module _ (t : ℕ) (some : 1 ≤ t) (few : t ≤ k.transitions) (at : ℕ) (is : at ≡ transitions_from + (t - 1) * transition_size k.places) where
    pub weights_whole : at + 2 + k.places + k.places ≤ length s
    weights_whole = weights_fit s x k there q.counts at (t - 1) (omega arith) is

    pub transition_is : transition_in s k.places at ≡ transition x.setting.net t
    transition_is = weights_taken s x k there q.counts at (t - 1) (omega arith) is ∙ ap (transition x.setting.net) (one t some)

  module _ (at : ℕ) (is : at ≡ transitions_from + k.transitions * transition_size k.places) where
    pub start_whole : at + 2 + 2 * k.places ≤ length s
    start_whole = start_fits s x k there q.counts at is

    pub start_is : words s (at + 2) k.places ≡ x.setting.start
    start_is = start_taken s x k there q.counts at is

  module _ (at : ℕ) (is : at ≡ target_from (size_of k.places k.transitions)) where
    pub target_whole : at + 3 + 2 * k.places ≤ length s
    target_whole = target_fits s x k there q.counts at is

    pub target_is : target_in s k.places at ≡ x.setting.target
    target_is = target_taken s x k there q.counts at is

  module _ (bytes-only : IsSheet s) where
    pub well : Formed x
    well = formed s x bytes-only q.is_read

    places_is : x.setting.net.places ≡ k.places
    places_is = ap (λ (k : Counts). k.places) q.counts

    pub formed_claim : (i : ℕ) → 1 ≤ i → i ≤ k.claims → FormedClaim k.places (claim x i)
    unfolding claim
    formed_claim zero l m = absurd (omega arith)
    formed_claim (suc j) l m = subst (λ (m : ℕ). FormedClaim m (get_or x.claims j no_claim)) places_is (all_at (FormedClaim x.setting.net.places) no_claim x.claims j (omega (arith, c_is s x k there q.counts)) well.claims)

    -- every claim has a coefficient other than zero (02, req 02)
    pub claim_nonzero : (i : ℕ) → 1 ≤ i → i ≤ k.claims → HasOther (half_space (claim x i)).coefficients
    claim_nonzero i l m = (nonzero_exactly (half_space (claim x i)).coefficients).0 (formed_claim i l m).nonzero

    pub formed_transition : (t : ℕ) → 1 ≤ t → t ≤ k.transitions → FormedTransition k.places (transition x.setting.net t)
    unfolding transition
    formed_transition zero l m = absurd (omega arith)
    formed_transition (suc j) l m = subst (λ (m : ℕ). FormedTransition m (get_or x.setting.net.transitions j none)) places_is (all_at (FormedTransition x.setting.net.places) none x.setting.net.transitions j (omega (arith, tc_is s x k there q.counts)) well.setting.transitions)

  pub transitions_count : length x.setting.net.transitions ≡ k.transitions
  transitions_count = sym (tc_is s x k there q.counts)

  pub claims_count : length x.claims ≡ k.claims
  claims_count = sym (c_is s x k there q.counts)
