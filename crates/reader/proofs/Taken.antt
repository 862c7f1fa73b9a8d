-- What the reader's answer tells: a sound one comes of sound contents with these counts, and a refusal is the sheet's.
use Rattle.std.specs.Prelude.{Ok, Err}
use mathlib.Core.Path.{◌≡◌, refl, sym, ap, ◌∙◌}
use mathlib.Core.List.{List}
use Prim.Native.Nat.{ℕ, suc, ◌+◌, ◌-◌, ◌*◌, ◌≤◌, ◌<◌}
use native.Mathlib.Nat.{mul-le-mul_right}
use native.Mathlib.Numerals.{add-one}
use native.Mathlib.Omega.{arith}
use mathlib.Core.Bool.{true}
use lib.Dec.{leb}
use lib.ListN.{length, take, drop}
use borrow.Author.Tests.{leb-true}
use Rattle.terms.specs.Limits.{among}
use Rattle.format.proofs.Sound.{cond-true}
use Rattle.refusals.specs.declared.Refusal.{Refusal}
use Rattle.format.specs.Read.{Read, map_ok}
use Rattle.nets.specs.Nets.{transition, none}
use Rattle.format.specs.Contents.{Contents, claim, no_claim}
use Rattle.format.specs.Reading.{size_of, words, transition_in, target_in, claim_in, transition_size, claim_size, transitions_from, target_from, claims_from}
use Rattle.format.specs.Encoding.{claim_bytes, record_from}
use Rattle.format.proofs.Places.{size_in, Held}
use Rattle.format.proofs.ClaimRecord.{RecordStands}
use Rattle.reader.specs.Answers.{counts_of}
use Rattle.reader.specs.declared.Counts.{Counts}

never : {k : Counts} {r : Refusal} → ◌≡◌ {A = Read Counts} (Ok k) (Err r) → ⊥
never e = let z : ◌≡◌ {A = ℕ} 0 1 = cc in omega arith

pub sound_answer : (y : Read Contents) {k : Counts} → map_ok counts_of y ≡ Ok k → (x : Contents) × (y ≡ Ok x) × (counts_of x ≡ k)
sound_answer (Ok x) e = (x, refl, cc)
sound_answer (Err r) e = absurd (never (sym e))

pub refused_answer : (y : Read Contents) {r : Refusal} → map_ok counts_of y ≡ Err r → y ≡ Err r
refused_answer (Ok x) e = absurd (never e)
refused_answer (Err q) e = cc

pub among_some : (i count : ℕ) → among i count ≡ true → (1 ≤ i) × (i ≤ count)
among_some i count e =
    let b = cond-true (leb 1 i) (leb i count) e in
    (leb-true 1 i b.0, leb-true i count b.1)

-- Where the parts of a sound sheet stand, by the counts that the reader gave.
module _ (s : List ℕ) (x : Contents) (k : Counts) (h : Held s x) (e : counts_of x ≡ k) where
  pub n_is : k.places ≡ (size_in s).n
  n_is = ap (λ (k : Counts). k.places) (sym e) ∙ h.places

  pub t_is : k.transitions ≡ (size_in s).T
  t_is = ap (λ (k : Counts). k.transitions) (sym e) ∙ h.transitions

  pub c_is : k.claims ≡ length x.claims
  c_is = ap (λ (k : Counts). k.claims) (sym e)

  pub tc_is : k.transitions ≡ length x.setting.net.transitions
  tc_is = ap (λ (k : Counts). k.transitions) (sym e)

  pub most : (k.places ≤ 16) × (k.transitions ≤ 64) × (k.claims ≤ 32)
  most = (omega (arith, n_is, h.most_places), omega (arith, t_is, h.most_transitions), omega (arith, c_is, h.claims_limit))

  -- the records end within the sheet
  ends : claims_from (size_in s) ≤ length s
  ends = omega (arith, h.end)

  module _ (at : ℕ) (is : at ≡ transitions_from + k.transitions * transition_size k.places) where
    pub start_fits : at + 2 + 2 * k.places ≤ length s
    start_fits = rw (is, n_is, t_is) (omega (arith, ends))

    pub start_taken : words s (at + 2) k.places ≡ x.setting.start
    start_taken = rw (is, n_is, t_is) (sym h.start)

  module _ (at : ℕ) (is : at ≡ target_from (size_of k.places k.transitions)) where
    pub target_fits : at + 3 + 2 * k.places ≤ length s
    target_fits = rw (is, n_is, t_is) (omega (arith, ends))

    pub target_taken : target_in s k.places at ≡ x.setting.target
    target_taken = rw (is, n_is, t_is) (sym h.target)

  module _ (at i : ℕ) (l : i < k.transitions) (is : at ≡ transitions_from + i * transition_size k.places) where
    pub weights_fit : at + 2 + k.places + k.places ≤ length s
    weights_fit =
        let m : suc i ≤ (size_in s).T = omega (arith, t_is) in
        rw (is, n_is) (omega (arith, ends, mul-le-mul_right (transition_size (size_in s).n) m))

    pub weights_taken : transition_in s k.places at ≡ transition x.setting.net (i + 1)
    unfolding transition
    weights_taken = rw (is, n_is, add-one i) (sym (h.each_transition none i (omega (arith, t_is))))

  module _ (at i : ℕ) (l : i < k.claims) (is : at ≡ claims_from (size_of k.places k.transitions) + i * claim_size k.places) where
    pub claim_fits : at + 4 + k.places ≤ length s
    claim_fits =
        let m : suc i ≤ length x.claims = omega (arith, c_is) in
        rw (is, n_is, t_is) (omega (arith, h.end, mul-le-mul_right (claim_size (size_in s).n) m))

    pub claim_taken : claim_in s k.places at ≡ claim x (i + 1)
    unfolding claim
    claim_taken = rw (is, n_is, t_is, add-one i) (sym (h.each_claim no_claim i (omega (arith, c_is))))

  module _ (at i : ℕ) (stands : RecordStands s x i) (is : at ≡ claims_from (size_of k.places k.transitions) + i * claim_size k.places) where
    pub record_from_lem : at ≡ record_from x (i + 1)
    record_from_lem = is ∙ rw (n_is, t_is) (sym stands.from)

    pub record_bytes_lem : take (at + 4 + k.places - at) (drop at s) ≡ claim_bytes (claim x (i + 1))
    record_bytes_lem =
        let size : at + 4 + k.places - at ≡ claim_size k.places = omega arith in
        rw (size, is, n_is, t_is) stands.bytes
