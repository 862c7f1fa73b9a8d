-- Where the record of a claim stands and what it reads, and that what `claim_record` promises fits one part only.
use Rattle.std.specs.Prelude.{Ok, Err}
use mathlib.Core.Path.{◌≡◌, refl, sym, ap, ap₂, ◌∙◌}
use mathlib.Core.Bool.{Bool, true, false}
use native.Mathlib.Nat.{add-zero}
use mathlib.Core.List.{List, []}
use Prim.Native.Nat.{ℕ, ◌+◌, ◌-◌, ◌*◌, ◌≤◌}
use native.Mathlib.Omega.{arith}
use lib.ListN.{length, take, drop}
use denote.Ref.{Bor}
use Rattle.terms.specs.Limits.{among}
use Rattle.terms.specs.declared.Claim.{Claim}
use Rattle.refusals.specs.declared.Refusal.{Refusal}
use Rattle.refusals.specs.declared.Refusal.TheVariants.{NotAClaim}
use Rattle.format.specs.Read.{Read, choose}
use Rattle.format.specs.Checked.{checked}
use Rattle.format.specs.Contents.{Contents, claim, half_space}
use Rattle.format.proofs.Parts.{never_both}
use Rattle.claims.specs.Held.{claim_check}
use Rattle.format.specs.Encoding.{claim_bytes, record_from}
use Rattle.format.specs.Formed.{IsSheet}
use Rattle.format.specs.Reading.{reading, size_of, claims_from, claim_size}
use Rattle.format.proofs.Places.{held}
use Rattle.format.proofs.ClaimRecord.{RecordStands, record_stands}
use Rattle.reader.specs.declared.Counts.{Counts}
use Rattle.reader.specs.Known.{Known, contents_of}
use Rattle.reader.proofs.Taken.{among_some, c_is, record_from_lem, record_bytes_lem}
use Rattle.reader.proofs.Known.{limits, claim_whole}
use Rattle.claims.specs.Part.{IsPart, record_at, record_bytes}

-- a refused claim's record has length 0, and is said to stand at 0
pub none_refused : (y : Read Contents) (i : Claim) {r : Refusal} → claim_check y i ≡ Err r → (record_at y i ≡ 0) × (record_bytes y i ≡ [])
unfolding claim_check
none_refused (Err q) i e = (refl, refl)
none_refused (Ok x) i e = by_test (among i.0 (length x.claims)) e
  where
    by_test : (t : Bool) {r : Refusal} → checked (choose t (Ok (half_space (claim x i.0))) (Err (NotAClaim i))) ≡ Err r → (choose t (record_from x i.0) 0 ≡ 0) × (choose t (claim_bytes (claim x i.0)) [] ≡ [])
    by_test true {r} e = absurd (never_both r tt (sym e))
    by_test false e = (refl, refl)

pub at_start : {part whole : Bor (List ℕ)} (at : ℕ) (bs : List ℕ) → part.ref_ptr ≡ whole.ref_ptr → part.now ≡ [] → at ≡ 0 → bs ≡ [] → IsPart part whole at bs
at_start {whole} at bs p r e f =
    record {
      block = ap (λ (q : ℕ × ℕ). q.0) p;
      offset = ap (λ (q : ℕ × ℕ). q.1) p ∙ sym (ap (λ (k : ℕ). whole.ref_ptr.1 + k) e ∙ add-zero whole.ref_ptr.1);
      reads = r ∙ sym f;
    }

-- the contract leaves one part: the same memory and the same bytes
pub one_part :
    (sheet : Bor (List ℕ)) (i : Claim) (p q : Bor (List ℕ))
    → IsPart p sheet (record_at (reading sheet.now) i) (record_bytes (reading sheet.now) i)
    → IsPart q sheet (record_at (reading sheet.now) i) (record_bytes (reading sheet.now) i)
    → (p.ref_ptr ≡ q.ref_ptr) × (p.now ≡ q.now)
one_part sheet i p q a b = (ap₂ (λ (k o : ℕ). (k, o)) (a.block ∙ sym b.block) (a.offset ∙ sym b.offset), a.reads ∙ sym b.reads)

module _ (s : List ℕ) (k : Counts) (q : Known s k) (i : Claim) (yes : among i.0 k.claims ≡ true) where
  pub behind_fits : (i.0 - 1) ≤ 32
  behind_fits = omega (arith, (among_some i.0 k.claims yes).1, (limits s k q).2)

  module _ (at : ℕ) (is : at ≡ claims_from (size_of k.places k.transitions) + (i.0 - 1) * claim_size k.places) where
    pub record_fits : at + 4 + k.places ≤ length s
    record_fits = claim_whole s k q i.0 (among_some i.0 k.claims yes).0 (among_some i.0 k.claims yes).1 at is

    module _ (small : IsSheet s) where
      there : among i.0 (length (contents_of s).claims) ≡ true
      there = ap (among i.0) (sym (c_is s (contents_of s) k (held s (contents_of s) q.is_read) q.counts)) ∙ yes

      one : i.0 - 1 + 1 ≡ i.0
      one = omega (arith, (among_some i.0 k.claims yes).0)

      stands : RecordStands s (contents_of s) (i.0 - 1)
      stands = record_stands s (contents_of s) small q.is_read (i.0 - 1) (omega (arith, among_some i.0 k.claims yes, c_is s (contents_of s) k (held s (contents_of s) q.is_read) q.counts))

      pub record_starts : at ≡ record_at (reading s) i
      record_starts =
          record_from_lem s (contents_of s) k (held s (contents_of s) q.is_read) q.counts at (i.0 - 1) stands is
          ∙ ap (record_from (contents_of s)) one
          ∙ sym (ap (λ y. record_at y i) q.is_read ∙ ap (λ t. choose t (record_from (contents_of s) i.0) 0) there)

      pub record_reads : take (at + 4 + k.places - at) (drop at s) ≡ record_bytes (reading s) i
      record_reads =
          record_bytes_lem s (contents_of s) k (held s (contents_of s) q.is_read) q.counts at (i.0 - 1) stands is
          ∙ ap (λ (j : ℕ). claim_bytes (claim (contents_of s) j)) one
          ∙ sym (ap (λ y. record_bytes y i) q.is_read ∙ ap (λ t. choose t (claim_bytes (claim (contents_of s) i.0)) []) there)
