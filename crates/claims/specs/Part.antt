-- The record of claim i as a part of the caller's own sheet: document 01, "Half spaces and verdicts".
use Rattle.std.specs.Prelude.{◌≡◌, List, [], ℕ, ◌+◌, ◌-◌, ◌≤◌, length, take, drop, Err, Ok}
use Rattle.std.specs.Borrow.{Bor}
use Rattle.std.specs.declared.ops.Range.{Range}
use Rattle.terms.specs.Limits.{among}
use Rattle.terms.specs.declared.Claim.{Claim}
use Rattle.format.specs.Read.{Read, choose}
use Rattle.format.specs.Contents.{Contents, claim}
use Rattle.format.specs.Encoding.{claim_bytes, record_from}

-- part is what stands in the memory of whole from its byte `at` on, and reads bs
pub record IsPart (part whole : Bor (List ℕ)) (at : ℕ) (bs : List ℕ) : Type 0 where
  pub block : part.ref_ptr.0 ≡ whole.ref_ptr.0
  pub offset : part.ref_ptr.1 ≡ whole.ref_ptr.1 + at
  pub reads : part.now ≡ bs

-- where the record starts, and its bytes, the mark included; a refusal gives a part of length 0 at the sheet's start
abbrev pub record_at : Read Contents → Claim → ℕ
record_at (Err r) i = 0
record_at (Ok x) i = choose (among i.0 (length x.claims)) (record_from x i.0) 0

abbrev pub record_bytes : Read Contents → Claim → List ℕ
record_bytes (Err r) i = []
record_bytes (Ok x) i = choose (among i.0 (length x.claims)) (claim_bytes (claim x i.0)) []

-- the same as a range of the sheet's byte places: bs stands there, from `at` on
pub record IsRange (range : Range ℕ) (whole : List ℕ) (at : ℕ) (bs : List ℕ) : Type 0 where
  pub start : range.start ≡ at
  pub end : range.end ≡ at + length bs
  pub within : range.end ≤ length whole
  pub reads : take (range.end - range.start) (drop range.start whole) ≡ bs
