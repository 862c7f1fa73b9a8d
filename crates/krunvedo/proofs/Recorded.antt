-- Where a claim's record stands, as numbers: the range that the call answers, or zeros where it refuses.
use Rattle.std.proofs.Common.{◌≡◌, sym, refl, List, ℕ, ◌-◌, length, Ok, Err, IfOk}
use native.Mathlib.Omega.{arith}
use Rattle.std.specs.declared.ops.Range.{Range}
use Rattle.terms.specs.declared.Claim.{Claim}
use Rattle.format.specs.Read.{Read, map_ok}
use Rattle.format.specs.Contents.{Contents}
use Rattle.claims.specs.Held.{claim_check}
use Rattle.claims.specs.Part.{IsRange, record_at, record_bytes}
use Rattle.claims.proofs.Parts.{none_refused}
use Rattle.numbers.specs.Numbers.{range_is}
use Rattle.krunvedo.specs.Exports.{record_of}

pub record_told : (y : Read Contents) (s : List ℕ) (i : Claim) (r : Read (Range ℕ)) → IfOk r (λ g. IsRange g s (record_at y i) (record_bytes y i)) → map_ok (λ _. tt) r ≡ claim_check y i → range_is r ≡ record_of y i
record_told y s i (Ok g) k e =
    let long : g.end - g.start ≡ length (record_bytes y i) = omega (arith, k.start, k.end) in
    rw (sym long, sym k.start, sym e) refl
record_told y s i (Err q) k e =
    let none = none_refused y i (sym e) in
    rw (none.0, none.1, sym e) refl
