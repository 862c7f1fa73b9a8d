use Rattle.std.proofs.Common.{arith, sym, ap, ◌∙◌, ◌≡◌, true, ◌+◌, ◌-◌, drop, length, length-take-le, length-drop}
use Rattle.terms.specs.Limits.{among}
use Rattle.format.proofs.ClaimRecord.{sheet_of}
use Rattle.reader.specs.Answers.{told}
use Rattle.reader.proofs.Whole.{known_from}
use Rattle.claims.proofs.Parts.{behind_fits, record_fits, record_starts, record_reads}
use Rattle.claims.proofs.record_range.Goals as goal

pub behind_claims-at-requires : goal.behind_claims-at-requires
behind_claims-at-requires c =
    let s = c.args.bytes.now in
    let e = c.in_ok-extent in
    behind_fits s (told e.extent.places e.extent.transitions e.claims) (known_from s _ e.ensures) c.args.claim (sym c.among.ensures ∙ c.if-not-among.false)

pub returns-clause-range : goal.returns-clause-range
returns-clause-range c =
    let s = c.args.bytes.now in
    let e = c.in_ok-extent in
    let k = told e.extent.places e.extent.transitions e.claims in
    let yes : among c.args.claim.0 k.claims ≡ true = sym c.among.ensures ∙ c.if-not-among.false in
    let at = c.behind_claims-at.result in
    let is = c.behind_claims-at.ensures.0 in
    let small = sheet_of s (λ i. omega (arith, c.type_inv.bytes i)) in
    let fits = record_fits s k (known_from s k e.ensures) c.args.claim yes at is in
    let starts = record_starts s k (known_from s k e.ensures) c.args.claim yes at is small in
    let reads = record_reads s k (known_from s k e.ensures) c.args.claim yes at is small in
    let long : at + 4 + k.places - at ≡ length _ = sym (length-take-le _ (drop at s) (omega (arith, length-drop at s))) ∙ ap length reads in
    record {
      start = starts;
      end = omega (arith, starts, long);
      within = fits;
      reads = reads;
    }
