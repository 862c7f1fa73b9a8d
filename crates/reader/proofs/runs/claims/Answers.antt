use Rattle.std.proofs.Common.{arith, ◌≡◌, refl, sym, ap, ◌∙◌, ◌+◌, ◌-◌, suc, length, ℕ}
use borrow.Author.Tests.{le-leb, lt-leb}
use Rattle.format.specs.Reading.{size_of, claims_from, claims_of, claims_at, claim_due}
use Rattle.format.specs.Checked.{checked}
use Rattle.format.proofs.Checks.{turned}
use Rattle.reader.proofs.Turns.{counted_from, claims_begin, claims_step, claims_stop, claims_done}
use Rattle.reader.proofs.runs.claims.Goals as goal

pub returns-then-sheet-at : goal.returns-then-sheet-at
unfolding claims_of
returns-then-sheet-at c =
    let a = c.args in
    let e : claims_from (size_of a.extent.places a.extent.transitions) ≡ c.claims_from-at.result = sym c.claims_from-at.ensures.0 in
    rw (le-leb (length a.sheet.now) (claims_from (size_of a.extent.places a.extent.transitions)) (omega arith))

pub loop-at-init : goal.loop-at-init
unfolding claims_of
loop-at-init c =
    let a = c.args in
    let e : claims_from (size_of a.extent.places a.extent.transitions) ≡ c.claims_from-at.result = sym c.claims_from-at.ensures.0 in
    record {
      within = omega arith;
      most = omega arith;
      rest = rw (lt-leb (length a.sheet.now) (claims_from (size_of a.extent.places a.extent.transitions)) (omega arith), e) (claims_begin a.sheet.now a.extent.places c.claims_from-at.result 0 (omega arith) _ refl);
    }

pub returns-in_err-claim_due : goal.returns-in_err-claim_due
returns-in_err-claim_due c =
    let a = c.args in
    let l = c.loop-at in
    let stops = claims_stop a.sheet.now a.extent.places l.at l.count (32 - l.count) (omega arith) (turned (claim_due a.sheet.now a.extent.places l.at (32 - l.count)) (sym c.claim_due.ensures.value ∙ c.in_err-claim_due.was)) in
    grind (arith, stops, l.invariant.rest, c.from_residual.ensures)

pub loop-at-preserved : goal.loop-at-preserved
loop-at-preserved c =
    let a = c.args in
    let l = c.loop-at in
    let m : 32 - l.count ≡ suc (32 - (l.count + 1)) = omega (arith, c.in_ok-claim_due.ensures.fits.0) in
    let steps = claims_step a.sheet.now a.extent.places l.at l.count (32 - (l.count + 1)) (omega arith) (ap (λ (k : ℕ). checked (claim_due a.sheet.now a.extent.places l.at k)) (sym m) ∙ sym c.claim_due.ensures.value ∙ c.in_ok-claim_due.was) in
    record {
      within = omega (arith, c.in_ok-claim_due.ensures.fits.1);
      most = omega (arith, c.in_ok-claim_due.ensures.fits.0);
      rest = l.invariant.rest ∙ ap (λ (k : ℕ). counted_from l.count (claims_at a.sheet.now a.extent.places l.at k)) m ∙ steps;
    }

pub returns : goal.returns
returns c =
    let a = c.args in
    let l = c.loop-at in
    sym (l.invariant.rest ∙ claims_done a.sheet.now a.extent.places l.at l.count (32 - l.count) (omega arith))
