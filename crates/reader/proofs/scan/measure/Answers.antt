-- `measure` meets its contract: the refusal is that of the first part that has one.
use Rattle.std.proofs.Common.{sym, arith}
use Rattle.format.specs.Reading.{size_of}
use Rattle.reader.proofs.Whole.{scanned, front_told, front_stops, claims_stop}
use Rattle.reader.proofs.scan.measure.Goals as goal

pub returns-in_err-extent : goal.returns-in_err-extent
returns-in_err-extent c =
    let stops = front_stops c.args.sheet.now (sym c.in_err-extent.ensures.value) in
    grind (arith, stops, c.from_residual.ensures)

pub returns-in_err-claims : goal.returns-in_err-claims
returns-in_err-claims c =
    let e = c.in_ok-extent.extent in
    let z = size_of e.places e.transitions in
    let (head, setting) = front_told c.args.sheet.now z (sym c.in_ok-extent.ensures.value) in
    let stops = claims_stop c.args.sheet.now z head setting (sym c.in_err-claims.ensures) in
    grind (arith, stops, c.from_residual-in_err-claims.ensures)

pub returns : goal.returns
returns c =
    let e = c.in_ok-extent.extent in
    let z = size_of e.places e.transitions in
    let (head, setting) = front_told c.args.sheet.now z (sym c.in_ok-extent.ensures.value) in
    sym (scanned c.args.sheet.now z c.in_ok-claims.claims head setting (sym c.in_ok-claims.ensures))
