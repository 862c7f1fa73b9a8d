use Rattle.std.proofs.Common.{arith, sym}
use Rattle.format.proofs.ClaimRecord.{sheet_of}
use Rattle.reader.specs.Answers.{told}
use Rattle.reader.proofs.Whole.{known_from}
use Rattle.reader.proofs.Sheet.read.Goals as goal

pub invariant_of-result : goal.invariant_of-result
invariant_of-result c =
    record {
      known = known_from c.args.bytes.now (told c.in_ok-extent.extent.places c.in_ok-extent.extent.transitions c.in_ok-extent.claims) c.in_ok-extent.ensures;
      bytes = sheet_of c.args.bytes.now (λ i. omega (arith, c.type_inv.bytes i));
    }

pub returns : goal.returns
returns c =
    let known = known_from c.args.bytes.now (told c.in_ok-extent.extent.places c.in_ok-extent.extent.transitions c.in_ok-extent.claims) c.in_ok-extent.ensures in
    sym known.is_read
