use Rattle.std.proofs.Common.{ap, ap₂, ◌∙◌, ℕ, length}
use Rattle.format.specs.Reading.{reading}
use Rattle.numbers.specs.declared.Record.{Record}
use Rattle.krunvedo.proofs.Recorded.{record_told}
use Rattle.krunvedo.proofs.krunvedo_claim_record.Goals as goal

pub returns : goal.returns
returns c =
    let told = c.from-told.ensures ∙ record_told (reading c.args.sheet.now) c.args.sheet.now (record { 0 = c.args.i }) c.record_range.result c.record_range.ensures.range c.record_range.ensures.check in
    ap₂ (λ (r : Record) (n : ℕ). record { refusal = r.refusal; offset = r.offset; length = n }) told (ap length c.claim_record-part.ensures.reads)
