use Rattle.std.proofs.Common.{sym, ap, ◌∙◌, Bool, arith}
use Rattle.refusals.specs.declared.Refusal.TheVariants as refused
use Rattle.format.specs.Read.{need}
use Rattle.fields.proofs.Each.{nonzero_in}
use Rattle.fields.proofs.nonzero.Goals as goal

pub returns-then-some_other_than_zero : goal.returns-then-some_other_than_zero
returns-then-some_other_than_zero c =
    let a = c.args in
    ap (λ (some : Bool). need some (refused.AllZero a.first)) (sym c.if-some_other_than_zero.true ∙ nonzero_in a.s.now a.from a.count c.some_other_than_zero.result c.requires (λ i. omega (arith, c.type_inv.s i)) c.some_other_than_zero.ensures)

pub returns-else-some_other_than_zero : goal.returns-else-some_other_than_zero
returns-else-some_other_than_zero c =
    let a = c.args in
    ap (λ (some : Bool). need some (refused.AllZero a.first)) (sym c.if-some_other_than_zero.false ∙ nonzero_in a.s.now a.from a.count c.some_other_than_zero.result c.requires (λ i. omega (arith, c.type_inv.s i)) c.some_other_than_zero.ensures)
