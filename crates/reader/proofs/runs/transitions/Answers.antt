use Rattle.std.proofs.Common.{rules, arith, ◌≡◌, sym, ◌∙◌, ◌+◌, ◌*◌}
use Rattle.format.specs.Reading.{transitions_from, transition_size}
use Rattle.reader.proofs.Turns.{transitions_step, transitions_stop, transitions_done}
use Rattle.reader.proofs.runs.transitions.Goals as goal

pub returns-in_err-transition-clause-value : goal.returns-in_err-transition-clause-value
returns-in_err-transition-clause-value c =
    let a = c.args in
    let stops = transitions_stop a.sheet.now a.extent.places c.behind_transitions-at.result c.loop-k.k a.extent.transitions (omega arith) c.transition.ensures.value c.in_err-transition.was in
    grind (arith, stops, c.loop-k.invariant.rest, c.behind_transitions-at.ensures.0, c.in_err-transition.was, c.from_residual.ensures)

pub loop-k-preserved : goal.loop-k-preserved
loop-k-preserved c =
    let a = c.args in
    let next : transitions_from + (c.loop-k.k + 1) * transition_size a.extent.places ≡ c.behind_transitions-at.result + transition_size a.extent.places = omega (arith, c.behind_transitions-at.ensures.0) in
    let steps = transitions_step a.sheet.now a.extent.places c.behind_transitions-at.result c.loop-k.k a.extent.transitions _ next (omega arith) (sym c.transition.ensures.value ∙ c.in_ok-transition.was) in
    record { whole = search (rules, arith); rest = grind (arith, steps, c.loop-k.invariant.rest, c.behind_transitions-at.ensures.0) }

pub returns-clause-value : goal.returns-clause-value
returns-clause-value c =
    let a = c.args in
    sym (c.loop-k.invariant.rest ∙ transitions_done a.sheet.now a.extent.places _ c.loop-k.k a.extent.transitions (omega arith))
