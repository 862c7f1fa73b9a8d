use Rattle.std.proofs.Common.{arith, sym, ap, ◌∙◌, Ok}
use Rattle.traces.specs.Traces.{halted, Traced}
use Rattle.traces.proofs.Turns.{none_left, goes_on, stops}
use Rattle.traces.proofs.fire_all.Goals as goal

pub returns-in-Err-clause-value : goal.returns-in-Err-clause-value
returns-in-Err-clause-value c =
    let a = c.args in
    let l = c.loop-i in
    let e = sym c.step_in.ensures.0 ∙ c.in-Err.is in
    sym (ap halted (l.invariant ∙ stops (Ok a.sheet.now) a.m.now a.list.now l.i l.m (omega arith) e))

pub returns-in-Err-clause-marking : goal.returns-in-Err-clause-marking
returns-in-Err-clause-marking c =
    let a = c.args in
    let l = c.loop-i in
    let e = sym c.step_in.ensures.0 ∙ c.in-Err.is in
    sym (ap (λ (t : Traced). t.marking) (l.invariant ∙ stops (Ok a.sheet.now) a.m.now a.list.now l.i l.m (omega arith) e))

pub loop-i-preserved : goal.loop-i-preserved
loop-i-preserved c =
    let a = c.args in
    let l = c.loop-i in
    l.invariant ∙ goes_on (Ok a.sheet.now) a.m.now a.list.now l.i l.m (omega arith) c.step_in.new.m (sym c.step_in.ensures.0 ∙ c.in_default.is) c.step_in.ensures.1

pub returns-clause-value : goal.returns-clause-value
returns-clause-value c =
    let a = c.args in
    let l = c.loop-i in
    sym (ap halted (l.invariant ∙ none_left (Ok a.sheet.now) a.m.now a.list.now l.i l.m (omega arith)))

pub returns-clause-marking : goal.returns-clause-marking
returns-clause-marking c =
    let a = c.args in
    let l = c.loop-i in
    sym (ap (λ (t : Traced). t.marking) (l.invariant ∙ none_left (Ok a.sheet.now) a.m.now a.list.now l.i l.m (omega arith)))
