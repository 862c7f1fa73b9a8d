-- `Frontier::expand` meets its contract: what the loop stores is `fresh` of Queue.antt, and where it stores nothing the state is that of `stale`.
use Rattle.std.proofs.Common.{rules, arith, get_or, pos, w8, FitsSigned}
use Rattle.std.proofs.lemmas.Int.{to_z-of_z}
use Rattle.spreading.proofs.Queue.{place_left, fresh, stale, turned}
use Rattle.spreading.proofs.Frontier.expand.Goals as goal
use Rattle.spreading.proofs.Frontier.expand.Goals.{then-mark-w-eq0, else-mark-w-eq0}

pub bounds-queue-end : goal.bounds-queue-end
bounds-queue-end c =
    let a = c.args in
    let k = a.self.now.steps.now in
    let q = a.self.now.queue.now in
    let l = c.loop-p in
    let f : FitsSigned w8 (get_or k l.p (pos 0)) = search rules in
    place_left k l.mark l.queue q a.head a.tail l.p l.end _ c.requires.head_lt_tail c.loop-p-test.true c.from-v.ensures l.invariant _ (to_z-of_z w8 _ f) _ c.next-w.ensures c.if-mark-w-eq0.true

pub loop-p-preserved : goal.loop-p-preserved
loop-p-preserved c =
    let a = c.args in
    let k = a.self.now.steps.now in
    let q = a.self.now.queue.now in
    let l = c.loop-p in
    let f : FitsSigned w8 (get_or k l.p (pos 0)) = search rules in
    elim c.if-mark-w-eq0.branch [
      | then-mark-w-eq0 w ↦
          rw (w.mark-is, w.queue-is, w.end-is)
          (fresh k l.mark l.queue q a.head a.tail l.p l.end _ c.requires.head_lt_tail c.loop-p-test.true c.from-v.ensures l.invariant _ (to_z-of_z w8 _ f) _ c.next-w.ensures w.if-mark-w-eq0.true)
      | else-mark-w-eq0 w ↦
          rw (w.mark-is, w.queue-is, w.end-is)
          (stale k l.mark l.queue q a.head a.tail l.p l.end _ c.requires.head_lt_tail c.loop-p-test.true c.from-v.ensures l.invariant _ (to_z-of_z w8 _ f) _ c.next-w.ensures w.if-mark-w-eq0.false)
    ]

pub returns-clause-done : goal.returns-clause-done
returns-clause-done c =
    let a = c.args in
    let k = a.self.now.steps.now in
    let l = c.loop-p in
    let i = l.invariant in
    record {
      grows = i.grows;
      kept = i.kept;
      state = turned k l.mark l.queue a.head l.p l.end i.state (omega (arith, i.grows)) (omega arith);
    }
