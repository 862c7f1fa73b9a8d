-- `trails::trail` meets its contract. The invariant: the counts so far lead from w to entry h. The measure is w's index in the queue.
use Rattle.std.proofs.Common.{◌-◌, ◌∙◌, rules, arith, refl, get_or, pos, w8, FitsSigned, replicate, get_or-set_other}
use Rattle.std.proofs.lemmas.Int.{to_z-of_z}
use Rattle.std.proofs.Math.ListN.{length-set, length-replicate}
use Rattle.spreading.proofs.Queue.{get_or-zeros}
use Rattle.trails.proofs.Backward.{arrived, seat, one_hop}
use Rattle.trails.proofs.trail.Goals as goal

pub loop-w-init : goal.loop-w-init
loop-w-init g c =
    let f = c.args.frontier.now in (
      length-replicate g.row.N 0,
      λ p l. get_or-zeros g.row.N p,
      rw c.from-w.ensures (arrived _ _ _ _ _ f.sizes c.requires.entry (replicate g.row.N 0) g.row.N refl),
    )

pub bounds-frontier-p : goal.bounds-frontier-p
bounds-frontier-p g c =
    let l = c.loop-w in
    (one_hop _ _ _ _ _ c.args.frontier.now.sizes c.requires.entry _ _ l.invariant.2 c.loop-w-test.true _ c.from-p.ensures).inside

pub former-w-requires : goal.former-w-requires
former-w-requires g c =
    let l = c.loop-w in
    let s = c.args.frontier.now in
    let z = s.sizes in
    let b = seat _ _ _ _ _ z c.requires.entry _ _ l.invariant.2 in
    let f : FitsSigned w8 (get_or s.steps.now (c.from-p.result - 1) (pos 0)) = search rules in
    rw (to_z-of_z w8 _ f)
    (omega (arith, b, z.narrow), (one_hop _ _ _ _ _ z c.requires.entry _ _ l.invariant.2 c.loop-w-test.true _ c.from-p.ensures).enough)

pub bounds-x-p : goal.bounds-x-p
bounds-x-p g c =
    let l = c.loop-w in
    omega (arith, (one_hop _ _ _ _ _ c.args.frontier.now.sizes c.requires.entry _ _ l.invariant.2 c.loop-w-test.true _ c.from-p.ensures).inside, c.requires.steps)

pub overflow_add-x : goal.overflow_add-x
overflow_add-x g c =
    let l = c.loop-w in
    record { fits = (one_hop _ _ _ _ _ c.args.frontier.now.sizes c.requires.entry _ _ l.invariant.2 c.loop-w-test.true _ c.from-p.ensures).space }

pub bounds-x-p-in-loop-w : goal.bounds-x-p-in-loop-w
bounds-x-p-in-loop-w g c =
    let l = c.loop-w in
    omega (arith, (one_hop _ _ _ _ _ c.args.frontier.now.sizes c.requires.entry _ _ l.invariant.2 c.loop-w-test.true _ c.from-p.ensures).inside, c.requires.steps)

pub loop-w-smaller : goal.loop-w-smaller
loop-w-smaller g c =
    let l = c.loop-w in
    let s = c.args.frontier.now in
    let f : FitsSigned w8 (get_or s.steps.now (c.from-p.result - 1) (pos 0)) = search rules in
    let back = rw (to_z-of_z w8 _ f) at c.former-w.ensures in
    rw back (one_hop _ _ _ _ _ s.sizes c.requires.entry _ _ l.invariant.2 c.loop-w-test.true _ c.from-p.ensures).falls

pub loop-w-preserved : goal.loop-w-preserved
loop-w-preserved g c =
    let l = c.loop-w in
    let s = c.args.frontier.now in
    let f : FitsSigned w8 (get_or s.steps.now (c.from-p.result - 1) (pos 0)) = search rules in
    let back = rw (to_z-of_z w8 _ f) at c.former-w.ensures in
    let t = one_hop _ _ _ _ _ s.sizes c.requires.entry _ _ l.invariant.2 c.loop-w-test.true _ c.from-p.ensures in
    let i = l.invariant in (
      length-set l.x _ _ ∙ i.0,
      λ p b. get_or-set_other l.x (c.from-p.result - 1) p _ 0 (λ e. omega (arith, t.inside)) ∙ i.1 p b,
      rw back (t.next (omega (arith, t.inside, c.requires.steps))),
    )
