-- `Frontier::reach` meets its contract. The invariant: the entries below `head` are expanded and lie outside the window, and the queue ends at `tail`.
use mathlib.Core.Path.{refl}
use Prim.Native.Nat.{◌<◌}
use native.Mathlib.Omega.{arith}
use lib.ListN.{length}
use lib.Seq.{get_or-set_same}
use Rattle.spreading.proofs.Queue.{begun}
use Rattle.spreading.proofs.Frontier.reach.Goals as goal

pub loop-head-init : goal.loop-head-init
loop-head-init c =
    let a = c.args in
    let f = a.self.now in
    let r = c.requires.start_in_bounds in
    let room : 0 < length f.queue.now = omega (arith, f.sizes.room, r.0) in (
      omega arith,
      record { steps = refl; size = refl; room = refl; mark = refl; queue = refl },
      record { some = omega arith; first = get_or-set_same f.queue.now 0 a.start 0 room; state = begun f.steps.now f.mark.now f.queue.now a.start r.0 f.sizes.room r.1 },
      λ i l. absurd (omega arith),
    )
