-- `lent::wipe` meets its contract: each area is cleared in its first 20,000 entries, and the others are not lent on.
use Rattle.std.proofs.Common.{◌≡◌, ◌≤◌, ℕ, List, ◌++◌, length, take, drop, replicate, ap, ◌∙◌}
use Rattle.std.proofs.Math.Seq.{length-take-le}
use Rattle.lent.proofs.wipe.Goals as goal

cleared : (n : ℕ) (part old : List ℕ) → n ≤ length old → part ≡ replicate (length (take n old)) 0 → part ++ drop n old ≡ replicate n 0 ++ drop n old
cleared n part old l e = ap (λ (r : List ℕ). r ++ drop n old) (e ∙ ap (λ (i : ℕ). replicate i 0) (length-take-le n old l))

pub returns : goal.returns
returns c = (
  cleared 20000 _ c.args.marks.now c.requires.0 (c.fill.ensures.after (λ y e. e)),
  cleared 20000 _ c.args.queue.now c.requires.1 (c.fill-2.ensures.after (λ y e. e)),
)
