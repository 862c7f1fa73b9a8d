-- `residues::meets` meets its contract. The invariant: r is the remainder of v, and of the values from lo on none below v is reached.
use mathlib.Core.Path.{ap, ◌∙◌}
use Prim.Native.Nat.{ℕ, ◌+◌, ◌%◌, ◌≤◌}
use native.Mathlib.Nat.{mod-add-mod}
use native.Mathlib.Omega.{arith}
use lib.ListN.{length, get_or}
use borrow.Author.Count.{below_more}
use Rattle.residues.proofs.meets.Goals as goal

pub loop-v-preserved : goal.loop-v-preserved
loop-v-preserved c =
    let l = c.loop-v in
    let least = length c.args.table.now in
    let miss : get_or c.args.table.now (l.v % least) 0 ≤ l.v → ⊥ = λ h. omega (arith, ap (λ (j : ℕ). get_or c.args.table.now j 0) l.invariant.0) in (
      c.after-r.ensures ∙ ap (λ (j : ℕ). (j + 1) % least) l.invariant.0 ∙ mod-add-mod l.v least 1,
      below_more _ _ l.invariant.1 (λ lo h. miss h),
    )
