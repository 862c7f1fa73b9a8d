-- `remainders::chain` meets its contract. The invariant: only the step of the entry that the chain stands at may be open (Lowered.antt). The measure: v rises, and an entry has 16 bits.
use mathlib.Core.Path.{◌≡◌, refl, ap, ◌∙◌}
use Prim.Native.Nat.{ℕ, ◌+◌, ◌%◌, ◌<◌}
use native.Mathlib.Nat.{add-mod-mod}
use native.Mathlib.Omega.{arith}
use lib.ListN.{length, get_or}
use Rattle.remainders.proofs.Lowered.{begun, goes_on, stops}
use Rattle.remainders.proofs.chain.Goals as goal

pub loop-v-init : goal.loop-v-init
loop-v-init c =
    let g = c.args in
    let a = length g.table.now in
    begun a g.k g.start g.table.now _ _ refl c.requires.s_value.1 (ap (λ (w : ℕ). w + g.k) c.from.ensures)
    (c.after-next.ensures ∙ ap (λ (i : ℕ). (g.start + i) % a) c.requires.s_value.0 ∙ add-mod-mod g.start g.k a) c.requires.by_index

pub loop-v-preserved : goal.loop-v-preserved
loop-v-preserved c =
    let lowers : (w : ℕ) → w ≡ get_or c.loop-v.table c.loop-v.next 0 → c.loop-v.v < w → c.loop-v.v < get_or c.loop-v.table c.loop-v.next 0 = λ w e l. omega arith in
    let g = c.args in
    let a = length g.table.now in
    goes_on a g.k g.start g.table.now c.loop-v.table c.loop-v.v c.loop-v.next c.requires.ready.long c.loop-v.invariant
    (lowers c.from-in-loop-v.result c.from-in-loop-v.ensures c.loop-v-test.true) _ _ refl
    (c.after-next-in-loop-v.ensures ∙ ap (λ (i : ℕ). (c.loop-v.next + i) % a) c.requires.s_value.0 ∙ add-mod-mod c.loop-v.next g.k a)

pub returns : goal.returns
returns c =
    let g = c.args in
    stops (length g.table.now) g.k g.start g.table.now c.loop-v.table c.loop-v.v c.loop-v.next c.requires.ready.long c.loop-v.invariant (omega (arith, c.loop-v-test.false, c.from-in-loop-v.ensures))
