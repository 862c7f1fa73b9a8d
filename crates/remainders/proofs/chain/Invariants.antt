-- `remainders::chain` meets its contract. The invariant: only the step of the entry that the chain stands at may be open (Lowered.antt). The measure: v rises, and an entry has 16 bits.
use Prim.Native.Nat.{◌-◌}
use lib.ListN.{length}
use Rattle.remainders.proofs.Lowered.{Going}
use Rattle.remainders.proofs.chain.Given as goal

abbrev pub invariant-loop-v : goal.invariant-loop-v
invariant-loop-v l = Going (length l.initial.table) l.k l.start l.initial.table l.table l.v l.next

abbrev pub decreases-loop-v : goal.decreases-loop-v
decreases-loop-v l = 65536 - l.v
