-- `distinct::spread` meets its contract. The invariant: what was put back and what is still to be put back add up (`Rest` of PutBack.antt).
use Rattle.std.specs.Iterator.Adapters.{zip_first, zip_second}
use Rattle.std.specs.Slice.Iter.{iter_rest}
use Rattle.distinct.proofs.PutBack.{Rest}
use Rattle.distinct.proofs.spread.Given as goal

abbrev pub invariant-loop-place : goal.invariant-loop-place
invariant-loop-place l = Rest l.places l.y l.x (iter_rest (zip_first l.place-iterator)) (iter_rest (zip_second l.place-iterator))
