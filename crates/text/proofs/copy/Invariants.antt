use Rattle.std.proofs.Common.{◌≡◌, take}
use Rattle.text.proofs.copy.Given as goal

abbrev pub invariant-loop-place : goal.invariant-loop-place
invariant-loop-place l = take l.place l.area ≡ take l.place l.bytes
