use Rattle.std.proofs.Common.{length, ◌-◌, ◌≡◌, ◌≤◌}
use Rattle.format.specs.Reading.{size_of, claims_of, claims_at}
use Rattle.format.specs.Read.{map_ok}
use Rattle.reader.proofs.Turns.{counted_from}
use Rattle.reader.proofs.runs.claims.Given as goal

-- the claims counted with those left to read are those of the sheet
abbrev pub invariant-loop-at : goal.invariant-loop-at
invariant-loop-at l = record {
  within : l.at ≤ length l.sheet;
  most : l.count ≤ 32;
  rest : map_ok length (claims_of l.sheet (size_of l.extent.places l.extent.transitions)) ≡ counted_from l.count (claims_at l.sheet l.extent.places l.at (32 - l.count));
}

abbrev pub decreases-loop-at : goal.decreases-loop-at
decreases-loop-at l = length l.sheet - l.at
