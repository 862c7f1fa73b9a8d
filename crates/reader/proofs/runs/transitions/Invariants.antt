use Rattle.std.proofs.Common.{◌≡◌, ◌≤◌, length, ◌+◌, ◌-◌, ◌*◌}
use Rattle.format.specs.Reading.{transitions_at, transitions_from, transition_size}
use Rattle.format.specs.Checked.{checked}
use Rattle.reader.proofs.runs.transitions.Given as goal

-- what was to be read behind the head is what is left to read behind k records
abbrev pub invariant-loop-k : goal.invariant-loop-k
invariant-loop-k l = record {
  whole : transitions_from + l.k * transition_size l.extent.places ≤ length l.sheet;
  rest : checked (transitions_at l.sheet l.extent.places transitions_from l.extent.transitions) ≡ checked (transitions_at l.sheet l.extent.places (transitions_from + l.k * transition_size l.extent.places) (l.extent.transitions - l.k));
}
