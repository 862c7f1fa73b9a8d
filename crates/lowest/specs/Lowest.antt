-- The lowest transition that breaks a half space: document 01, "the lowest such number is named".
use Rattle.std.specs.Prelude.{Option, Some, None, ℕ, ◌<◌}
use Rattle.terms.specs.declared.Transition as counted
use Rattle.nets.specs.Nets.{Net, IsTransition, transition}
use Rattle.nets.specs.HalfSpaces.{HalfSpace, Kept, Broken}

-- the lowest transition that breaks it, or none where every one keeps it
abbrev pub FirstBroken : Net → HalfSpace → Option counted.Transition → Type 0
FirstBroken N h None = (t : ℕ) → IsTransition N t → Kept h (transition N t)
FirstBroken N h (Some t) = IsTransition N t.0 × Broken h (transition N t.0) × ((u : ℕ) → IsTransition N u → u < t.0 → Kept h (transition N u))
