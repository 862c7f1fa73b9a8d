-- What the core answers for a half space and a transition: kept, or broken with a marking to show.
use Rattle.std.specs.Prelude.{◌≡◌, Option, Some, None, List, ℕ}
use Rattle.nets.specs.Nets.{Marking, Transition}
use Rattle.nets.specs.HalfSpaces.{HalfSpace, Kept, Shown, sixteen}

abbrev pub Crosses : HalfSpace → Transition → Option (List ℕ) → Type 0
Crosses h t (Some m) = (b : Marking) × Shown h t b × (m ≡ sixteen 0 b)
Crosses h t None = Kept h t
