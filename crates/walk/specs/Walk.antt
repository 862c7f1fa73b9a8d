-- The walk: document 01, "The walk" and "Numbers that say no".
use Rattle.std.specs.Prelude.{◌≡◌, List, [], ◌∷◌, ℕ, length, take, Err, Ok}
use Rattle.terms.specs.Limits.{among}
use Rattle.refusals.specs.declared.Refusal.TheVariants.{NotATransition}
use Rattle.terms.specs.declared.Transition.{Transition}
use Rattle.nets.specs.Nets as nets
use Rattle.nets.specs.HalfSpaces.{sixteen}
use Rattle.format.specs.Read.{Read, choose, map_ok}
use Rattle.format.specs.Contents.{Contents}
use Rattle.refusals.specs.Refusals.{Check}
use Rattle.firing.specs.Firing.{lowest_short, lowest_over, fired_in}
use Rattle.walk.specs.declared.Marking.{Marking}
use Rattle.walk.specs.declared.Moved.{Moved}

-- the first refusal of a list, in its order
abbrev pub first : List Check → Check
first [] = (Ok tt)
first ((Ok u) ∷ checks) = first checks
first (Err r ∷ checks) = Err r

-- 12: transition number 0 or above T
abbrev pub no_such_transition : nets.Net → Transition → Check
no_such_transition net t = choose (among t.0 (length net.transitions)) (Ok tt) (Err (NotATransition t))

-- what a firing is refused for, in order
abbrev pub firing_checks : ℕ → nets.Transition → nets.Marking → List Check
firing_checks n t m = lowest_short n t.taken m ∷ lowest_over n (nets.fire t m) ∷ []

-- A refusal changes no marking.
abbrev pub moved_to : Check → List ℕ → Marking → Marking
moved_to (Ok u) new m = record { tokens = new }
moved_to (Err r) new m = m

abbrev pub moved : Check → List ℕ → Marking → Moved
moved answer new m = record { answer = answer; marking = moved_to answer new m }

-- the firing of t from m
abbrev pub firing_of : ℕ → nets.Transition → Marking → Moved
firing_of n t m = moved (first (firing_checks n t (take n m.tokens))) (fired_in n t m.tokens) m

-- the step by transition t of a sound sheet: 12, then what the firing is refused for
abbrev pub step_check : nets.Net → Transition → List ℕ → Check
step_check net t tokens = first (no_such_transition net t ∷ firing_checks net.places (nets.transition net t.0) (take net.places tokens))

abbrev pub step_in : nets.Net → Transition → Marking → Moved
step_in net t m = moved (step_check net t m.tokens) (fired_in net.places (nets.transition net t.0) m.tokens) m

-- each call reads the sheet first, and passes its refusal on
abbrev pub step_of : Read Contents → Transition → Marking → Moved
step_of (Err r) t m = record { answer = Err r; marking = m }
step_of (Ok x) t m = step_in x.setting.net t m

-- A walk begins at the sheet's start, with zeros beyond n.
abbrev pub begun : Contents → Marking
begun x = record { tokens = sixteen 0 x.setting.start }

abbrev pub begin_of : Read Contents → Read Marking
begin_of y = map_ok begun y

-- Each step of a walk moves the marking on that the step before it left.
unfoldable pub walked : Read Contents → List Transition → Marking → Marking
walked y [] m = m
walked y (t ∷ ts) m = walked y ts (step_of y t m).marking

-- no step of the walk is refused
unfoldable pub AllFine : Read Contents → List Transition → Marking → Type 0
AllFine y [] m = Unit {0}
AllFine y (t ∷ ts) m = ((step_of y t m).answer ≡ (Ok tt)) × AllFine y ts (step_of y t m).marking
