-- When a step is refused, in the words of document 01's table and over the net alone: `walk/proofs/Exactly.antt` shows that `step_of` of walk answers so.
use Rattle.std.specs.Prelude.{List, [], ◌∷◌, ℕ, ◌-◌, ◌≤◌, ◌<◌, get_or}
use Rattle.terms.specs.Limits.{most_tokens}
use Rattle.terms.specs.declared.Place.{Place}
use Rattle.nets.specs.Nets.{Marking, Transition, Net, fire, transition}

-- Places are numbered from 1.
abbrev pub tokens_in : Marking → Place → ℕ
tokens_in m p = get_or m (p.0 - 1) 0

-- p is the lowest place of which P holds
pub record IsLowest (P : Place → Type 0) (p : Place) : Type 0 where
  pub numbered : 1 ≤ p.0
  pub holds : P p
  pub least : (q : Place) → 1 ≤ q.0 → q.0 < p.0 → P q → ⊥

-- fewer tokens than are taken, and more than 65,535 after the whole step
abbrev pub Short : Transition → Marking → Place → Type 0
Short t m p = tokens_in m p < tokens_in t.taken p

abbrev pub Over : Transition → Marking → Place → Type 0
Over t m p = most_tokens < tokens_in (fire t m) p

-- no marking on the way of a firing sequence has more than 65,535 in a place
unfoldable pub StaysWithin : Net → Marking → List ℕ → Type 0
StaysWithin N m [] = Unit {0}
StaysWithin N m (t ∷ ts) = ((p : Place) → Over (transition N t) m p → ⊥) × StaysWithin N (fire (transition N t) m) ts
