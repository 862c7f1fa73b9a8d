-- Petri nets and firing: document 01, "Firing"; source documents 000 and 004.
use Rattle.std.specs.Prelude.{◌≡◌, List, [], ◌∷◌, ℕ, zero, suc, ◌+◌, ◌-◌, ◌≤◌, length, get_or}

-- A marking gives each place a whole number, zero or more, with no upper limit: place 1 stands first.
abbrev pub Marking : Type 0
Marking = List ℕ

-- A transition has a weight taken and a weight put for each place.
pub record Transition : Type 0 where
  pub taken : List ℕ
  pub put : List ℕ

pub record Net : Type 0 where
  pub places : ℕ
  pub transitions : List Transition

-- as many places, and in each place at most as much
infix 5 ◌⊑◌
unfoldable pub ◌⊑◌ : List ℕ → List ℕ → Type 0
xs ⊑ ys = (length xs ≡ length ys) × ((p : ℕ) → get_or xs p 0 ≤ get_or ys p 0)

-- place by place, the sum and what is left
infixl 6 ◌⊞◌ ◌⊟◌
unfoldable pub ◌⊞◌ : List ℕ → List ℕ → List ℕ
[] ⊞ ys = []
(x ∷ xs) ⊞ [] = []
(x ∷ xs) ⊞ (y ∷ ys) = (x + y) ∷ (xs ⊞ ys)

unfoldable pub ◌⊟◌ : List ℕ → List ℕ → List ℕ
[] ⊟ ys = []
(x ∷ xs) ⊟ [] = []
(x ∷ xs) ⊟ (y ∷ ys) = (x - y) ∷ (xs ⊟ ys)

-- A transition is enabled where each place has at least the weight taken.
unfoldable pub Enabled : Transition → Marking → Type 0
Enabled t m = t.taken ⊑ m

-- What may stand in the places beside the weights taken: any vector over as many places.
unfoldable pub Room : Transition → List ℕ → Type 0
Room t x = length x ≡ length t.taken

-- Firing it subtracts the weights taken and adds the weights put.
unfoldable pub fire : Transition → Marking → Marking
fire t m = (m ⊟ t.taken) ⊞ t.put

-- Transitions are numbered from 1.
unfoldable pub IsTransition : Net → ℕ → Type 0
IsTransition N t = (1 ≤ t) × (t ≤ length N.transitions)

-- the transition of a number that no transition has: never asked for
abbrev pub none : Transition
none = record { taken = []; put = [] }

unfoldable pub transition : Net → ℕ → Transition
transition N zero = none
transition N (suc t) = get_or N.transitions t none

-- A firing sequence is a list of transition numbers, each enabled where the ones before it led. An empty one ends where it began.
unfoldable pub Ends : Net → Marking → List ℕ → Marking → Type 0
Ends N m [] e = m ≡ e
Ends N m (t ∷ ts) e = IsTransition N t × Enabled (transition N t) m × Ends N (fire (transition N t) m) ts e

unfoldable pub Reachable : Net → Marking → Marking → Type 0
Reachable N m e = (ts : List ℕ) × Ends N m ts e
