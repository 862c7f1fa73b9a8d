-- What a proof is for: no target marking can be reached. Each firing stays inside, by induction over the sequence so does its end, and no target marking is inside.
use mathlib.Core.Path.{subst}
use mathlib.Core.Logic.{⊎_elim}
use mathlib.Core.List.{List, [], ◌∷◌}
use Prim.Native.Nat.{ℕ}
use Rattle.nets.specs.Nets.{Marking, Transition, Net, Enabled, fire, IsTransition, transition, Ends, Reachable}
use Rattle.nets.specs.HalfSpaces.{HalfSpace, Inside, Outside, Kept}
use Rattle.nets.specs.Verdicts.{IsTarget, Setting, IsProof}
use Rattle.nets.proofs.Vectors.{inside_or_below, outside_exactly}

pub firing_stays : (h : HalfSpace) (t : Transition) (m : Marking) → Kept h t → Enabled t m → Inside h m → Inside h (fire t m)
unfolding Kept
firing_stays h t m k e i =
    ⊎_elim
    (λ stays. stays)
    (λ below. absurd (k m (record { inside = i; enabled = e; leaves = (outside_exactly h (fire t m)).1 below })))
    (inside_or_below h (fire t m))

pub sequence_stays : (N : Net) (h : HalfSpace) → ((t : ℕ) → IsTransition N t → Kept h (transition N t)) → (m : Marking) (ts : List ℕ) (e : Marking) → Inside h m → Ends N m ts e → Inside h e
unfolding Ends
sequence_stays N h kept m [] e i s = subst (Inside h) s i
sequence_stays N h kept m (t ∷ ts) e i s =
    sequence_stays N h kept (fire (transition N t) m) ts e
    (firing_stays h (transition N t) m (kept t s.0) s.1 i)
    s.2

pub nothing_reached : (q : Setting) (h : HalfSpace) → IsProof q h → (ts : List ℕ) (e : Marking) → Ends q.net q.start ts e → IsTarget q.target e → ⊥
unfolding Outside
nothing_reached q h p ts e s g =
    p.target_outside e g (sequence_stays q.net h p.every_kept q.start ts e p.start_inside s)

pub none_reachable : (q : Setting) (h : HalfSpace) → IsProof q h → (e : Marking) → Reachable q.net q.start e → IsTarget q.target e → ⊥
unfolding Reachable
none_reachable q h p e r g = nothing_reached q h p r.0 e r.1 g
