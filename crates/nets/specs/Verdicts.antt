-- Targets, proofs and verdicts: demand 3 and document 01, "Half spaces and verdicts".
use Rattle.std.specs.Prelude.{◌≡◌, List, ℕ, ◌<◌, length, get_or, ℤ, pos, ◌<ℤ◌}
use Rattle.nets.specs.Nets.{Marking, Net, ◌⊑◌, IsTransition, transition}
use Rattle.nets.specs.HalfSpaces.{HalfSpace, Inside, Outside, Shown, Kept}

-- Kind 0 is one exact marking; kind 1 is every marking at or above it in each place.
pub data Kind : Type 0 where
  exact at_or_above : Kind

pub record Target : Type 0 where
  pub kind : Kind
  pub tokens : Marking

unfoldable pub Meets : Kind → Marking → Marking → Type 0
Meets exact g m = m ≡ g
Meets at_or_above g m = g ⊑ m

unfoldable pub IsTarget : Target → Marking → Type 0
IsTarget g m = Meets g.kind g.tokens m

-- What a claim is judged against.
pub record Setting : Type 0 where
  pub net : Net
  pub start : Marking
  pub target : Target

-- A half space is a proof exactly if the start lies in it, no target marking does, and every transition keeps it.
pub record IsProof (q : Setting) (h : HalfSpace) : Type 0 where
  pub start_inside : Inside h q.start
  pub target_outside : (m : Marking) → IsTarget q.target m → Outside h m
  pub every_kept : (t : ℕ) → IsTransition q.net t → Kept h (transition q.net t)

-- The verdict is the first of these that holds.
pub data Verdict : Type 0 where
  start_outside target_inside : Verdict
  broken : ℕ → Marking → Verdict
  proof : Verdict

-- some target marking is inside
unfoldable pub TargetInside : Setting → HalfSpace → Type 0
TargetInside q h = (m : Marking) × IsTarget q.target m × Inside h m

-- some coefficient is above zero: what Theorem 7 of 004 asks beside the written target
unfoldable pub SomeAbove : List ℤ → Type 0
SomeAbove k = (p : ℕ) × (p < length k) × (pos 0 <ℤ get_or k p (pos 0))

-- some coefficient is below zero: what Theorem 3 of 004 asks beside one above
unfoldable pub SomeBelow : List ℤ → Type 0
SomeBelow k = (p : ℕ) × (p < length k) × (get_or k p (pos 0) <ℤ pos 0)

-- t is the lowest transition that breaks it, and m is a bad marking shown for it
pub record BrokenFirst (q : Setting) (h : HalfSpace) (t : ℕ) (m : Marking) : Type 0 where
  pub there : IsTransition q.net t
  pub shown : Shown h (transition q.net t) m
  pub lowest : (u : ℕ) → IsTransition q.net u → u < t → Kept h (transition q.net u)

-- neither of the first two
pub record Separates (q : Setting) (h : HalfSpace) : Type 0 where
  pub start_inside : Inside h q.start
  pub target_outside : TargetInside q h → ⊥

unfoldable pub IsVerdict : Setting → HalfSpace → Verdict → Type 0
IsVerdict q h start_outside = Outside h q.start
IsVerdict q h target_inside = Inside h q.start × TargetInside q h
IsVerdict q h (broken t m) = Separates q h × BrokenFirst q h t m
IsVerdict q h proof = Separates q h × ((t : ℕ) → IsTransition q.net t → Kept h (transition q.net t))

-- the same but for the bad marking
unfoldable pub SameBut : Verdict → Verdict → Type 0
SameBut start_outside start_outside = Unit {0}
SameBut start_outside target_inside = ⊥
SameBut start_outside (broken u l) = ⊥
SameBut start_outside proof = ⊥
SameBut target_inside start_outside = ⊥
SameBut target_inside target_inside = Unit {0}
SameBut target_inside (broken u l) = ⊥
SameBut target_inside proof = ⊥
SameBut (broken t m) start_outside = ⊥
SameBut (broken t m) target_inside = ⊥
SameBut (broken t m) (broken u l) = t ≡ u
SameBut (broken t m) proof = ⊥
SameBut proof start_outside = ⊥
SameBut proof target_inside = ⊥
SameBut proof (broken u l) = ⊥
SameBut proof proof = Unit {0}
