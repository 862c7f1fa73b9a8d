-- What the pair call's answer tells: two results that fit one statement are equal, but for the choice among bad markings.
use Rattle.std.specs.Prelude.{Err, Ok}
use mathlib.Core.Path.{◌≡◌, refl, sym, ◌∙◌}
use mathlib.Core.Logic.{◌⊎◌, inl, inr}
use mathlib.Core.List.{List}
use Prim.Native.Nat.{ℕ}
use Rattle.terms.specs.declared.Claim.{Claim}
use Rattle.terms.specs.declared.Transition.{Transition}
use Rattle.nets.specs.Nets as nets
use Rattle.nets.specs.HalfSpaces.{HalfSpace, Kept}
use Rattle.format.specs.Read.{Read}
use Rattle.format.specs.Contents.{Contents}
use Rattle.pairs.specs.declared.Answer.{Answer}
use Rattle.pairs.specs.declared.Answer.TheVariants as answers
use Rattle.pairs.specs.Pairs.{IsAnswer, IsPair, asked}

abbrev pub IsBroken : Read Answer → Type 0
IsBroken r = (m : List ℕ) × (r ≡ Ok (answers.Broken m))

-- the same, but for the markings where both are broken
abbrev pub SameButMarking : Read Answer → Read Answer → Type 0
SameButMarking r p = (r ≡ p) ⊎ (IsBroken r × IsBroken p)

-- kept and broken cannot both fit: a shown marking refutes kept
one_asked : (k : Read (HalfSpace × nets.Transition)) (r p : Read Answer) → IsAnswer k r → IsAnswer k p → SameButMarking r p
unfolding Kept
one_asked (Err q) r p a b = inl (a ∙ sym b)
one_asked (Ok (h, t)) (Ok answers.Kept) (Ok answers.Kept) a b = inl refl
one_asked (Ok (h, t)) (Ok answers.Kept) (Ok (answers.Broken l)) a b = absurd (a b.0 b.1.bad)
one_asked (Ok (h, t)) (Ok (answers.Broken m)) (Ok answers.Kept) a b = absurd (b a.0 a.1.bad)
one_asked (Ok (h, t)) (Ok (answers.Broken m)) (Ok (answers.Broken l)) a b = inr ((m, refl), (l, refl))
one_asked (Ok (h, t)) (Ok x) (Err q) a b = absurd b
one_asked (Ok (h, t)) (Err q) p a b = absurd a

-- Two results for the same sheet, claim, transition and areas.
pub two_answers : (y : Read Contents) (i : Claim) (t : Transition) (marks queue : ℕ) (r p : Read Answer) → IsPair y i t marks queue r → IsPair y i t marks queue p → SameButMarking r p
two_answers y i t marks queue r p a b = one_asked (asked y i t marks queue) r p a b
