-- Where nothing is refused, what is asked is what the sheet has under the two numbers.
use Rattle.std.proofs.Common.{◌≡◌, refl, sym, ℕ, true, Ok}
use Rattle.terms.specs.Limits.{areas_fit}
use Rattle.terms.specs.declared.Claim.{Claim}
use Rattle.terms.specs.declared.Transition.{Transition}
use Rattle.nets.specs.Nets as nets
use Rattle.nets.specs.HalfSpaces.{HalfSpace}
use Rattle.format.specs.Read.{Read}
use Rattle.format.specs.Contents.{Contents}
use Rattle.reader.specs.Numbered.{claim_numbered, transition_numbered}
use Rattle.pairs.specs.Pairs.{asked}

pub asked_so : (i : Claim) (t : Transition) (marks queue : ℕ) {y : Read Contents} {x : Contents} {h : HalfSpace} {u : nets.Transition} → Ok x ≡ y → Ok h ≡ claim_numbered x i → Ok u ≡ transition_numbered x t → areas_fit marks queue ≡ true → asked y i t marks queue ≡ Ok (h, u)
asked_so i t marks queue a b c d = rw (sym a, sym b, sym c, d) refl
