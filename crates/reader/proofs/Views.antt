-- What the views of a sheet give: its target, a claim and a transition, of numbers that a sheet can hold.
use mathlib.Core.Path.{◌≡◌, refl, sym, ap, ap₂, ◌∙◌}
use mathlib.Core.Bool.{Bool, true, false}
use mathlib.Core.List.{List}
use Prim.Native.Nat.{ℕ, ◌+◌, ◌-◌, ◌*◌, ◌≤◌}
use native.Mathlib.Omega.{arith}
use lib.Dec.{eqb}
use lib.IntN.{ℤ, pos}
use lib.ListN.{length, take}
use lib.Seq.{take_at}
use Rattle.amounts.specs.Kinds.{kind_of_byte}
use Rattle.nets.specs.Nets.{transition}
use Rattle.nets.specs.HalfSpaces.{HalfSpace, sixteen}
use Rattle.format.specs.Contents.{half_space, claim}
use Rattle.format.specs.Formed.{IsSheet}
use Rattle.format.specs.Reading.{bytes, kind_of, size_of, claim_in, claims_from, claim_size, transitions_from, transition_size}
use Rattle.format.proofs.Standing.{length-bytes}
use Rattle.rows.proofs.Rows.{length_signed}
use Rattle.values.specs.Held.{space_in, IsSpace, arcs_in, AreArcs}
use Rattle.reader.specs.declared.Counts.{Counts}
use Rattle.reader.specs.Known.{Known, contents_of}
use Rattle.reader.specs.Targets.{kind_is}
use Rattle.reader.proofs.Known.{limits, space_is, formed_claim, transition_is, formed_transition}

pub kinds-agree : (b : ℕ) → kind_of_byte b ≡ kind_is (kind_of b)
kinds-agree b = by_test (eqb b 0) refl
  where
    by_test : (t : Bool) → eqb b 0 ≡ t → kind_of_byte b ≡ kind_is (kind_of b)
    by_test true e = rw e refl
    by_test false e = rw e refl

module _ (s : List ℕ) (k : Counts) (q : Known s k) (small : IsSheet s) where
  -- sixteen coefficients and a constant, as they are taken from a claim's record
  pub space : (i : ℕ) → 1 ≤ i → i ≤ k.claims → (from : ℕ) → from ≡ claims_from (size_of k.places k.transitions) + (i - 1) * claim_size k.places → (row : List ℤ) (c : ℤ) → row ≡ sixteen (pos 0) (claim_in s k.places from).coefficients → c ≡ (claim_in s k.places from).constant
      → IsSpace row k.places c × (space_in row k.places c ≡ half_space (claim (contents_of s) i))
  space i some few from is row c r e =
      let same = space_is s k q i some few from is row c r e in
      let f = formed_claim s k q small i some few in
      let first : take k.places row ≡ (claim_in s k.places from).coefficients = ap (take k.places) r ∙ take_at _ _ k.places (length_signed s (from + 2) k.places) in (
        record {
          places = (limits s k q).0;
          coefficients = rw (ap (λ (h : HalfSpace). h.coefficients) same) f.coefficients;
          constant = rw (ap (λ (h : HalfSpace). h.constant) same) f.constant;
          beyond = r ∙ ap (sixteen (pos 0)) (sym first);
        },
        same,
      )

  -- the parts of a transition's record
  pub arcs : (t : ℕ) → 1 ≤ t → t ≤ k.transitions → (at : ℕ) → at ≡ transitions_from + (t - 1) * transition_size k.places → (taken put : List ℕ) → taken ≡ bytes s (at + 2) k.places → put ≡ bytes s (at + 2 + k.places) k.places
      → AreArcs taken put × (arcs_in taken put ≡ transition (contents_of s).setting.net t)
  arcs t some few at is taken put u p =
      let same : arcs_in taken put ≡ transition (contents_of s).setting.net t = ap₂ arcs_in u p ∙ transition_is s k q t some few at is in
      let long : length taken ≡ k.places = ap length u ∙ length-bytes s (at + 2) k.places in (
        record {
          places = omega (arith, long, (limits s k q).0);
          weights = rw (same, long) (formed_transition s k q small t some few);
        },
        same,
      )
