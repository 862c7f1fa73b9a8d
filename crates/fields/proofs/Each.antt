-- Fields of one kind: the first that does not fit is refused, and whether some byte is other than zero is whether some number is that they stand for.
use Rattle.std.specs.Prelude.{Option, Some, None, Ok, Err, ◌≡◌, Bool, true, false, not, cond, List, map, ℕ, zero, suc, ◌+◌, ◌≤◌, ◌<◌, length, take, drop, nat_abs, nat_lt, ◌-◌, ◌==◌, eqb}
use Rattle.std.proofs.Common.{refl, sym, ap, ◌∙◌, arith}
use Rattle.std.specs.List.{position, list_any}
use Rattle.refusals.specs.declared.Refusal.{Refusal}
use Rattle.refusals.specs.Refusals.{Check}
use borrow.Author.Tests.{eqb-true}
use Rattle.format.specs.Encoding.{signed_byte}
use Rattle.format.proofs.Nonzero.{size_zero}
use Rattle.format.proofs.Numbers.{byte_back}
use Rattle.format.proofs.Standing.{part_bytes}
use Rattle.signed.specs.Twos.{twos8}
use Rattle.format.specs.Contents.{some_nonzero}
use Rattle.format.specs.Reading.{byte, bytes, each_fits}

-- the refusal of the first fault, of fields that stand from a byte on
abbrev pub at_first : (ℕ → Refusal) → ℕ → Option ℕ → Check
at_first refusal at None = Ok tt
at_first refusal at (Some i) = Err (refusal (at + i))

-- one place further on
shifted : (refusal : ℕ → Refusal) (at k n : ℕ) (t u : Bool) → t ≡ nat_lt k n → u ≡ nat_lt (1 + k) (suc n) → at_first refusal (at + 1) (cond t (Some k) None) ≡ at_first refusal at (cond u (Some (1 + k)) None)
shifted refusal at k n true true e f = ap (λ (i : ℕ). Err (refusal i)) (omega arith)
shifted refusal at k n false false e f = refl
shifted refusal at k n true false e f = absurd (grind (arith, e, f))
shifted refusal at k n false true e f = absurd (grind (arith, e, f))

here : (refusal : ℕ → Refusal) (at n : ℕ) (u : Bool) → u ≡ nat_lt 0 (suc n) → Err (refusal at) ≡ at_first refusal at (cond u (Some 0) None)
here refusal at n true e = ap (λ (i : ℕ). Err (refusal i)) (omega arith)
here refusal at n false e = absurd (grind (arith, e))

each_first : (fits : ℕ → Bool) (refusal : ℕ → Refusal) (s : List ℕ) (at n : ℕ) → each_fits fits refusal s at n ≡ at_first refusal at (position (λ b. not (fits b)) (bytes s at n))
unfolding each_fits bytes
each_first fits refusal s at zero = refl
each_first fits refusal s at (suc n) = by_test (fits (byte s at)) refl (each_first fits refusal s (at + 1) n)
  where
    by_test : (t : Bool) → fits (byte s at) ≡ t → each_fits fits refusal s (at + 1) n ≡ at_first refusal (at + 1) (position (λ b. not (fits b)) (bytes s (at + 1) n))
        → each_fits fits refusal s at (suc n) ≡ at_first refusal at (position (λ b. not (fits b)) (bytes s at (suc n)))
    by_test true e rest = rw e (rest ∙ shifted refusal at _ (length (bytes s (at + 1) n)) _ _ refl refl)
    by_test false e rest = rw e (here refusal at (length (bytes s (at + 1) n)) _ refl)

pub first_in : (fits : ℕ → Bool) (refusal : ℕ → Refusal) (s : List ℕ) (at n : ℕ) (fault : Option ℕ) → at + n ≤ length s → fault ≡ position (λ b. not (fits b)) (take (at + n - at) (drop at s)) → at_first refusal at fault ≡ each_fits fits refusal s at n
first_in fits refusal s at n fault h e =
    ap (at_first refusal at) (e ∙ ap (position (λ b. not (fits b))) (part_bytes s at n (at + n - at) (omega arith) h)) ∙ sym (each_first fits refusal s at n)

Bool_apart : false ≡ true → ⊥
Bool_apart e = let z : ◌≡◌ {A = ℕ} 0 1 = cc in omega arith

-- a byte other than zero stands for a number other than zero
not-zero : (b : ℕ) → b < 256 → (b ≡ 0 → ⊥) → nat_abs (twos8 b) ≡ 0 → ⊥
not-zero b small h e = h (sym (byte_back b small) ∙ ap signed_byte (size_zero (twos8 b) e))

-- a byte stands for zero exactly if it is zero
zero_byte : (b : ℕ) → b < 256 → (b == 0) ≡ eqb (nat_abs (twos8 b)) 0
zero_byte b h = by_tests (b == 0) (eqb (nat_abs (twos8 b)) 0) refl refl
  where
    by_tests : (t u : Bool) → (b == 0) ≡ t → eqb (nat_abs (twos8 b)) 0 ≡ u → t ≡ u
    by_tests true true e f = refl
    by_tests false false e f = refl
    by_tests true false e f =
        let z : b ≡ 0 = grind (arith, e) in
        absurd (Bool_apart (sym f ∙ ap (λ (b : ℕ). eqb (nat_abs (twos8 b)) 0) z))
    by_tests false true e f = absurd (not-zero b h (λ z. Bool_apart (sym e ∙ ap (λ (b : ℕ). b == 0) z)) (eqb-true _ 0 f))

other_than_zero : (s : List ℕ) (at n : ℕ) → ((i : ℕ) → byte s i < 256) → list_any (λ b. not (b == 0)) (bytes s at n) ≡ some_nonzero (map twos8 (bytes s at n))
unfolding bytes some_nonzero
other_than_zero s at zero small = refl
other_than_zero s at (suc n) small = by_test (eqb (nat_abs (twos8 (byte s at))) 0) refl (other_than_zero s (at + 1) n small)
  where
    by_test : (t : Bool) → eqb (nat_abs (twos8 (byte s at))) 0 ≡ t → list_any (λ b. not (b == 0)) (bytes s (at + 1) n) ≡ some_nonzero (map twos8 (bytes s (at + 1) n)) → list_any (λ b. not (b == 0)) (bytes s at (suc n)) ≡ some_nonzero (map twos8 (bytes s at (suc n)))
    by_test true e rest = rw (zero_byte (byte s at) (small at), e) rest
    by_test false e rest = rw (zero_byte (byte s at) (small at), e) refl

-- some number is other than zero exactly where some byte is
pub nonzero_in : (s : List ℕ) (at n : ℕ) (some : Bool) → at + n ≤ length s → ((i : ℕ) → byte s i < 256) → some ≡ list_any (λ b. not (b == 0)) (take (at + n - at) (drop at s)) → some ≡ some_nonzero (map twos8 (bytes s at n))
nonzero_in s at n some h small e = e ∙ ap (list_any (λ b. not (b == 0))) (part_bytes s at n (at + n - at) (omega arith) h) ∙ other_than_zero s at n small
