-- Taking a sound reading apart: a refused part would have been the answer, so each part is sound and each test is passed.
use Rattle.std.specs.Prelude.{Ok}
use mathlib.Core.Path.{◌≡◌, refl}
use mathlib.Core.Bool.{Bool, true, false, cond}
use mathlib.Core.List.{List}
use Prim.Native.Nat.{ℕ, ◌+◌, ◌≤◌, ◌<◌}
use native.Mathlib.Omega.{arith}
use lib.Dec.{leb}
use lib.ListN.{length}
use borrow.Author.Tests.{leb-true}
use Rattle.terms.specs.Limits.{places_fit}
use Rattle.nets.specs.Nets.{Marking, Transition}
use Rattle.nets.specs.Verdicts.{Target}
use Rattle.format.specs.Contents.{Claim}
use Rattle.format.specs.Reading.{byte, words, whole_at, opened_at, transition_size, start_size, target_size, claim_size, Size, size_of, head_of, transition_in, transition_at, start_at, target_in, target_at, claim_in, claim_at, claim_due}
use Rattle.format.proofs.Parts.{parts, ltb_exactly}
use Rattle.format.proofs.Fields.{whole_exactly, opened_exactly}

pub cond-true : (a b : Bool) → cond a b false ≡ true → (a ≡ true) × (b ≡ true)
cond-true true b e = (refl, e)
cond-true false b e = absurd (let z : ◌≡◌ {A = ℕ} 0 1 = cc in omega arith)

-- the whole record stands in the sheet
pub whole_sound : (s : List ℕ) (at size : ℕ) → whole_at s at size ≡ Ok tt → at + size ≤ length s
whole_sound s at size e = (whole_exactly s at size).0 e

pub opened_sound : (s : List ℕ) (at first second size : ℕ) → opened_at s at first second size ≡ Ok tt → at + size ≤ length s
opened_sound s at first second size e = ((opened_exactly s at first second size).0 e).1

-- NP
pub places_fit_lem : (n : ℕ) → places_fit n ≡ true → (1 ≤ n) × (n ≤ 16)
places_fit_lem n e = let (a, b) = cond-true (leb 1 n) (leb n 16) e in (leb-true 1 n a, leb-true n 16 b)

pub record HeadSound (s : List ℕ) (z : Size) : Type 0 where
  pub size : z ≡ size_of (byte s 2) (byte s 3)
  pub whole : 4 ≤ length s
  pub some : 1 ≤ byte s 2
  pub places : byte s 2 ≤ 16
  pub transitions : byte s 3 ≤ 64

pub head_sound : (s : List ℕ) (z : Size) → head_of s ≡ Ok z → HeadSound s z
unfolding head_of
head_sound s z e =
    let (opened, (n, (T, all))) = simp (parts, opened_exactly) at e in
    let fits = places_fit_lem (byte s 2) n in
    record { size = cc; whole = opened.1; some = fits.0; places = fits.1; transitions = leb-true (byte s 3) 64 T }

-- TR, MK, TG and HS: what is held is what stands there
pub transition-sound : (s : List ℕ) (n at : ℕ) (t : Transition) → transition_at s n at ≡ Ok t → (t ≡ transition_in s n at) × (at + transition_size n ≤ length s)
unfolding transition_at
transition-sound s n at t e =
    let (opened, (fits, all)) = simp (parts, opened_exactly) at e in (cc, opened.1)

pub start_sound : (s : List ℕ) (n at : ℕ) (m : Marking) → start_at s n at ≡ Ok m → (m ≡ words s (at + 2) n) × (at + start_size n ≤ length s)
unfolding start_at
start_sound s n at m e =
    let (opened, all) = simp (parts, opened_exactly) at e in (cc, opened.1)

pub target_sound : (s : List ℕ) (n at : ℕ) (g : Target) → target_at s n at ≡ Ok g → (g ≡ target_in s n at) × (at + target_size n ≤ length s)
unfolding target_at
target_sound s n at g e =
    let (opened, (fits, all)) = simp (parts, opened_exactly) at e in (cc, opened.1)

pub claim-sound : (s : List ℕ) (n at : ℕ) (i : Claim) → claim_at s n at ≡ Ok i → (i ≡ claim_in s n at) × (at + claim_size n ≤ length s)
unfolding claim_at
claim-sound s n at i e =
    let (whole, (fits, (constant, (nonzero, all)))) = simp (parts, whole_exactly) at e in (cc, whole)

pub due_sound : (s : List ℕ) (n at more : ℕ) (i : Claim) → claim_due s n at more ≡ Ok i → (i ≡ claim_in s n at) × (at + claim_size n ≤ length s) × (0 < more)
unfolding claim_due
due_sound s n at more i e =
    let (marked, (due, all)) = simp (parts, ltb_exactly) at e in
    let (here, whole) = claim-sound s n at i all in (here, whole, due)
