-- A list stands in another at a place exactly if its entries are there one after the other: by induction over it.
-- What stands at 0 and is as long is the whole.
use mathlib.Core.Path.{◌≡◌, refl, sym, ap, ◌∙◌, subst}
use mathlib.Core.List.{List, [], ◌∷◌, ◌++◌, append-nil}
use Prim.Native.Nat.{ℕ, zero, suc, ◌+◌, ◌≤◌, ◌<◌}
use native.Mathlib.Nat.{add-zero}
use native.Mathlib.Numerals.{add-one}
use native.Mathlib.Omega.{arith}
use lib.ListN.{length, get_or, take, drop, length-append, drop_of_length-le}
use lib.Seq.{take_at, drop-cons, append_snoc, get_or-append_seam}
use Rattle.format.specs.Reading.{byte, bytes}

abbrev pub Stands : List ℕ → ℕ → List ℕ → Type 0
Stands s at [] = Unit {0}
Stands s at (b ∷ bs) = (at < length s) × (byte s at ≡ b) × Stands s (at + 1) bs

module _ (s : List ℕ) where
  pub stands_there : (at to : ℕ) (b : List ℕ) → at ≡ to → Stands s at b → Stands s to b
  stands_there at to b e h = subst (λ (n : ℕ). Stands s n b) e h

  -- one after the other
  pub stands-append : (at to : ℕ) (a b : List ℕ) → at + length a ≡ to → Stands s at a → Stands s to b → Stands s at (a ++ b)
  stands-append at to [] b e h k = stands_there to at b (omega arith) k
  stands-append at to (x ∷ a) b e h k = (h.0, h.1, stands-append (at + 1) to a b (omega arith) h.2 k)

  pub stands_left : (at : ℕ) (a b : List ℕ) → Stands s at (a ++ b) → Stands s at a
  stands_left at [] b h = tt
  stands_left at (x ∷ a) b h = (h.0, h.1, stands_left (at + 1) a b h.2)

  pub stands_right : (at to : ℕ) (a b : List ℕ) → at + length a ≡ to → Stands s at (a ++ b) → Stands s to b
  stands_right at to [] b e h = stands_there at to b (omega arith) h
  stands_right at to (x ∷ a) b e h = stands_right (at + 1) to a b (omega arith) h.2

  -- there is room for it
  pub stands_fits : (at x : ℕ) (b : List ℕ) → Stands s at (x ∷ b) → at + length (x ∷ b) ≤ length s
  stands_fits at x [] h = omega arith
  stands_fits at x (y ∷ b) h = omega (arith, stands_fits (at + 1) y b h.2)

  -- the bytes there
  pub length-bytes : (at n : ℕ) → length (bytes s at n) ≡ n
  unfolding bytes
  length-bytes at zero = refl
  length-bytes at (suc n) = ap suc (length-bytes (at + 1) n)

  pub stands-bytes : (at n : ℕ) → at + n ≤ length s → Stands s at (bytes s at n)
  unfolding bytes
  stands-bytes at zero h = tt
  stands-bytes at (suc n) h = (omega arith, refl, stands-bytes (at + 1) n (omega arith))

  pub bytes_stand : (at n : ℕ) (b : List ℕ) → length b ≡ n → Stands s at b → bytes s at n ≡ b
  unfolding bytes
  bytes_stand at zero [] e h = refl
  bytes_stand at zero (x ∷ b) e h = absurd (omega arith)
  bytes_stand at (suc n) [] e h = absurd (omega arith)
  bytes_stand at (suc n) (x ∷ b) e h =
      let rest : bytes s (at + 1) n ≡ b = bytes_stand (at + 1) n b (omega arith) h.2 in
      rw (h.1, rest)

  -- what it is at the front of
  pub stands-drop : (at : ℕ) (b : List ℕ) → Stands s at b → drop at s ≡ b ++ drop (at + length b) s
  stands-drop at [] h = rw add-zero
  stands-drop at (x ∷ b) h =
      let rest : drop (at + 1) s ≡ b ++ drop (at + 1 + length b) s = stands-drop (at + 1) b h.2 in
      let to : at + 1 + length b ≡ at + suc (length b) = omega arith in
      rw (drop-cons s at 0 h.0, h.1, ← add-one at, rest, to)

-- the whole
pub stands_seam : (p b : List ℕ) → Stands (p ++ b) (length p) b
stands_seam p [] = tt
stands_seam p (x ∷ b) = (
  omega (arith, length-append p (x ∷ b)),
  get_or-append_seam p x b 0,
  stands_there (p ++ x ∷ b) (length (p ++ (x ∷ []))) (length p + 1) b (length-append p (x ∷ [])) (rw append_snoc at (stands_seam (p ++ (x ∷ [])) b)),
)

pub stands_whole : (s b : List ℕ) → Stands s 0 b → length s ≤ length b → s ≡ b
stands_whole s b h k =
    let none : drop (0 + length b) s ≡ [] = drop_of_length-le s {i = 0 + length b} (omega arith) in
    stands-drop s 0 b h ∙ rw (none, append-nil)

pub whole_stands : (s b : List ℕ) → s ≡ b → Stands s 0 b
whole_stands s b e = rw e (stands_seam [] b)

-- a byte of a row is the sheet's byte there
pub byte_in : (s : List ℕ) (at n i : ℕ) → i < n → get_or (bytes s at n) i 0 ≡ byte s (at + i)
unfolding bytes
byte_in s at zero i l = absurd (omega arith)
byte_in s at (suc n) zero l = ap (byte s) (omega arith)
byte_in s at (suc n) (suc i) l = byte_in s (at + 1) n i (omega arith) ∙ ap (byte s) (omega arith)

-- the bytes that stand there, as a part of the sheet
pub part_bytes : (s : List ℕ) (at n size : ℕ) → size ≡ n → at + n ≤ length s → take size (drop at s) ≡ bytes s at n
part_bytes s at n size e h =
    ap (take size) (stands-drop s at (bytes s at n) (stands-bytes s at n h)) ∙ take_at (bytes s at n) _ size (length-bytes s at n ∙ sym e)
