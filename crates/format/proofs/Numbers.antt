-- Two's complement takes each number that fits to its bytes and back: below half the bytes are the number itself, and from there on 256 (65,536) more.
use mathlib.Core.Path.{◌≡◌, refl, ap, ap₂, ◌∙◌}
use mathlib.Core.Bool.{Bool, true, false, cond}
use mathlib.Core.List.{[], ◌∷◌}
use Prim.Native.Nat.{ℕ, zero, suc, ◌+◌, ◌-◌, ◌*◌, ◌/◌, ◌%◌, ◌≤◌, ◌<◌}
use native.Mathlib.Omega.{arith}
use lib.Dec.{ltb}
use lib.ListN.{length}
use lib.IntN.{ℤ, pos, negsuc}
use borrow.Author.Tests.{ltb-true, ltb-false, leb-true, lt-ltb, le-ltb}
use Rattle.signed.specs.Linear.{linear}
use Rattle.signed.specs.Twos.{twos8, twos16}
use Rattle.terms.specs.Limits.{coefficient_fits, constant_fits}
use Rattle.nets.specs.Verdicts.{Kind, exact, at_or_above}
use Rattle.format.specs.Reading.{kind_of}
use Rattle.format.specs.Encoding.{word_bytes, signed_byte, signed_bytes, kind_byte}

-- one byte
pub twos8_low : (b : ℕ) → b < 128 → twos8 b ≡ pos b
twos8_low b h = rw (lt-ltb b 128 h)

pub twos8_high : (b : ℕ) → 128 ≤ b → b < 256 → twos8 b ≡ negsuc (255 - b)
twos8_high b h k = rw (le-ltb b 128 h) (simp linear (omega arith))

pub byte_back : (b : ℕ) → b < 256 → signed_byte (twos8 b) ≡ b
byte_back b h = go (ltb b 128) refl
  where
    go : (t : Bool) → ltb b 128 ≡ t → signed_byte (twos8 b) ≡ b
    go true e = ap signed_byte (twos8_low b (ltb-true b 128 e))
    go false e = ap signed_byte (twos8_high b (ltb-false b 128 e) h) ∙ omega arith

below : (t : Bool) → cond t false true ≡ true → t ≡ false
below true e = cc
below false e = refl

pub coefficient_back : (k : ℤ) → coefficient_fits k ≡ true → twos8 (signed_byte k) ≡ k
coefficient_back (pos n) e = twos8_low n (omega (arith, leb-true n 100 e))
coefficient_back (negsuc n) e =
    let most : n ≤ 99 = ltb-false 99 n (below (ltb 99 n) e) in
    twos8_high (255 - n) (omega arith) (omega arith) ∙ ap negsuc (omega arith)

pub coefficient_small : (k : ℤ) → coefficient_fits k ≡ true → signed_byte k < 256
coefficient_small (pos n) e = omega (arith, leb-true n 100 e)
coefficient_small (negsuc n) e = omega arith

-- two bytes
abbrev pub unsigned : ℤ → ℕ
unsigned (pos c) = c
unsigned (negsuc c) = 65535 - c

pub bytes_unsigned : (c : ℤ) → signed_bytes c ≡ word_bytes (unsigned c)
bytes_unsigned (pos c) = refl
bytes_unsigned (negsuc c) = refl

pub twos16_low : (lo hi : ℕ) → hi < 128 → twos16 lo hi ≡ pos (lo + 256 * hi)
twos16_low lo hi h = rw (lt-ltb hi 128 h)

pub twos16_high : (lo hi : ℕ) → 128 ≤ hi → lo < 256 → hi < 256 → twos16 lo hi ≡ negsuc (65535 - (lo + 256 * hi))
twos16_high lo hi h l k = rw (le-ltb hi 128 h) (simp linear (omega arith))

pub bytes_back : (lo hi : ℕ) → lo < 256 → hi < 256 → unsigned (twos16 lo hi) ≡ lo + 256 * hi
bytes_back lo hi l h = go (ltb hi 128) refl
  where
    go : (t : Bool) → ltb hi 128 ≡ t → unsigned (twos16 lo hi) ≡ lo + 256 * hi
    go true e = ap unsigned (twos16_low lo hi (ltb-true hi 128 e))
    go false e = ap unsigned (twos16_high lo hi (ltb-false hi 128 e) l h) ∙ omega arith

pub constant_small : (c : ℤ) → constant_fits c ≡ true → unsigned c < 65536
constant_small (pos c) e = omega (arith, leb-true c 5000 e)
constant_small (negsuc c) e = omega arith

pub constant_back : (c : ℤ) → constant_fits c ≡ true → twos16 (unsigned c % 256) (unsigned c / 256) ≡ c
constant_back (pos c) e =
    let most : c ≤ 5000 = leb-true c 5000 e in
    twos16_low (c % 256) (c / 256) (omega arith) ∙ ap pos (omega arith)
constant_back (negsuc c) e =
    let most : c ≤ 4999 = ltb-false 4999 c (below (ltb 4999 c) e) in
    twos16_high ((65535 - c) % 256) ((65535 - c) / 256) (omega arith) (omega arith) (omega arith) ∙ ap negsuc (omega arith)

pub constant_bytes : (lo hi : ℕ) → lo < 256 → hi < 256 → signed_bytes (twos16 lo hi) ≡ lo ∷ hi ∷ []
constant_bytes lo hi l h =
    bytes_unsigned (twos16 lo hi)
    ∙ ap word_bytes (bytes_back lo hi l h)
    ∙ ap₂ (λ (a b : ℕ). a ∷ b ∷ []) (omega arith) (omega arith)

pub length_constant : (c : ℤ) → length (signed_bytes c) ≡ 2
length_constant c = ap length (bytes_unsigned c)

-- kinds
pub kind_back : (b : ℕ) → b ≤ 1 → kind_byte (kind_of b) ≡ b
kind_back zero h = refl
kind_back (suc zero) h = refl
kind_back (suc (suc b)) h = absurd (omega arith)

pub back_kind : (k : Kind) → kind_of (kind_byte k) ≡ k
back_kind exact = refl
back_kind at_or_above = refl

pub kind_most : (k : Kind) → kind_byte k ≤ 1
kind_most exact = omega arith
kind_most at_or_above = omega arith
