-- Marks, lengths and fields: each is read soundly exactly where its bytes stand, since both sides make the same tests.
use Rattle.refusals.specs.declared.Refusal.TheVariants as refused
use Rattle.std.specs.Prelude.{Ok}
use mathlib.Core.Path.{◌≡◌, refl, sym, ap, ap₂, ◌∙◌, subst}
use mathlib.Core.Logic.{◌↔◌}
use mathlib.Core.Bool.{Bool, true}
use mathlib.Core.List.{List, [], ◌∷◌, map}
use Prim.Native.Nat.{ℕ, zero, suc, ◌+◌, ◌*◌, ◌/◌, ◌%◌, ◌≤◌, ◌<◌}
use native.Mathlib.Omega.{arith}
use lib.IntN.{ℤ}
use lib.ListN.{length, length-map}
use Rattle.signed.specs.Twos.{twos8, twos16}
use Rattle.terms.specs.Limits.{coefficient_fits, constant_fits}
use Rattle.refusals.specs.declared.Refusal.{Refusal}
use Rattle.format.specs.Reading.{byte, word, signed_word, bytes, words, marked_at, whole_at, opened_at, each_fits}
use Rattle.format.specs.Formed.{All, IsSheet, Row, IsTokens, IsCoefficient}
use Rattle.format.specs.Encoding.{joined, word_bytes, signed_byte, signed_bytes}
use Rattle.format.proofs.Everywhere.{all_map, all_get_or, map_back, length-joined}
use Rattle.format.proofs.Standing.{Stands, stands-append, stands_left, stands_right, stands_fits, length-bytes, stands-bytes, bytes_stand}
use Rattle.format.proofs.Parts.{parts, tests}
use Rattle.format.proofs.Numbers.{byte_back, coefficient_back, unsigned, bytes_unsigned, constant_bytes, constant_back}

pub length-words : (n : ℕ) (m : List ℕ) → Row n IsTokens m → length (joined word_bytes m) ≡ 2 * n
length-words n m r =
    omega (arith, length-joined IsTokens word_bytes 2 (λ w _. refl) m r.each, r.places)

module _ (s : List ℕ) where
  -- two bytes, as a mark, and what is behind them
  pub two_before : (at a b : ℕ) (bs : List ℕ) → Stands s at (a ∷ b ∷ []) → Stands s (at + 2) bs → Stands s at (a ∷ b ∷ bs)
  two_before at a b bs h k = stands-append s at (at + 2) (a ∷ b ∷ []) bs refl h k

  pub behind_two : (at a b : ℕ) (bs : List ℕ) → Stands s at (a ∷ b ∷ bs) → Stands s (at + 2) bs
  behind_two at a b bs h = stands_right s at (at + 2) (a ∷ b ∷ []) bs refl h

  -- marks and lengths
  pub marked_exactly : (at a b : ℕ) → (marked_at s at a b ≡ Ok tt) ↔ Stands s at (a ∷ b ∷ [])
  unfolding marked_at
  marked_exactly at a b = (
    λ e. let w = simp (parts, tests) at e in (omega arith, w.1.0, (omega arith, w.1.1, tt)),
    λ h. simp (parts, tests) (omega arith, (h.1, h.2.1)),
  )

  pub whole_exactly : (at size : ℕ) → (whole_at s at size ≡ Ok tt) ↔ (at + size ≤ length s)
  unfolding whole_at
  whole_exactly at size = (λ e. simp (parts, tests) at e, λ h. simp (parts, tests) h)

  pub opened_exactly : (at a b size : ℕ) → (opened_at s at a b size ≡ Ok tt) ↔ (Stands s at (a ∷ b ∷ []) × (at + size ≤ length s))
  unfolding opened_at
  opened_exactly at a b size =
      (λ e. simp (parts, marked_exactly, whole_exactly) at e, λ h. simp (parts, marked_exactly, whole_exactly) h)

  pub opened : (at a b size : ℕ) (bs : List ℕ) → length (a ∷ b ∷ bs) ≡ size → Stands s at (a ∷ b ∷ bs) → Stands s at (a ∷ b ∷ []) × (at + size ≤ length s)
  opened at a b size bs e h = (stands_left s at (a ∷ b ∷ []) bs h, omega (arith, stands_fits s at a (b ∷ bs) h))

  -- fields of one byte
  pub fits_exactly : (fits : ℕ → Bool) (refusal : ℕ → Refusal) (at n : ℕ) (b : List ℕ) → length b ≡ n → Stands s at b → (each_fits fits refusal s at n ≡ Ok tt) ↔ All (λ x. fits x ≡ true) b
  unfolding each_fits All
  fits_exactly fits refusal at zero [] e h = (λ _. tt, λ _. refl)
  fits_exactly fits refusal at zero (x ∷ b) e h = absurd (omega arith)
  fits_exactly fits refusal at (suc n) [] e h = absurd (omega arith)
  fits_exactly fits refusal at (suc n) (x ∷ b) e h =
      let rest = fits_exactly fits refusal (at + 1) n b (omega arith) h.2 in (
        λ r. let w = simp parts at r in (ap fits (sym h.1) ∙ w.0, rest.0 w.1),
        λ a. simp parts (ap fits h.1 ∙ a.0, rest.1 a.1),
      )

  -- from what stands there, the numbers back
  pub stand_words : (at n : ℕ) (m : List ℕ) → length m ≡ n → Stands s at (joined word_bytes m) → words s at n ≡ m
  unfolding words joined
  stand_words at zero [] e h = refl
  stand_words at zero (w ∷ m) e h = absurd (omega arith)
  stand_words at (suc n) [] e h = absurd (omega arith)
  stand_words at (suc n) (w ∷ m) e h =
      let rest : words s (at + 2) n ≡ m = stand_words (at + 2) n m (omega arith) (behind_two at (w % 256) (w / 256) (joined word_bytes m) h) in
      ap₂ (λ (x : ℕ) (xs : List ℕ). x ∷ xs) (omega (arith, h.1, h.2.1)) rest

  pub stand_coefficients : (at n : ℕ) (k : List ℤ) → Row n IsCoefficient k → Stands s at (map signed_byte k) → (each_fits (λ b. coefficient_fits (twos8 b)) refused.Coefficient s at n ≡ Ok tt) × (map twos8 (bytes s at n) ≡ k)
  stand_coefficients at n k r h =
      let bs : List ℕ = map signed_byte k in
      let many : length bs ≡ n = length-map k signed_byte ∙ r.places in
      let each : All (λ b. coefficient_fits (twos8 b) ≡ true) bs =
      all_map IsCoefficient (λ b. coefficient_fits (twos8 b) ≡ true) signed_byte (λ z e. ap coefficient_fits (coefficient_back z e) ∙ e) k r.each in (
        (fits_exactly (λ b. coefficient_fits (twos8 b)) refused.Coefficient at n bs many h).1 each,
        ap (map twos8) (bytes_stand s at n bs many h) ∙ map_back IsCoefficient signed_byte twos8 coefficient_back k r.each,
      )

  pub stand_constant : (at : ℕ) (c : ℤ) → constant_fits c ≡ true → Stands s at (signed_bytes c) → signed_word s at ≡ c
  stand_constant at c f h =
      let w : Stands s at (word_bytes (unsigned c)) = subst (Stands s at) (bytes_unsigned c) h in
      ap₂ twos16 w.1 w.2.1 ∙ constant_back c f

-- and the numbers stand there
module _ (s : List ℕ) (small : IsSheet s) where
  byte_small : (at : ℕ) → byte s at < 256
  byte_small at = all_get_or (λ b. b < 256) 0 (omega arith) s at small

  bytes_small : (at n : ℕ) → IsSheet (bytes s at n)
  unfolding bytes All
  bytes_small at zero = tt
  bytes_small at (suc n) = (byte_small at, bytes_small (at + 1) n)

  pub words_stand : (at n : ℕ) → at + 2 * n ≤ length s → Row n IsTokens (words s at n) × Stands s at (joined word_bytes (words s at n))
  unfolding words All joined
  words_stand at zero h = (record { places = refl; each = tt }, tt)
  words_stand at (suc n) h =
      let w = words_stand (at + 2) n (omega arith) in
      let lo = byte_small at in
      let hi = byte_small (at + 1) in (
        record { places = ap suc w.0.places; each = (omega arith, w.0.each) },
        two_before s at (word s at % 256) (word s at / 256) (joined word_bytes (words s (at + 2) n)) (omega arith) w.1,
      )

  pub coefficients_stand : (at n : ℕ) → at + n ≤ length s → each_fits (λ b. coefficient_fits (twos8 b)) refused.Coefficient s at n ≡ Ok tt → Row n IsCoefficient (map twos8 (bytes s at n)) × Stands s at (map signed_byte (map twos8 (bytes s at n)))
  coefficients_stand at n h f =
      let bs : List ℕ = bytes s at n in
      let many : length bs ≡ n = length-bytes s at n in
      let there : Stands s at bs = stands-bytes s at n h in
      let each = (fits_exactly s (λ b. coefficient_fits (twos8 b)) refused.Coefficient at n bs many there).0 f in (
        record {
          places = length-map bs twos8 ∙ many;
          each = all_map (λ b. coefficient_fits (twos8 b) ≡ true) IsCoefficient twos8 (λ b e. e) bs each;
        },
        subst (Stands s at) (sym (map_back (λ b. b < 256) twos8 signed_byte byte_back bs (bytes_small at n))) there,
      )

  pub constant_stands : (at : ℕ) → at + 2 ≤ length s → Stands s at (signed_bytes (signed_word s at))
  constant_stands at h =
      subst (Stands s at) (sym (constant_bytes (byte s at) (byte s (at + 1)) (byte_small at) (byte_small (at + 1))))
      (omega arith, refl, (omega arith, refl, tt))
