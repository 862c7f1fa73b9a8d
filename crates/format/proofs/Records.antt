-- Each record is read exactly where its bytes stand, and what is read is formed: its mark, its length and its fields one after the other.
use Rattle.refusals.specs.declared.Refusal.TheVariants as refused
use Rattle.std.specs.Prelude.{Ok}
use mathlib.Core.Path.{◌≡◌, refl, sym, ap, ◌∙◌, subst}
use mathlib.Core.Logic.{◌↔◌}
use mathlib.Core.Bool.{true}
use mathlib.Core.List.{List, [], ◌∷◌, ◌++◌, map}
use Prim.Native.Nat.{ℕ, ◌+◌, ◌*◌, ◌≤◌}
use native.Mathlib.Omega.{arith}
use lib.ListN.{length, length-append, length-map}
use Rattle.signed.specs.Twos.{twos8}
use Rattle.terms.specs.Limits.{places_fit, transitions_fit, weight_fits, coefficient_fits, constant_fits}
use Rattle.nets.specs.Nets.{Marking, Transition}
use Rattle.nets.specs.Verdicts.{Target}
use Rattle.format.specs.Contents.{Claim, some_nonzero}
use Rattle.format.specs.Reading.{byte, signed_word, bytes, words, each_fits, head_size, transition_size, start_size, target_size, claim_size, Size, size_of, head_of, transition_in, transition_at, start_at, kind_of, target_at, claim_in, claim_at, claim_due}
use Rattle.format.specs.Formed.{All, IsSheet, Row, IsWeight, IsTokens, FormedTransition, FormedClaim}
use Rattle.format.specs.Encoding.{joined, word_bytes, signed_byte, signed_bytes, kind_byte, transition_bytes, start_bytes, target_bytes, claim_bytes}
use Rattle.format.proofs.Everywhere.{all_left, all_right, all_append}
use Rattle.format.proofs.Standing.{Stands, stands_there, stands-append, stands_left, stands_right, length-bytes, stands-bytes, bytes_stand}
use Rattle.format.proofs.Parts.{parts, tests, ltb_exactly, sound_same}
use Rattle.format.proofs.Numbers.{length_constant, kind_back, back_kind, kind_most}
use Rattle.format.proofs.Fields.{length-words, two_before, behind_two, marked_exactly, whole_exactly, opened_exactly, opened, fits_exactly, stand_words, stand_coefficients, stand_constant, words_stand, coefficients_stand, constant_stands}

-- NP
abbrev pub head_bytes : Size → List ℕ
head_bytes z = 0x4E ∷ 0x50 ∷ z.n ∷ z.T ∷ []

pub length-transition : (n : ℕ) (t : Transition) → FormedTransition n t → length (transition_bytes t) ≡ transition_size n
length-transition n t f = omega (arith, length-append t.taken t.put, f.taken.places, f.put.places)

pub length-claim : (n : ℕ) (i : Claim) → FormedClaim n i → length (claim_bytes i) ≡ claim_size n
length-claim n i f =
    omega (arith, length-append (map signed_byte i.coefficients) (signed_bytes i.constant), length-map i.coefficients signed_byte, length_constant i.constant, f.coefficients.places)

module _ (s : List ℕ) where
  pub head_exactly : (z : Size) → (head_of s ≡ Ok z) ↔ ((places_fit z.n ≡ true) × (transitions_fit z.T ≡ true) × Stands s 0 (head_bytes z))
  unfolding head_of
  head_exactly z = (
    λ e. let w = simp (parts, opened_exactly) at e in
        subst (λ (z : Size). (places_fit z.n ≡ true) × (transitions_fit z.T ≡ true) × Stands s 0 (head_bytes z)) (sound_same w.1.1.1)
        (w.1.0, w.1.1.0, two_before s 0 0x4E 0x50 (byte s 2 ∷ byte s 3 ∷ []) w.0.0 (omega arith, refl, (omega arith, refl, tt))),
    λ w. let (a, b, h) = w in
        let p : byte s 2 ≡ z.n = h.2.2.1 in
        let q : byte s 3 ≡ z.T = h.2.2.2.1 in
        simp (parts, opened_exactly) (
          opened s 0 0x4E 0x50 head_size (z.n ∷ z.T ∷ []) refl h,
          (ap places_fit p ∙ a, (ap transitions_fit q ∙ b, λ i. Ok (size_of (p i) (q i)))),
        ),
  )

  -- TR
  transition_in_lem : (n at : ℕ) → Stands s at (0x54 ∷ 0x52 ∷ []) → at + transition_size n ≤ length s → each_fits weight_fits refused.Weight s (at + 2) (2 * n) ≡ Ok tt → FormedTransition n (transition_in s n at) × Stands s at (transition_bytes (transition_in s n at))
  transition_in_lem n at mark h f =
      let taken : List ℕ = (transition_in s n at).taken in
      let put : List ℕ = (transition_in s n at).put in
      let many : length taken ≡ n = length-bytes s _ n in
      let same : length put ≡ n = length-bytes s _ n in
      let there : Stands s (at + 2) (taken ++ put) =
      stands-append s (at + 2) (at + 2 + n) taken put (omega arith) (stands-bytes s (at + 2) n (omega arith)) (stands-bytes s (at + 2 + n) n (omega arith)) in
      let each : All IsWeight (taken ++ put) = (fits_exactly s weight_fits refused.Weight (at + 2) (2 * n) (taken ++ put) (omega (arith, length-append taken put)) there).0 f in (
        record {
          taken = record { places = many; each = all_left IsWeight taken put each };
          put = record { places = same; each = all_right IsWeight taken put each };
        },
        two_before s at 0x54 0x52 (taken ++ put) mark there,
      )

  pub transition_exactly : (n at : ℕ) (t : Transition) → (transition_at s n at ≡ Ok t) ↔ (FormedTransition n t × Stands s at (transition_bytes t))
  unfolding transition_at
  transition_exactly n at t = (
    λ e. let w = simp (parts, opened_exactly) at e in
        subst (λ (t : Transition). FormedTransition n t × Stands s at (transition_bytes t)) (sound_same w.1.1)
        (transition_in_lem n at w.0.0 w.0.1 w.1.0),
    λ w. let taken : List ℕ = t.taken in
        let put : List ℕ = t.put in
        let many : length taken ≡ n = w.0.taken.places in
        let same : length put ≡ n = w.0.put.places in
        let all : length (taken ++ put) ≡ 2 * n = omega (arith, length-append taken put) in
        let there : Stands s (at + 2) (taken ++ put) = behind_two s at 0x54 0x52 (taken ++ put) w.1 in
        let p : bytes s (at + 2) n ≡ taken = bytes_stand s (at + 2) n taken many (stands_left s (at + 2) taken put there) in
        let q : bytes s (at + 2 + n) n ≡ put = bytes_stand s (at + 2 + n) n put same (stands_right s (at + 2) (at + 2 + n) taken put (omega arith) there) in
        simp (parts, opened_exactly) (
          opened s at 0x54 0x52 (transition_size n) (taken ++ put) (length-transition n t w.0) w.1,
          (
            (fits_exactly s weight_fits refused.Weight (at + 2) (2 * n) (taken ++ put) all there).1 (all_append IsWeight taken put w.0.taken.each w.0.put.each),
            λ i. Ok (record { taken = p i; put = q i }),
          ),
        ),
  )

module _ (s : List ℕ) (small : IsSheet s) where
  -- MK
  pub start_exactly : (n at : ℕ) (m : Marking) → (start_at s n at ≡ Ok m) ↔ (Row n IsTokens m × Stands s at (start_bytes m))
  unfolding start_at
  start_exactly n at m = (
    λ e. let w = simp (parts, opened_exactly) at e in
        let r = words_stand s small (at + 2) n (omega arith) in
        subst (λ (m : Marking). Row n IsTokens m × Stands s at (start_bytes m)) (sound_same w.1)
        (r.0, two_before s at 0x4D 0x4B (joined word_bytes (words s (at + 2) n)) w.0.0 r.1),
    λ w. let bs : List ℕ = joined word_bytes m in
        simp (parts, opened_exactly) (
          opened s at 0x4D 0x4B (start_size n) bs (omega (arith, length-words n m w.0)) w.1,
          ap Ok (stand_words s (at + 2) n m w.0.places (behind_two s at 0x4D 0x4B bs w.1)),
        ),
  )

  -- TG
  pub target_exactly : (n at : ℕ) (g : Target) → (target_at s n at ≡ Ok g) ↔ (Row n IsTokens g.tokens × Stands s at (target_bytes g))
  unfolding target_at
  target_exactly n at g = (
    λ e. let w = simp (parts, tests, opened_exactly) at e in
        let r = words_stand s small (at + 3) n (omega arith) in
        let ts : List ℕ = joined word_bytes (words s (at + 3) n) in
        let k : ℕ = byte s (at + 2) in
        subst (λ (g : Target). Row n IsTokens g.tokens × Stands s at (target_bytes g)) (sound_same w.1.1) (
          r.0,
          two_before s at 0x54 0x47 (kind_byte (kind_of k) ∷ ts) w.0.0
              (omega arith, sym (kind_back k w.1.0), stands_there s (at + 3) (at + 2 + 1) ts (omega arith) r.1),
        ),
    λ w. let ts : List ℕ = joined word_bytes g.tokens in
        let k : ℕ = kind_byte g.kind in
        let there : Stands s (at + 2) (k ∷ ts) = behind_two s at 0x54 0x47 (k ∷ ts) w.1 in
        let p : kind_of (byte s (at + 2)) ≡ g.kind = ap kind_of there.1 ∙ back_kind g.kind in
        let q : words s (at + 3) n ≡ g.tokens = stand_words s (at + 3) n g.tokens w.0.places (stands_there s (at + 2 + 1) (at + 3) ts (omega arith) there.2) in
        simp (parts, tests, opened_exactly) (
          opened s at 0x54 0x47 (target_size n) (k ∷ ts) (omega (arith, length-words n g.tokens w.0)) w.1,
          (omega (arith, kind_most g.kind, there.1), λ i. Ok (record { kind = p i; tokens = q i })),
        ),
  )

  -- HS
  claim_in_lem : (n at : ℕ) → Stands s at (0x48 ∷ 0x53 ∷ []) → at + claim_size n ≤ length s → each_fits (λ b. coefficient_fits (twos8 b)) refused.Coefficient s (at + 2) n ≡ Ok tt → constant_fits (signed_word s (at + 2 + n)) ≡ true → some_nonzero (claim_in s n at).coefficients ≡ true → FormedClaim n (claim_in s n at) × Stands s at (claim_bytes (claim_in s n at))
  claim_in_lem n at mark h f c z =
      let ks : List ℕ = map signed_byte (map twos8 (bytes s (at + 2) n)) in
      let cs : List ℕ = signed_bytes (signed_word s (at + 2 + n)) in
      let k = coefficients_stand s small (at + 2) n (omega arith) f in
      let many : length ks ≡ n = length-map (map twos8 (bytes s (at + 2) n)) signed_byte ∙ k.0.places in
      let there : Stands s (at + 2) (ks ++ cs) = stands-append s (at + 2) (at + 2 + n) ks cs (omega arith) k.1 (constant_stands s small (at + 2 + n) (omega arith)) in
      (record { coefficients = k.0; constant = c; nonzero = z }, two_before s at 0x48 0x53 (ks ++ cs) mark there)

  pub claim_exactly : (n at more : ℕ) (c : Claim) → (claim_due s n at more ≡ Ok c) ↔ ((1 ≤ more) × (FormedClaim n c × Stands s at (claim_bytes c)))
  unfolding claim_due claim_at
  claim_exactly n at more c = (
    λ e. let (mark, (some, (room, (each, (constant, (nonzero, all)))))) = simp (parts, marked_exactly, whole_exactly, ltb_exactly) at e in
        (some, subst (λ (c : Claim). FormedClaim n c × Stands s at (claim_bytes c)) (sound_same all) (claim_in_lem n at mark room each constant nonzero)),
    λ w. let (some, (f, h)) = w in
        let ks : List ℕ = map signed_byte c.coefficients in
        let cs : List ℕ = signed_bytes c.constant in
        let many : length ks ≡ n = length-map c.coefficients signed_byte ∙ f.coefficients.places in
        let (mark, room) = opened s at 0x48 0x53 (claim_size n) (ks ++ cs) (length-claim n c f) h in
        let there : Stands s (at + 2) (ks ++ cs) = behind_two s at 0x48 0x53 (ks ++ cs) h in
        let (each, p) = stand_coefficients s (at + 2) n c.coefficients f.coefficients (stands_left s (at + 2) ks cs there) in
        let q : signed_word s (at + 2 + n) ≡ c.constant = stand_constant s (at + 2 + n) c.constant f.constant (stands_right s (at + 2) (at + 2 + n) ks cs (omega arith) there) in
        simp (parts, marked_exactly, whole_exactly, ltb_exactly)
        (mark, (some, (room, (each, (ap constant_fits q ∙ f.constant, (ap some_nonzero p ∙ f.nonzero, λ i. Ok (record { coefficients = p i; constant = q i }))))))),
  )
