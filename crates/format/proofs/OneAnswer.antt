-- One meaning has one encoding, and one sheet one answer: an encoding is made of bytes and is read back, so equal encodings are read as the same contents.
use Rattle.std.specs.Prelude.{Err, Ok}
use mathlib.Core.Path.{◌≡◌, refl, sym, ◌∙◌, subst}
use mathlib.Core.Logic.{◌↔◌}
use mathlib.Core.List.{List, ◌++◌, map}
use Prim.Native.Nat.{ℕ, ◌<◌}
use native.Mathlib.Omega.{arith}
use lib.ListN.{length}
use borrow.Author.Tests.{leb-true}
use Rattle.refusals.specs.declared.Refusal.{Refusal}
use Rattle.nets.specs.Nets.{Transition}
use Rattle.nets.specs.Verdicts.{Setting}
use Rattle.format.specs.Read.{Read}
use Rattle.format.specs.Contents.{Claim, Contents}
use Rattle.format.specs.Reading.{reading}
use Rattle.format.specs.Formed.{All, IsSheet, Row, IsWeight, IsTokens, IsCoefficient, FormedTransition, FormedSetting, FormedClaim, Formed}
use Rattle.format.specs.Encoding.{joined, word_bytes, signed_byte, signed_bytes, transition_bytes, start_bytes, target_bytes, claim_bytes, setting_bytes, encoded}
use Rattle.format.specs.Answers.{Answers}
use Rattle.format.proofs.Everywhere.{all_append, all_if, all_map, all-joined}
use Rattle.format.proofs.Parts.{sound_same, never_both}
use Rattle.format.proofs.Sound.{places_fit_lem}
use Rattle.format.proofs.Numbers.{coefficient_small, unsigned, bytes_unsigned, constant_small, kind_most}
use Rattle.format.proofs.Accepted.{accepted_exactly}

abbrev pub IsByte : ℕ → Type 0
IsByte b = b < 256

word_bytes_lem : (w : ℕ) → IsTokens w → All IsByte (word_bytes w)
unfolding All
word_bytes_lem w h = (omega arith, (omega arith, tt))

words_bytes : (n : ℕ) (m : List ℕ) → Row n IsTokens m → All IsByte (joined word_bytes m)
words_bytes n m r = all-joined IsTokens IsByte word_bytes word_bytes_lem m r.each

weights_bytes : (n : ℕ) (ws : List ℕ) → Row n IsWeight ws → All IsByte ws
weights_bytes n ws r = all_if IsWeight IsByte (λ w e. omega (arith, leb-true w 9 e)) ws r.each

transition_bytes_lem : (n : ℕ) (t : Transition) → FormedTransition n t → All IsByte (transition_bytes t)
unfolding All
transition_bytes_lem n t f =
    (omega arith, (omega arith, all_append IsByte t.taken t.put (weights_bytes n t.taken f.taken) (weights_bytes n t.put f.put)))

claim_bytes_lem : (n : ℕ) (i : Claim) → FormedClaim n i → All IsByte (claim_bytes i)
unfolding All
claim_bytes_lem n i f =
    let ks : All IsByte (map signed_byte i.coefficients) = all_map IsCoefficient IsByte signed_byte coefficient_small i.coefficients f.coefficients.each in
    let c : All IsByte (signed_bytes i.constant) = rw (bytes_unsigned i.constant) (word_bytes_lem (unsigned i.constant) (constant_small i.constant f.constant)) in
    (omega arith, (omega arith, all_append IsByte (map signed_byte i.coefficients) (signed_bytes i.constant) ks c))

setting_bytes_lem : (q : Setting) → FormedSetting q → All IsByte (setting_bytes q)
unfolding All setting_bytes
setting_bytes_lem q f =
    let n : ℕ = q.net.places in
    let ts : List Transition = q.net.transitions in
    let a : All IsByte (joined transition_bytes ts) = all-joined (FormedTransition n) IsByte transition_bytes (transition_bytes_lem n) ts f.transitions in
    let b : All IsByte (start_bytes q.start) = (omega arith, (omega arith, words_bytes n q.start f.start)) in
    let c : All IsByte (target_bytes q.target) =
    (omega arith, (omega arith, (omega (arith, kind_most q.target.kind), words_bytes n q.target.tokens f.target))) in (
      omega arith,
      (
        omega arith,
        (
          omega (arith, places_fit_lem n f.places),
          (
            omega (arith, leb-true (length ts) 64 f.count),
            all_append IsByte (joined transition_bytes ts ++ start_bytes q.start) (target_bytes q.target) (all_append IsByte (joined transition_bytes ts) (start_bytes q.start) a b) c,
          ),
        ),
      ),
    )

pub encoded_bytes : {x : Contents} → Formed x → IsSheet (encoded x)
unfolding encoded
encoded_bytes {x} f =
    all_append IsByte (setting_bytes x.setting) (joined claim_bytes x.claims)
    (setting_bytes_lem x.setting f.setting)
    (all-joined (FormedClaim x.setting.net.places) IsByte claim_bytes (claim_bytes_lem x.setting.net.places) x.claims f.claims)

-- an encoding is read back
pub encoded_read : (s : List ℕ) (x : Contents) → Formed x → s ≡ encoded x → reading s ≡ Ok x
encoded_read s x f e =
    (accepted_exactly s x (subst IsSheet (sym e) (encoded_bytes f))).1 (f, e)

pub one_encoding : {x y : Contents} → Formed x → Formed y → encoded x ≡ encoded y → x ≡ y
one_encoding {x} {y} f g e =
    sound_same (sym (encoded_read (encoded x) x f refl) ∙ encoded_read (encoded x) y g e)

pub answer_read : (s : List ℕ) (a : Read Contents) → Answers s a → reading s ≡ a
unfolding Answers
answer_read s (Ok x) w = encoded_read s x w.0 w.1
answer_read s (Err r) w = w

pub one_answer : (s : List ℕ) (a b : Read Contents) → Answers s a → Answers s b → a ≡ b
one_answer s a b v w = sym (answer_read s a v) ∙ answer_read s b w

pub answers_exactly : (s : List ℕ) (a : Read Contents) → IsSheet s → Answers s a ↔ (reading s ≡ a)
unfolding Answers
answers_exactly s (Ok x) small = ((accepted_exactly s x small).1, (accepted_exactly s x small).0)
answers_exactly s (Err r) small = (λ e. e, λ e. e)

-- refused exactly if it encodes nothing
pub refused_exactly : (s : List ℕ) → IsSheet s → ((r : Refusal) × (reading s ≡ Err r)) ↔ ((x : Contents) → Formed x → s ≡ encoded x → ⊥)
refused_exactly s small =
    (λ w x f e. never_both w.0 x (sym w.1 ∙ encoded_read s x f e), λ none. go none (reading s) refl)
  where
    go : ((x : Contents) → Formed x → s ≡ encoded x → ⊥) → (a : Read Contents) → reading s ≡ a → (r : Refusal) × (reading s ≡ Err r)
    go none (Ok x) e = let w = (accepted_exactly s x small).0 e in absurd (none x w.0 w.1)
    go none (Err r) e = (r, e)
