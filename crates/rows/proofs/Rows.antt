-- Sixteen numbers of which the first were written, and the numbers of two bytes one by one.
use Rattle.std.proofs.Common.{◌≡◌, refl, sym, ap, ◌∙◌, List, [], ◌∷◌, ◌++◌, ℕ, zero, suc, ◌+◌, ◌-◌, ◌*◌, ◌≤◌, length, take, drop, replicate, arith, ◌<◌, map}
use native.Mathlib.Numerals.{add-one}
use lib.ListN.{set, length-map}
use lib.Seq.{take-suc-set}
use Rattle.std.proofs.lemmas.List.{drop-replicate}
use Rattle.signed.specs.Twos.{twos8}
use Rattle.nets.specs.HalfSpaces.{sixteen}
use Rattle.format.specs.Reading.{word, words, bytes}
use Rattle.format.proofs.Standing.{length-bytes}

-- zeros stand behind what was written
pub written : {A : Type 0} (z : A) (xs ys : List A) (n : ℕ) → n ≤ 16 → length ys ≡ n → xs ≡ ys → xs ++ drop n (replicate 16 z) ≡ sixteen z ys
written {A = A} z xs ys n most long is =
    ap (λ (x : List A). x ++ drop n (replicate 16 z)) is ∙ ap (λ (x : List A). ys ++ x) (drop-replicate n 16 z ∙ ap (λ (k : ℕ). replicate (16 - k) z) (sym long))

pub words_none : (s : List ℕ) (at : ℕ) → [] ≡ words s at 0
unfolding words
words_none s at = refl

-- the next one
next : (s : List ℕ) (at p : ℕ) → words s at (suc p) ≡ words s at p ++ (word s (at + 2 * p) ∷ [])
unfolding words
next s at zero = ap (λ (i : ℕ). word s i ∷ []) (omega arith)
next s at (suc p) = ap (λ (ws : List ℕ). word s at ∷ ws) (next s (at + 2) p ∙ ap (λ (i : ℕ). words s (at + 2) p ++ (word s i ∷ [])) (omega arith))

pub row_next : (row : List ℕ) (s : List ℕ) (at p x : ℕ) → p < length row → x ≡ word s (at + 2 * p) → take p row ≡ words s at p → take (p + 1) (set row p x) ≡ words s at (p + 1)
row_next row s at p x l e i = rw (add-one p, take-suc-set row p x l, i, e) (sym (next s at p))

pub length-words : (s : List ℕ) (at n : ℕ) → length (words s at n) ≡ n
unfolding words
length-words s at zero = refl
length-words s at (suc n) = ap suc (length-words s (at + 2) n)

pub length_signed : (s : List ℕ) (at n : ℕ) → length (map twos8 (bytes s at n)) ≡ n
length_signed s at n = length-map (bytes s at n) twos8 ∙ length-bytes s at n
