-- The tokens' text grows at its end, and no piece is long.
use mathlib.Core.Path.{◌≡◌, sym, ap, ◌∙◌, subst}
use mathlib.Core.List.{List, [], ◌∷◌, ◌++◌, append_assoc, append-nil}
use Prim.Native.Nat.{ℕ, suc, ◌+◌, ◌≤◌, ◌<◌}
use native.Mathlib.Omega.{arith}
use lib.ListN.{length, get_or, take}
use lib.Seq.{take-suc}
use lib.Chars.{codes}
use Rattle.text.specs.Bytes.{decimal}
use Rattle.text.specs.declared.Writer.{Writer}
use Rattle.text.specs.Writing.{Puts}
use Rattle.text.proofs.Writing.{puts_then}
use Rattle.text.proofs.Decimal.{decimal_short}
use Rattle.phrases.specs.Phrases.{tokens_text}

pub tokens_more : (xs : List ℕ) (m : ℕ) → tokens_text (xs ++ (m ∷ [])) ≡ tokens_text xs ++ (codes " " ++ decimal m)
unfolding tokens_text
tokens_more [] m = append-nil (codes " " ++ decimal m)
tokens_more (x ∷ xs) m = ap (λ (t : List ℕ). (codes " " ++ decimal x) ++ t) (tokens_more xs m) ∙ sym (append_assoc (codes " " ++ decimal x) (tokens_text xs) (codes " " ++ decimal m))

pub tokens_next : (ms : List ℕ) (p : ℕ) → p < length ms → tokens_text (take (p + 1) ms) ≡ tokens_text (take p ms) ++ (codes " " ++ decimal (get_or ms p 0))
tokens_next ms p l =
    let k : p + 1 ≡ suc p = omega arith in
    ap (λ (j : ℕ). tokens_text (take j ms)) k ∙ ap tokens_text (take-suc ms p 0 l) ∙ tokens_more (take p ms) (get_or ms p 0)

pub tokens_put : (ms : List ℕ) (p m : ℕ) (u v w : Writer) → p < length ms → m ≡ get_or ms p 0 → Puts (tokens_text (take p ms)) u v → Puts (codes " " ++ decimal m) v w → Puts (tokens_text (take (p + 1) ms)) u w
tokens_put ms p m u v w l e before one = subst (λ (bs : List ℕ). Puts bs u w) (ap (λ (n : ℕ). tokens_text (take p ms) ++ (codes " " ++ decimal n)) e ∙ sym (tokens_next ms p l)) (puts_then (tokens_text (take p ms)) (codes " " ++ decimal m) u v w before one)

pub one_short : (m : ℕ) → m < 65536 → length (decimal m) ≤ 5
one_short m l = decimal_short 5 m (omega arith) (omega arith)

pub two_digits : (n : ℕ) → n < 100 → length (decimal n) ≤ 2
two_digits n l = decimal_short 2 n (omega arith) (omega arith)
