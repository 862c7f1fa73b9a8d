-- Division of a signed number by a natural one, which rounds toward zero: each part is divided. Where it leaves no rest the quotient is the other factor.
use Rattle.std.specs.Prelude.{◌≡◌, refl, ℕ, zero, suc, ◌/◌, ◌<◌, ℤ, pos, negsuc, ◌*ℤ◌}
use Rattle.std.proofs.Common.{sym, ap, ◌∙◌, div-le_self, mul-div_cancel, arith, SFits}
use Rattle.std.proofs.Math.Nat.{zero-div}
use Rattle.std.specs.Int.Signed.{quot_z}
use Rattle.std.specs.Int.{Width}
use Rattle.signed.specs.Parts.{positive_part, negative_part, positive_part-neg, negative_part-neg, positive_part-mul, negative_part-mul, eq_out, sfits, sfits_hi, sfits_lo, apart}

positive_part-quot : (z : ℤ) (n : ℕ) → positive_part (quot_z z (pos n)) ≡ positive_part z / n
positive_part-quot (pos a) n = refl
positive_part-quot (negsuc a) n = positive_part-neg (pos (suc a / n)) ∙ sym (zero-div n)

negative_part-quot : (z : ℤ) (n : ℕ) → negative_part (quot_z z (pos n)) ≡ negative_part z / n
negative_part-quot (pos a) n = sym (zero-div n)
negative_part-quot (negsuc a) n = negative_part-neg (pos (suc a / n))

pub quot_fits : (w : Width) (a : ℤ) (n : ℕ) → SFits w a → SFits w (quot_z a (pos n))
quot_fits w a n f = sfits (omega (arith, positive_part-quot a n, negative_part-quot a n, div-le_self (positive_part a) n, div-le_self (negative_part a) n, apart a, sfits_hi f, sfits_lo f))

pub quot_exact : (a q : ℤ) (n : ℕ) → zero < n → a ≡ q *ℤ pos n → quot_z a (pos n) ≡ q
quot_exact a q n h e =
    ap (λ (x : ℤ). quot_z x (pos n)) e
    ∙ eq_out (omega (arith, positive_part-quot (q *ℤ pos n) n, negative_part-quot (q *ℤ pos n) n, ap (λ (x : ℕ). x / n) (positive_part-mul q n), ap (λ (x : ℕ). x / n) (negative_part-mul q n), mul-div_cancel (positive_part q) h, mul-div_cancel (negative_part q) h))
