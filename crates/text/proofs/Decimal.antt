-- Plain decimal: a number below ten is its digit, and any other is its tenth part followed by its last digit. It is what std prints of a number.
use mathlib.Core.Path.{◌≡◌, refl, sym, ap, ◌∙◌}
use mathlib.Core.Bool.{Bool, true, false}
use mathlib.Core.List.{List, [], ◌∷◌, ◌++◌}
use Prim.Native.Nat.pow
use Prim.Native.Nat.{ℕ, zero, suc, ◌+◌, ◌*◌, ◌/◌, ◌%◌, ◌^◌, ◌≤◌, ◌<◌}
use native.Mathlib.Omega.{arith}
use lib.Dec.{ltb}
use lib.ListN.{length, length-append}
use borrow.Author.Tests.{lt-ltb, le-ltb, ltb-true, ltb-false}
use Rattle.std.specs.Fmt as std
use Rattle.std.proofs.lemmas.Fmt.{AppendsLastDigit, decimal_from_appends, length-decimal-le_succ}
use Rattle.text.specs.Bytes.{digit, spelled, decimal}

small : (f n : ℕ) → n < 10 → spelled (suc f) n ≡ digit n ∷ []
unfolding spelled
small f n l = rw (lt-ltb n 10 l) refl

large : (f n : ℕ) → 10 ≤ n → spelled (suc f) n ≡ spelled f (n / 10) ++ (digit (n % 10) ∷ [])
unfolding spelled
large f n l = rw (le-ltb n 10 l) refl

-- how many digits are allowed for does not matter
same : (f g n : ℕ) → n < f → n < g → spelled f n ≡ spelled g n
same zero g n a b = absurd (omega arith)
same (suc f) zero n a b = absurd (omega arith)
same (suc f) (suc g) n a b = by (ltb n 10) refl (λ l. same f g (n / 10) (omega arith) (omega arith))
  where
    by : (t : Bool) → ltb n 10 ≡ t → (10 ≤ n → spelled f (n / 10) ≡ spelled g (n / 10)) → spelled (suc f) n ≡ spelled (suc g) n
    by true e r = small f n (ltb-true n 10 e) ∙ sym (small g n (ltb-true n 10 e))
    by false e r =
        let l = ltb-false n 10 e in
        large f n l ∙ ap (λ (ds : List ℕ). ds ++ (digit (n % 10) ∷ [])) (r l) ∙ sym (large g n l)

pub decimal_small : (n : ℕ) → n < 10 → decimal n ≡ digit n ∷ []
unfolding decimal
decimal_small n l = small n n l

pub decimal_large : (n : ℕ) → 10 ≤ n → decimal n ≡ decimal (n / 10) ++ (digit (n % 10) ∷ [])
unfolding decimal
decimal_large n l = large n n l ∙ ap (λ (ds : List ℕ). ds ++ (digit (n % 10) ∷ [])) (same n (suc (n / 10)) (n / 10) (omega arith) (omega arith))

-- a number below 10 to the power of k has at most k digits
longer : (k n : ℕ) → (10 ≤ n → length (decimal (n / 10)) ≤ k) → length (decimal n) ≤ suc k
longer k n r = by (ltb n 10) refl
  where
    by : (t : Bool) → ltb n 10 ≡ t → length (decimal n) ≤ suc k
    by true e = rw (decimal_small n (ltb-true n 10 e)) (omega arith)
    by false e =
        let m = ltb-false n 10 e in
        rw (decimal_large n m) (omega (arith, length-append (decimal (n / 10)) (digit (n % 10) ∷ []), r m))

pub decimal_short : (k n : ℕ) → 0 < k → n < 10 ^ k → length (decimal n) ≤ k
decimal_short zero n some l = absurd (omega arith)
decimal_short (suc zero) n some l = longer zero n (λ m. absurd (omega (arith, tenth n l)))
  where
    tenth : (n : ℕ) → n < 10 ^ 1 → n < 10
    tenth n l = l
decimal_short (suc (suc k)) n some l = longer (suc k) n (λ m. decimal_short (suc k) (n / 10) (omega arith) (omega (arith, power k n l)))
  where
    power : (k n : ℕ) → n < 10 ^ suc (suc k) → n < 10 * 10 ^ suc k
    power k n l = omega (arith, pow.suc 10 (suc k))

pub decimal_one_more : (n : ℕ) → 10 ≤ n → length (decimal n) ≡ length (decimal (n / 10)) + 1
decimal_one_more n l = ap length (decimal_large n l) ∙ length-append (decimal (n / 10)) (digit (n % 10) ∷ [])

appends : AppendsLastDigit spelled
appends = record { one = small; more = large }

pub decimal_printed : (n : ℕ) → n < 2 ^ 64 → decimal n ≡ std.decimal n
unfolding decimal
decimal_printed n l = decimal_from_appends spelled appends (suc n) n l (omega (arith, length-decimal-le_succ n l))
