-- Text as bytes: numbers in plain decimal, and what writing into an area does.
use Rattle.std.specs.Prelude.{◌≡◌, cond, List, [], ◌∷◌, ◌++◌, ℕ, zero, suc, ◌+◌, ◌/◌, ◌%◌, ltb, length, take, drop}

-- each line ends with one newline byte
abbrev pub newline : List ℕ
newline = 10 ∷ []

abbrev pub digit : ℕ → ℕ
digit d = 48 + d

-- a number in plain decimal: its last digit stands behind those of the tenth part (a number has fewer digits than its successor says);
-- not std's `decimal`, which is the same below 2 ^ 64 (`decimal_printed`), but keeps at most 64 digits of any number
unfoldable pub spelled : ℕ → ℕ → List ℕ
spelled zero n = []
spelled (suc more) n = cond (ltb n 10) (digit n ∷ []) (spelled more (n / 10) ++ (digit (n % 10) ∷ []))

unfoldable pub decimal : ℕ → List ℕ
decimal n = spelled (suc n) n

-- the bytes bs were written into an area from `at` on, up to `end`: what stood before them and behind them still does
pub record Wrote (bs old : List ℕ) (at : ℕ) (new : List ℕ) (end : ℕ) : Type 0 where
  pub ends : end ≡ at + length bs
  pub is : take end new ≡ take at old ++ bs
  pub behind : drop end new ≡ drop end old
