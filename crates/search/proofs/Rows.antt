-- Sixteen numbers whose first n were found, and zeros behind them.
use mathlib.Core.Path.{◌≡◌, refl, ap, ◌∙◌}
use mathlib.Core.List.{List, [], ◌∷◌, ◌++◌}
use Prim.Native.Nat.{ℕ, zero, suc, ◌+◌, ◌-◌, ◌≤◌}
use native.Mathlib.Omega.{arith}
use lib.IntN.{ℤ}
use lib.ListN.{length, take, drop, replicate}
use lib.Seq.{take_at, length-take-le, take-append-le}
use Rattle.nets.specs.HalfSpaces.{sixteen}
use Rattle.sums.specs.Sum.{total}
use Rattle.sums.proofs.Sums.{part}
use Rattle.search.specs.Searched.{Best}
use Rattle.search.specs.Table.{Least, Looked}
use Rattle.std.proofs.Common.{Some}

abbrev zs : ℕ → List ℕ
zs n = replicate n 0

pub zeros_take : (n m : ℕ) → n ≤ m → take n (zs m) ≡ zs n
zeros_take zero m l = refl
zeros_take (suc n) zero l = absurd (omega arith)
zeros_take (suc n) (suc m) l = ap (λ (r : List ℕ). 0 ∷ r) (zeros_take n m (omega arith))

pub zeros_drop : (n m : ℕ) → n ≤ m → drop n (zs m) ≡ zs (m - n)
zeros_drop zero m l = let e : m ≡ m - 0 = omega arith in ap zs e
zeros_drop (suc n) zero l = absurd (omega arith)
zeros_drop (suc n) (suc m) l = let e : m - n ≡ suc m - suc n = omega arith in zeros_drop n m (omega arith) ∙ ap zs e

total_behind : (y : List ℕ) (m : ℕ) → total (y ++ zs m) ≡ total y
unfolding total
total_behind [] zero = refl
total_behind [] (suc m) = omega (arith, total_behind [] m)
total_behind (a ∷ y) m = ap (λ (t : ℕ). a + t) (total_behind y m)

-- the first m of what a call left of the first n of zs
pub front_of : {A : Type 0} (m n : ℕ) (xs zs : List A) → n ≤ length zs → length xs ≡ length (take n zs) → m ≤ n → (length xs ≡ n) × (take m (xs ++ drop n zs) ≡ take m xs)
front_of m n xs zs l e b =
    let long : length xs ≡ n = e ∙ length-take-le n zs l in
    (long, take-append-le m xs (drop n zs) (omega arith))

-- what was found for the front of the row
pub found_of : (m n : ℕ) (row zs : List ℤ) (lo hi : ℤ) (y : List ℕ) → n ≤ length zs → length row ≡ length (take n zs) → m ≤ n → Looked (take m (row ++ drop n zs)) lo hi (Some y) → Least (take m row) lo hi (take m y)
found_of m n row zs lo hi y l e b found =
    let f = front_of m n row zs l e b in
    rw (f.1, length-take-le m row (omega (arith, f.0))) at found

module _ (ks : List ℤ) (lo hi : ℤ) (n : ℕ) (l : n ≤ 16) (e : length ks ≡ n) (y : List ℕ) (f : length y ≡ n) where
  x : List ℕ
  x = y ++ zs (16 - n)

  front : take n x ≡ y
  unfolding x
  front = take_at y (zs (16 - n)) n f

  row : x ≡ sixteen 0 (take n x)
  unfolding x
  row = rw (front, f)

  pub answered : Least ks lo hi y → Best ks lo hi n (y ++ zs (16 - n))
  unfolding x
  answered h =
      record {
        row = row;
        hits = rw front h.hits;
        least = rw front h.least;
        bounded = λ p. omega (arith, part x p, total_behind y (16 - n), h.bound);
      }
