-- One list added to the front of sixteen numbers, entry by entry.
use Rattle.std.proofs.Common.{◌≡◌, ℕ, ◌+◌, ◌-◌, ◌<◌, ◌≤◌, ◌∙◌, List, length, get_or, set, replicate, arith, sym, ap, get_or-set_same, get_or-set_other}
use Rattle.std.proofs.Math.ListN.{length-set, length-append, length-replicate, get_or-append, get_or-eq_default}
use Rattle.std.proofs.Math.Seq.{get_or-append_right}
use Rattle.std.proofs.lemmas.List.{ext_get_or, get_or-replicate}
use native.Mathlib.Decide.{dec_lt}
use Rattle.nets.specs.Nets.{◌⊞◌}
use Rattle.nets.specs.HalfSpaces.{sixteen}
use Rattle.nets.proofs.Vectors.{length_plus, get_or-plus}

-- the first p entries of ys were added to those of xs, whose others are as they were
pub record Added (ys xs zs : List ℕ) (p : ℕ) : Type 0 where
  pub long : length zs ≡ length xs
  pub done : (i : ℕ) → i < p → get_or zs i 0 ≡ get_or ys i 0 + get_or xs i 0
  pub left : (i : ℕ) → p ≤ i → get_or zs i 0 ≡ get_or xs i 0

pub added_more : (ys xs zs : List ℕ) (p : ℕ) → p < length xs → Added ys xs zs p → Added ys xs (set zs p (get_or zs p 0 + get_or ys p 0)) (p + 1)
added_more ys xs zs p l a =
    record {
      long = length-set zs p _ ∙ a.long;
      done = λ i b. go i (dec_lt i p) b;
      left = λ i b. get_or-set_other zs p i _ 0 (λ e. omega arith) ∙ a.left i (omega arith);
    }
  where
    go : (i : ℕ) → Dec (i < p) → i < p + 1 → get_or (set zs p (get_or zs p 0 + get_or ys p 0)) i 0 ≡ get_or ys i 0 + get_or xs i 0
    go i (yes b) h = get_or-set_other zs p i _ 0 (λ e. omega arith) ∙ a.done i b
    go i (no b) h =
        let e : i ≡ p = omega arith in
        rw e (get_or-set_same zs p _ 0 (omega (arith, a.long)) ∙ omega (arith, a.left p (omega arith)))

-- behind the list there are zeros
padded : (ys : List ℕ) (i : ℕ) → i < 16 → get_or (sixteen 0 ys) i 0 ≡ get_or ys i 0
padded ys i l = go (dec_lt i (length ys))
  where
    go : Dec (i < length ys) → get_or (sixteen 0 ys) i 0 ≡ get_or ys i 0
    go (yes b) = get_or-append ys (replicate (16 - length ys) 0) 0 i b
    go (no b) =
        get_or-append_right ys (replicate (16 - length ys) 0) i 0 (omega arith)
        ∙ get_or-replicate (16 - length ys) (i - length ys) 0 0 (omega arith)
        ∙ sym (get_or-eq_default ys 0 {n = i} (omega arith))

pub added_all : (ys xs zs : List ℕ) (p : ℕ) → length ys ≤ 16 → length xs ≡ 16 → p ≡ length ys → Added ys xs zs p → zs ≡ sixteen 0 ys ⊞ xs
added_all ys xs zs p few long e a =
    let same : length (sixteen 0 ys) ≡ length xs = omega (arith, length-append ys (replicate (16 - length ys) 0), length-replicate {A = ℕ} (16 - length ys) 0) in
    ext_get_or 0 zs (sixteen 0 ys ⊞ xs) (a.long ∙ sym same ∙ sym (length_plus (sixteen 0 ys) xs same))
    (λ i b. each i (omega (arith, a.long)) (dec_lt i p) ∙ ap (λ (n : ℕ). n + get_or xs i 0) (sym (padded ys i (omega (arith, a.long)))) ∙ sym (get_or-plus (sixteen 0 ys) xs i same))
  where
    each : (i : ℕ) → i < 16 → Dec (i < p) → get_or zs i 0 ≡ get_or ys i 0 + get_or xs i 0
    each i l (yes b) = a.done i b
    each i l (no b) = omega (arith, a.left i (omega arith), get_or-eq_default ys 0 {n = i} (omega arith))
