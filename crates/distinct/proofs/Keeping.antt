-- How the row that is searched grows: a coefficient that is 0 or in it already leaves it as it is, and any other is put behind it.
use mathlib.Core.Path.{◌≡◌, sym, ap, ◌∙◌}
use mathlib.Core.Logic.{◌⊎◌, inl, inr}
use mathlib.Core.List.{List}
use Prim.Native.Nat.{ℕ, ◌+◌, ◌≤◌, ◌<◌}
use native.Mathlib.Omega.{arith}
use lib.IntN.{ℤ, pos}
use lib.ListN.{length, get_or, set, take}
use lib.Seq.{get_or-set_same, get_or-set_other, get_or-take, length-take-le}
use borrow.Author.Count.{below_more}
use Rattle.distinct.specs.Row.{Among, Kept}

pub among-take : (row : List ℤ) (n : ℕ) (c : ℤ) → n ≤ length row → Among (take n row) (length (take n row)) c → Among row n c
among-take row n c h a =
    let l : a.at < n = omega (arith, a.below, length-take-le n row h) in
    record { at = a.at; below = l; is = sym (get_or-take n row a.at (pos 0) l) ∙ a.is }

module _ (ks row : List ℤ) (ps : List ℕ) (n p : ℕ) (K : Kept ks row ps n p) where
  abbrev k : ℤ
  k = get_or ks p (pos 0)

  pub left_out : (k ≡ pos 0) ⊎ Among row n k → Kept ks row ps n (p + 1)
  left_out s =
      record {
        few = omega (arith, K.few);
        inside = λ i l. omega (arith, K.inside i l);
        same = K.same;
        covers = below_more _ _ K.covers s;
      }

  module _ (c : ℤ) (e : c ≡ k) (r : n < length row) (l : n < length ps) where
    row' : List ℤ
    row' = set row n c

    ps' : List ℕ
    ps' = set ps n p

    old_c : (i : ℕ) → i < n → get_or row' i (pos 0) ≡ get_or row i (pos 0)
    unfolding row'
    old_c i h = get_or-set_other row n i c (pos 0) (λ s. omega arith)

    new_c : get_or row' n (pos 0) ≡ k
    unfolding row'
    new_c = get_or-set_same row n c (pos 0) r ∙ e

    old_p : (i : ℕ) → i < n → get_or ps' i 0 ≡ get_or ps i 0
    unfolding ps'
    old_p i h = get_or-set_other ps n i p 0 (λ s. omega arith)

    new_p : get_or ps' n 0 ≡ p
    unfolding ps'
    new_p = get_or-set_same ps n p 0 l

    still : (z : ℤ) → (z ≡ pos 0) ⊎ Among row n z → (z ≡ pos 0) ⊎ Among row' (n + 1) z
    still z (inl o) = inl o
    still z (inr a) = inr (record { at = a.at; below = omega (arith, a.below); is = old_c a.at a.below ∙ a.is })

    pub put : Kept ks (set row n c) (set ps n p) (n + 1) (p + 1)
    unfolding row' ps'
    put =
        record {
          few = omega (arith, K.few);
          inside = below_more _ _ (λ i h. omega (arith, old_p i h, K.inside i h)) (omega (arith, new_p));
          same = below_more _ _ (λ i h. old_c i h ∙ K.same i h ∙ ap (λ (q : ℕ). get_or ks q (pos 0)) (sym (old_p i h))) (new_c ∙ ap (λ (q : ℕ). get_or ks q (pos 0)) (sym new_p));
          covers = below_more _ _ (λ q h. still (get_or ks q (pos 0)) (K.covers q h)) (inr (record { at = n; below = omega arith; is = new_c }));
        }
