-- The walk back from an entry of the queue to the start.
use mathlib.Core.Path.{◌≡◌, refl, sym, ap, ◌∙◌}
use mathlib.Core.List.{List, [], ◌∷◌}
use Prim.Native.Nat.{ℕ, zero, suc, ◌+◌, ◌-◌, ◌≤◌, ◌<◌}
use native.Mathlib.Decide.{ℕ_discrete}
use native.Mathlib.Omega.{arith}
use lib.IntN.{ℤ, pos}
use lib.ListN.{length, get_or, replicate, get_or-map}
use Rattle.signed.specs.Parts.{positive_part, negative_part}
use Rattle.sums.specs.Sum.{total, dot, ups, downs}
use Rattle.sums.proofs.Sums.{part, dot_zeros, total_zeros}
use Rattle.spreading.specs.State.{State, Sizes, From, Entry}
use Rattle.spreading.proofs.Queue.{inside}
use Rattle.trails.proofs.Theory.{onemore, dot_more, total_more}

-- the first index at which w stands
choose : {A : Type 0} → Dec A → ℕ → ℕ
choose (yes a) n = 0
choose (no a) n = suc n

pub index : List ℕ → ℕ → ℕ
index [] w = 0
index (x ∷ q) w = choose (ℕ_discrete x w) (index q w)

index-le : (q : List ℕ) (j w : ℕ) → j < length q → get_or q j 0 ≡ w → index q w ≤ j
unfolding index choose
index-le [] j w l e = absurd (omega arith)
index-le (x ∷ q) zero w l e = go (ℕ_discrete x w)
  where
    go : (d : Dec (x ≡ w)) → choose d (index q w) ≤ 0
    go (yes a) = omega arith
    go (no a) = absurd (a e)
index-le (x ∷ q) (suc j) w l e = go (ℕ_discrete x w) (index-le q j w (omega arith) e)
  where
    go : (d : Dec (x ≡ w)) → index q w ≤ j → choose d (index q w) ≤ suc j
    go (yes a) h = omega arith
    go (no a) h = omega arith

index_is : (q : List ℕ) (j w : ℕ) → j < length q → get_or q j 0 ≡ w → get_or q (index q w) 0 ≡ w
unfolding index choose
index_is [] j w l e = absurd (omega arith)
index_is (x ∷ q) zero w l e = go (ℕ_discrete x w)
  where
    go : (d : Dec (x ≡ w)) → get_or (x ∷ q) (choose d (index q w)) 0 ≡ w
    go (yes a) = a
    go (no a) = absurd (a e)
index_is (x ∷ q) (suc j) w l e = go (ℕ_discrete x w) (index_is q j w (omega arith) e)
  where
    go : (d : Dec (x ≡ w)) → get_or q (index q w) 0 ≡ w → get_or (x ∷ q) (choose d (index q w)) 0 ≡ w
    go (yes a) h = a
    go (no a) h = h

-- from w the counts x lead to entry h
pub record Back (ks : List ℤ) (mark queue : List ℕ) (start h : ℕ) (x : List ℕ) (w : ℕ) : Type 0 where
  pub is : get_or queue (index queue w) 0 ≡ w
  pub sum : get_or queue h 0 + dot (downs ks) x ≡ w + dot (ups ks) x
  pub bound : total x + index queue w ≤ h
  pub level : (E : Entry ks mark queue start h) → total x + get_or E.seen.state.L (index queue w) 0 ≤ get_or E.seen.state.L h 0

-- one step back by place p
pub record Hop (ks : List ℤ) (m q : List ℕ) (start h : ℕ) (x : List ℕ) (w p : ℕ) : Type 0 where
  pub inside : p < length ks
  pub enough : positive_part (get_or ks p (pos 0)) ≤ w + negative_part (get_or ks p (pos 0))
  pub space : get_or x p 0 + 1 < 65536
  pub falls : index q (w + negative_part (get_or ks p (pos 0)) - positive_part (get_or ks p (pos 0))) < index q w
  pub next : p < length x → Back ks m q start h (onemore x p) (w + negative_part (get_or ks p (pos 0)) - positive_part (get_or ks p (pos 0)))

module _ (ks : List ℤ) (m q : List ℕ) (start h : ℕ) (Z : Sizes ks m q) (E : Entry ks m q start h) where
  abbrev S : State ks m q h 0 E.tail
  S = E.seen.state

  pub fits : h < length q
  fits = omega (arith, S.count, Z.room, E.inside)

  pub arrived : (x : List ℕ) (n : ℕ) → x ≡ replicate n 0 → Back ks m q start h x (get_or q h 0)
  arrived x n e =
      let b = index-le q h (get_or q h 0) fits refl in
      let t = ap total e ∙ total_zeros n in
      record {
        is = index_is q h (get_or q h 0) fits refl;
        sum = omega (arith, ap (dot (downs ks)) e, dot_zeros (downs ks) n, ap (dot (ups ks)) e, dot_zeros (ups ks) n);
        bound = omega arith;
        level = λ F. omega (arith, F.seen.state.sorted (index q (get_or q h 0)) h b F.inside);
      }

  module _ (x : List ℕ) (w : ℕ) (B : Back ks m q start h x w) where
    early : (F : Entry ks m q start h) → index q w < F.tail
    early F = omega (arith, B.bound, F.inside)

    pub standing : 0 < get_or m w 0
    standing = rw B.is at (S.marked (index q w) (early E))

    pub seat : w < length m
    seat = inside m w standing

    module _ (ne : w ≡ start → ⊥) where
      not_first : 0 < index q w
      not_first = go (ℕ_discrete (index q w) 0)
        where
          go : Dec (index q w ≡ 0) → 0 < index q w
          go (yes e) = absurd (ne (sym B.is ∙ ap (λ (i : ℕ). get_or q i 0) e ∙ E.seen.first))
          go (no n) = omega arith

      f : (F : Entry ks m q start h) → From ks m q F.seen.state.L (index q w)
      f F = F.seen.state.from (index q w) not_first (early F)

      module _ (p : ℕ) (pe : p ≡ get_or m w 0 - 1) where
        abbrev u : ℕ
        u = positive_part (get_or ks p (pos 0))

        abbrev d : ℕ
        d = negative_part (get_or ks p (pos 0))

        abbrev w' : ℕ
        w' = w + d - u

        named : (F : Entry ks m q start h) → (f F).place ≡ p
        named F = omega (arith, (f F).told, ap (λ (v : ℕ). get_or m v 0) B.is)

        step : (F : Entry ks m q start h) → w + d ≡ get_or q (f F).at 0 + u
        step F = rw (B.is, named F) at (f F).step

        was : (F : Entry ks m q start h) → get_or q (f F).at 0 ≡ w'
        was F = omega (arith, step F)

        short : (F : Entry ks m q start h) → (f F).at < length q
        short F = omega (arith, (f F).earlier, B.bound, fits)

        lower : (F : Entry ks m q start h) → index q w' ≤ (f F).at
        lower F = index-le q (f F).at w' (short F) (was F)

        fallen : index q w' < index q w
        fallen = omega (arith, lower E, (f E).earlier)

        hop : p < length x → Back ks m q start h (onemore x p) w'
        hop pl =
            let t = total_more x p pl in
            record {
              is = index_is q (f E).at w' (short E) (was E);
              sum = omega (arith, B.sum, dot_more (downs ks) x p pl, dot_more (ups ks) x p pl, step E, get_or-map negative_part ks p (pos 0), get_or-map positive_part ks p (pos 0));
              bound = omega (arith, B.bound, fallen);
              level = λ F. omega (arith, B.level F, (f F).deeper, F.seen.state.sorted (index q w') (f F).at (lower F) (omega (arith, (f F).earlier, early F)));
            }

        pub hopped : Hop ks m q start h x w p
        hopped =
            record {
              inside = omega (arith, (f E).inside, named E);
              enough = omega (arith, step E);
              space = omega (arith, part x p, B.bound, not_first, E.inside, S.count, Z.narrow);
              falls = fallen;
              next = hop;
            }

-- the step back from w, whose mark is n
pub one_hop : (ks : List ℤ) (m q : List ℕ) (start h : ℕ) → Sizes ks m q → Entry ks m q start h → (x : List ℕ) (w : ℕ) → Back ks m q start h x w → (w ≡ start → ⊥) → (n : ℕ) → n ≡ get_or m w 0 → Hop ks m q start h x w (n - 1)
one_hop ks m q start h Z E x w B ne n e = hopped ks m q start h Z E x w B ne (n - 1) (omega arith)
