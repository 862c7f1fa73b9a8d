-- A firing place by place: each place of the net has its own sum, and the numbers beyond the net stay where they are.
use Rattle.std.specs.Prelude.{Ok}
use mathlib.Core.Path.{◌≡◌, sym, ap, ◌∙◌}
use mathlib.Core.List.{List, ◌∷◌, ◌++◌, append_assoc, append-nil}
use Prim.Native.Nat.{ℕ, suc, ◌+◌, ◌-◌, ◌≤◌, ◌<◌}
use native.Mathlib.Numerals.{add-one}
use native.Mathlib.Omega.{arith}
use mathlib.Core.Bool.{true, false}
use lib.ListN.{length, get_or, take, drop, set, drop_of_length-le}
use lib.Seq.{get_or-append_seam, take-suc, take_all, drop-cons, length-take-le, set_at}
use Rattle.nets.specs.Nets.{Transition, Marking, ◌⊟◌, fire}
use Rattle.nets.proofs.Vectors.{length_plus, get_or-plus, length_minus, get_or-minus}
use borrow.Author.Tests.{lt-ltb, le-ltb, ltb-false}
use Rattle.terms.specs.Limits.{most_tokens}
use Rattle.firing.specs.Firing.{is_short, is_over, lowest_short, lowest_over}
use Rattle.firing.proofs.Lowest.{none_found}

-- over as many weights as places
module _ (t : Transition) (m : Marking) (as-taken : length t.taken ≡ length m) (as-put : length t.put ≡ length m) where
  pub fire-length : length (fire t m) ≡ length m
  unfolding fire
  fire-length =
      let l = length_minus m t.taken (sym as-taken) in
      length_plus (m ⊟ t.taken) t.put (l ∙ sym as-put) ∙ l

  pub fire_at : (p : ℕ) → get_or (fire t m) p 0 ≡ get_or m p 0 - get_or t.taken p 0 + get_or t.put p 0
  unfolding fire
  fire_at p =
      let l = length_minus m t.taken (sym as-taken) in
      rw (get_or-plus (m ⊟ t.taken) t.put p (l ∙ sym as-put), get_or-minus m t.taken p (sym as-taken))

-- after p places of a firing
abbrev pub so_far : ℕ → Marking → List ℕ → List ℕ
so_far p after tokens = take p after ++ drop p tokens

pub one_more : (p v : ℕ) (after : Marking) (tokens : List ℕ) → p < length after → p < length tokens → get_or after p 0 ≡ v → set (so_far p after tokens) p v ≡ so_far (p + 1) after tokens
one_more p v after tokens l h e =
    ap (λ (rest : List ℕ). set (take p after ++ rest) p v) (drop-cons tokens p 0 h)
    ∙ set_at (take p after) (get_or tokens p 0) (drop (suc p) tokens) v p (length-take-le p after (omega arith))
    ∙ sym (rw (add-one p, take-suc after p 0 l, e, append_assoc))

-- place p is as it was
untouched : (p : ℕ) (after : Marking) (tokens : List ℕ) → p ≤ length after → p < length tokens → get_or (so_far p after tokens) p 0 ≡ get_or tokens p 0
untouched p after tokens h l =
    ap (λ (rest : List ℕ). get_or (take p after ++ rest) p 0) (drop-cons tokens p 0 l)
    ∙ ap (λ (i : ℕ). get_or (take p after ++ (get_or tokens p 0 ∷ drop (suc p) tokens)) i 0) (sym (length-take-le p after h))
    ∙ get_or-append_seam (take p after) (get_or tokens p 0) (drop (suc p) tokens) 0

-- What a place's numbers say of it, in a firing over as many weights as places.
module _ (t : Transition) (m : Marking) (as-taken : length t.taken ≡ length m) (as-put : length t.put ≡ length m) where
  pub over_here : (p : ℕ) → most_tokens < get_or m p 0 - get_or t.taken p 0 + get_or t.put p 0 → is_over (fire t m) p ≡ true
  over_here p h = rw (fire_at t m as-taken as-put p) (lt-ltb _ _ h)

  pub room_here : (p : ℕ) → get_or m p 0 - get_or t.taken p 0 + get_or t.put p 0 ≤ most_tokens → is_over (fire t m) p ≡ false
  room_here p h = rw (fire_at t m as-taken as-put p) (le-ltb _ _ h)

  pub room_of : (p : ℕ) → p < length m → lowest_over (length m) (fire t m) ≡ Ok tt → get_or m p 0 - get_or t.taken p 0 + get_or t.put p 0 ≤ most_tokens
  room_of p l e = ltb-false _ _ (rw (fire_at t m as-taken as-put p) at (none_found _ _ (length m) e p l))

  -- before place p has moved on
  pub held_here : (row : List ℕ) (p : ℕ) → row ≡ so_far p (fire t m) m → p < length m → get_or row p 0 ≡ get_or m p 0
  held_here row p is l = ap (λ (row : List ℕ). get_or row p 0) is ∙ untouched p (fire t m) m (omega (arith, fire-length t m as-taken as-put)) l

  pub fired_step : (p v : ℕ) → p < length m → v ≡ get_or m p 0 - get_or t.taken p 0 + get_or t.put p 0 → set (so_far p (fire t m) m) p v ≡ so_far (p + 1) (fire t m) m
  fired_step p v l e = one_more p v _ m (omega (arith, fire-length t m as-taken as-put)) l (fire_at t m as-taken as-put p ∙ sym e)

  pub fired_all : (p : ℕ) → length m ≤ p → so_far p (fire t m) m ≡ fire t m
  fired_all p h =
      rw (take_all p (fire t m) (omega (arith, fire-length t m as-taken as-put)), drop_of_length-le m h) (append-nil (fire t m))

module _ (m taken : List ℕ) (p : ℕ) where
  pub short_here : get_or m p 0 < get_or taken p 0 → is_short taken m p ≡ true
  short_here h = lt-ltb _ _ h

  pub enough_here : get_or taken p 0 ≤ get_or m p 0 → is_short taken m p ≡ false
  enough_here h = le-ltb _ _ h

  pub enough_of : p < length m → lowest_short (length m) taken m ≡ Ok tt → get_or taken p 0 ≤ get_or m p 0
  enough_of l e = ltb-false _ _ (none_found _ _ (length m) e p l)
