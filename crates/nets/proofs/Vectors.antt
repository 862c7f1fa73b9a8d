-- The laws of sums, differences and values of vectors. Lengths and entries are found by induction; an equation of vectors then follows entry by entry.
use mathlib.Core.Path.{◌≡◌, refl, sym, ap, ◌∙◌}
use mathlib.Core.Logic.{◌↔◌, ◌⊎◌, ⊎_elim}
use mathlib.Core.List.{List, [], ◌∷◌}
use Prim.Native.Nat.{ℕ, zero, suc, ◌+◌, ◌-◌}
use native.Mathlib.Omega.{arith}
use lib.ListN.{length, get_or}
use lib.Seq.{ext_get_or}
use lib.IntN.{ℤ, ◌+ℤ◌, ◌-ℤ◌}
use lib.Signed.{◌<ℤ◌, clash_ℤ}
use Rattle.signed.specs.Parts.{le_or_lt}
use Rattle.signed.specs.Linear.{linear}
use Rattle.nets.specs.Nets.{Marking, Transition, ◌⊑◌, ◌⊞◌, ◌⊟◌, Enabled, Room, fire}
use Rattle.nets.specs.HalfSpaces.{HalfSpace, value, Inside, Outside}

-- the sum
pub length_plus : (xs ys : List ℕ) → length xs ≡ length ys → length (xs ⊞ ys) ≡ length xs
unfolding ◌⊞◌
length_plus [] ys e = refl
length_plus (x ∷ xs) [] e = absurd (omega arith)
length_plus (x ∷ xs) (y ∷ ys) e = ap suc (length_plus xs ys (omega arith))

pub get_or-plus : (xs ys : List ℕ) (p : ℕ) → length xs ≡ length ys → get_or (xs ⊞ ys) p 0 ≡ get_or xs p 0 + get_or ys p 0
unfolding ◌⊞◌
get_or-plus [] [] p e = refl
get_or-plus [] (y ∷ ys) p e = absurd (omega arith)
get_or-plus (x ∷ xs) [] p e = absurd (omega arith)
get_or-plus (x ∷ xs) (y ∷ ys) zero e = refl
get_or-plus (x ∷ xs) (y ∷ ys) (suc p) e = get_or-plus xs ys p (omega arith)

pub value_plus : (k : List ℤ) (xs ys : List ℕ) → length xs ≡ length ys → value k (xs ⊞ ys) ≡ value k xs +ℤ value k ys
unfolding value ◌⊞◌
value_plus [] xs ys e = refl
value_plus (k ∷ ks) [] [] e = refl
value_plus (k ∷ ks) [] (y ∷ ys) e = absurd (omega arith)
value_plus (k ∷ ks) (x ∷ xs) [] e = absurd (omega arith)
value_plus (k ∷ ks) (x ∷ xs) (y ∷ ys) e = simp linear (omega (arith, simp linear at (value_plus ks xs ys (omega arith))))

-- what is left
pub length_minus : (xs ys : List ℕ) → length xs ≡ length ys → length (xs ⊟ ys) ≡ length xs
unfolding ◌⊟◌
length_minus [] ys e = refl
length_minus (x ∷ xs) [] e = absurd (omega arith)
length_minus (x ∷ xs) (y ∷ ys) e = ap suc (length_minus xs ys (omega arith))

pub get_or-minus : (xs ys : List ℕ) (p : ℕ) → length xs ≡ length ys → get_or (xs ⊟ ys) p 0 ≡ get_or xs p 0 - get_or ys p 0
unfolding ◌⊟◌
get_or-minus [] [] p e = refl
get_or-minus [] (y ∷ ys) p e = absurd (omega arith)
get_or-minus (x ∷ xs) [] p e = absurd (omega arith)
get_or-minus (x ∷ xs) (y ∷ ys) zero e = refl
get_or-minus (x ∷ xs) (y ∷ ys) (suc p) e = get_or-minus xs ys p (omega arith)

-- the order
pub at_most_itself : (xs : List ℕ) → xs ⊑ xs
unfolding ◌⊑◌
at_most_itself xs = (refl, λ p. omega arith)

pub at_most_sum : (xs ys : List ℕ) → length ys ≡ length xs → xs ⊑ xs ⊞ ys
unfolding ◌⊑◌
at_most_sum xs ys e = (sym (length_plus xs ys (sym e)), λ p. omega (arith, get_or-plus xs ys p (sym e)))

-- the sum takes back what was left, and the other way round
pub sum_rest : (xs ys : List ℕ) → xs ⊑ ys → xs ⊞ (ys ⊟ xs) ≡ ys
unfolding ◌⊑◌
sum_rest xs ys h =
    let e : length xs ≡ length (ys ⊟ xs) = omega (arith, length_minus ys xs (sym h.0)) in
    ext_get_or 0 (xs ⊞ (ys ⊟ xs)) ys (omega (arith, length_plus xs (ys ⊟ xs) e))
    (λ p _. omega (arith, get_or-plus xs (ys ⊟ xs) p e, get_or-minus ys xs p (sym h.0), h.1 p))

pub rest_sum : (xs ys : List ℕ) → length ys ≡ length xs → (xs ⊞ ys) ⊟ xs ≡ ys
rest_sum xs ys e =
    let l : length (xs ⊞ ys) ≡ length xs = length_plus xs ys (sym e) in
    ext_get_or 0 ((xs ⊞ ys) ⊟ xs) ys (omega (arith, length_minus (xs ⊞ ys) xs l))
    (λ p _. omega (arith, get_or-minus (xs ⊞ ys) xs p l, get_or-plus xs ys p (sym e)))

-- A marking is inside or its value is below the constant, and outside is the second.
pub inside_or_below : (h : HalfSpace) (m : Marking) → Inside h m ⊎ (value h.coefficients m <ℤ h.constant)
unfolding Inside
inside_or_below h m = le_or_lt h.constant (value h.coefficients m)

pub outside_exactly : (h : HalfSpace) (m : Marking) → Outside h m ↔ (value h.coefficients m <ℤ h.constant)
unfolding Inside Outside
outside_exactly h m = (λ o. ⊎_elim (λ i. absurd (o i)) (λ b. b) (inside_or_below h m), λ b i. clash_ℤ b i)

-- Enabled, by what stands beside the weights taken. What is below leans on the room and on being enabled only by these laws, so that a narrower room moves little.
pub room-length : (t : Transition) (x : List ℕ) → Room t x → length x ≡ length t.taken
unfolding Room
room-length t x r = r

pub enabled_at_most : (t : Transition) (m : Marking) → Enabled t m → t.taken ⊑ m
unfolding Enabled
enabled_at_most t m h = h

pub enabled-length : (t : Transition) (m : Marking) → Enabled t m → length m ≡ length t.taken
unfolding ◌⊑◌
enabled-length t m h = sym (enabled_at_most t m h).0

pub enabled_by : (t : Transition) (x : List ℕ) → Room t x → Enabled t (t.taken ⊞ x)
unfolding Enabled
enabled_by t x r = at_most_sum t.taken x (room-length t x r)

pub room_left : (t : Transition) (m : Marking) → Enabled t m → Room t (m ⊟ t.taken)
unfolding Room
room_left t m h = length_minus m t.taken (enabled-length t m h) ∙ enabled-length t m h

pub sum_left : (t : Transition) (m : Marking) → Enabled t m → t.taken ⊞ (m ⊟ t.taken) ≡ m
sum_left t m h = sum_rest t.taken m (enabled_at_most t m h)

pub enabled_exactly : (t : Transition) (m : Marking) → Enabled t m ↔ ((x : List ℕ) × Room t x × (m ≡ t.taken ⊞ x))
enabled_exactly t m =
    (λ h. (m ⊟ t.taken, room_left t m h, sym (sum_left t m h)), λ w. rw w.2 (enabled_by t w.0 w.1))

-- Firing leaves that vector beside the weights put.
pub fire_beside : (t : Transition) (x : List ℕ) → Room t x → fire t (t.taken ⊞ x) ≡ x ⊞ t.put
unfolding fire
fire_beside t x r = rw (rest_sum t.taken x (room-length t x r))

pub value_before : (t : Transition) (k : List ℤ) (x : List ℕ) → Room t x → value k (t.taken ⊞ x) ≡ value k t.taken +ℤ value k x
value_before t k x r = value_plus k t.taken x (sym (room-length t x r))

module _ (t : Transition) (same : length t.put ≡ length t.taken) where
  pub value_after : (k : List ℤ) (x : List ℕ) → Room t x → value k (fire t (t.taken ⊞ x)) ≡ value k x +ℤ value k t.put
  value_after k x r = rw (fire_beside t x r) (value_plus k x t.put (room-length t x r ∙ sym same))

  -- The value moves by the value put less the value taken.
  pub value-fire : (k : List ℤ) (m : Marking) → Enabled t m → value k (fire t m) ≡ (value k m -ℤ value k t.taken) +ℤ value k t.put
  value-fire k m h =
      let (x, r, e) = (enabled_exactly t m).0 h in
      rw e (simp linear (omega (arith, simp linear at (value_before t k x r), simp linear at (value_after k x r))))

  pub left_over : (m : Marking) → Enabled t m → length (m ⊟ t.taken) ≡ length t.put
  left_over m h = room-length t (m ⊟ t.taken) (room_left t m h) ∙ sym same

  pub length-fire : (m : Marking) → Enabled t m → length (fire t m) ≡ length m
  unfolding fire
  length-fire m h =
      length_plus (m ⊟ t.taken) t.put (left_over m h) ∙ length_minus m t.taken (enabled-length t m h)

  pub get_or-fire : (m : Marking) (p : ℕ) → Enabled t m → get_or (fire t m) p 0 ≡ (get_or m p 0 - get_or t.taken p 0) + get_or t.put p 0
  unfolding fire
  get_or-fire m p h =
      rw (get_or-plus (m ⊟ t.taken) t.put p (left_over m h), get_or-minus m t.taken p (enabled-length t m h))
