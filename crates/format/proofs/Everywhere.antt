-- What holds of every entry of a list, under ++, map and joined: each by induction over the list.
use mathlib.Core.Path.{◌≡◌, refl, sym, ap₂}
use mathlib.Core.List.{List, [], ◌∷◌, ◌++◌, append_assoc, map}
use Prim.Native.Nat.{ℕ, zero, suc, ◌*◌}
use native.Mathlib.Nat.{zero-mul, suc-mul}
use native.Mathlib.Omega.{arith}
use lib.ListN.{length, get_or, length-append}
use Rattle.format.specs.Formed.{All}
use Rattle.format.specs.Encoding.{joined}

module _ {A : Type 0} (P : A → Type 0) where
  pub all_append : (xs ys : List A) → All P xs → All P ys → All P (xs ++ ys)
  unfolding All
  all_append [] ys a b = b
  all_append (x ∷ xs) ys a b = (a.0, all_append xs ys a.1 b)

  pub all_left : (xs ys : List A) → All P (xs ++ ys) → All P xs
  unfolding All
  all_left [] ys a = tt
  all_left (x ∷ xs) ys a = (a.0, all_left xs ys a.1)

  pub all_right : (xs ys : List A) → All P (xs ++ ys) → All P ys
  unfolding All
  all_right [] ys a = a
  all_right (x ∷ xs) ys a = all_right xs ys a.1

  pub all_if : (Q : A → Type 0) → ((x : A) → P x → Q x) → (xs : List A) → All P xs → All Q xs
  unfolding All
  all_if Q imp [] a = tt
  all_if Q imp (x ∷ xs) a = (imp x a.0, all_if Q imp xs a.1)

  pub all_get_or : (d : A) → P d → (xs : List A) (i : ℕ) → All P xs → P (get_or xs i d)
  unfolding All
  all_get_or d p [] i a = p
  all_get_or d p (x ∷ xs) zero a = a.0
  all_get_or d p (x ∷ xs) (suc i) a = all_get_or d p xs i a.1

module _ {A B : Type 0} (P : A → Type 0) where
  pub all_map : (Q : B → Type 0) (f : A → B) → ((x : A) → P x → Q (f x)) → (xs : List A) → All P xs → All Q (map f xs)
  unfolding All
  all_map Q f imp [] a = tt
  all_map Q f imp (x ∷ xs) a = (imp x a.0, all_map Q f imp xs a.1)

  -- what g takes back
  pub map_back : (f : A → B) (g : B → A) → ((x : A) → P x → g (f x) ≡ x) → (xs : List A) → All P xs → map g (map f xs) ≡ xs
  unfolding All
  map_back f g back [] a = refl
  map_back f g back (x ∷ xs) a = ap₂ (λ (y : A) (ys : List A). y ∷ ys) (back x a.0) (map_back f g back xs a.1)

pub all-joined : {A : Type 0} (P : A → Type 0) (Q : ℕ → Type 0) (f : A → List ℕ) → ((x : A) → P x → All Q (f x)) → (xs : List A) → All P xs → All Q (joined f xs)
unfolding All joined
all-joined P Q f imp [] a = tt
all-joined P Q f imp (x ∷ xs) a = all_append Q (f x) (joined f xs) (imp x a.0) (all-joined P Q f imp xs a.1)

pub length-joined : {A : Type 0} (P : A → Type 0) (f : A → List ℕ) (k : ℕ) → ((x : A) → P x → length (f x) ≡ k) → (xs : List A) → All P xs → length (joined f xs) ≡ length xs * k
unfolding All joined
length-joined P f k imp [] a = sym (zero-mul k)
length-joined P f k imp (x ∷ xs) a =
    rw (length-append, imp x a.0, length-joined P f k imp xs a.1, suc-mul) (omega arith)

pub joined-append : {A : Type 0} (f : A → List ℕ) (xs ys : List A) → joined f (xs ++ ys) ≡ joined f xs ++ joined f ys
unfolding joined
joined-append f [] ys = refl
joined-append f (x ∷ xs) ys = rw (joined-append f xs ys, append_assoc)
