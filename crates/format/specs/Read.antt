-- Reading a part of a sheet gives what it holds, or the refusal of its first fault.
use Rattle.std.specs.Prelude.{Bool, true, false, Result, Ok, Err}
use Rattle.refusals.specs.declared.Refusal.{Refusal}

abbrev pub Read : Type 0 → Type 0
Read A = Result A Refusal

-- one part after another, left to right: the first fault is the answer
infixl 1 ◌>>=◌ ◌>>◌
abbrev pub ◌>>=◌ : {A B : Type 0} → Read A → (A → Read B) → Read B
(Ok a) >>= next = next a
(Err r) >>= next = Err r

abbrev pub ◌>>◌ : {A B : Type 0} → Read A → Read B → Read B
(Ok a) >> next = next
(Err r) >> next = Err r

-- the same of what was read, or its refusal
abbrev pub map_ok : {A B : Type 0} → (A → B) → Read A → Read B
map_ok f (Ok a) = Ok (f a)
map_ok f (Err r) = Err r

-- where the test fails, the refusal
abbrev pub need : Bool → Refusal → Read (Unit {0})
need true refusal = Ok tt
need false refusal = Err refusal

abbrev pub choose : {A : Type 0} → Bool → A → A → A
choose true a b = a
choose false a b = b
