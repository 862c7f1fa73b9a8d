-- `residues::breaks` meets its contract: by the signs of the coefficients, Theorem 1's window or Theorem 3 (Asked.antt).
use mathlib.Core.Path.{◌≡◌, subst}
use native.Mathlib.Omega.{arith}
use mathlib.Core.Bool.{Bool}
use mathlib.Core.List.{List}
use mathlib.Core.Logic.{◌↔◌}
use Prim.Native.Nat.{ℕ}
use lib.IntN.{ℤ, pos, ◌+ℤ◌, ◌-ℤ◌}
use lib.Signed.{◌≤ℤ◌, ◌<ℤ◌}
use Rattle.std.specs.Prelude.{IsTrue}
use Rattle.std.proofs.lemmas.Int.{ints}
use Rattle.remainders.specs.Sums.{sizes}
use Rattle.tables.specs.Told.{Told}
use Rattle.residues.specs.Asked.{SomeIn}
use Rattle.residues.proofs.Asked.{not_falling, still, both_signs, rising, falling}
use Rattle.residues.proofs.breaks.Goals as goal

pub returns-then-a-b : goal.returns-then-a-b
returns-then-a-b c =
    let l : c.args.a ≤ℤ c.args.b = omega (arith, ints) in
    λ ks t told m. not_falling ks c.args.c c.args.a c.args.b t m l

pub returns-in-Zero : goal.returns-in-Zero
returns-in-Zero c =
    let g = c.args in
    λ ks t told m.
    let x = subst (Told ks) c.in-Zero.is told in
    not_falling ks g.c g.a g.b t m (still ks g.c g.a g.b t m x.0 x.1)

-- what is told of a window holds of it in another spelling
respelled : (ss : List ℕ) (r : Bool) (lo hi lo' hi' : ℤ) → (hi ≤ℤ pos 5000 → (IsTrue r ↔ SomeIn ss lo hi)) → lo ≡ lo' → hi ≡ hi' → hi' ≤ℤ pos 5000 → (IsTrue r ↔ SomeIn ss lo' hi')
respelled ss r lo hi lo' hi' told e f = subst (λ (l : ℤ). hi' ≤ℤ pos 5000 → (IsTrue r ↔ SomeIn ss l hi')) e (subst (λ (h : ℤ). h ≤ℤ pos 5000 → (IsTrue r ↔ SomeIn ss lo h)) f told)

pub returns-in-Rising : goal.returns-in-Rising
returns-in-Rising c =
    let g = c.args in
    λ ks t told m.
    let x = subst (Told ks) c.in-Rising.is told in
    rising ks g.c g.a g.b t m c.requires.limits x.1 c.meets.result
    (respelled (sizes ks) c.meets.result _ _ (g.c -ℤ g.a) ((g.c -ℤ g.b) -ℤ pos 1) (c.meets.ensures (sizes ks) x.2.exact) (omega (arith, ints)) (omega (arith, ints)))

pub returns-in-Falling : goal.returns-in-Falling
returns-in-Falling c =
    let g = c.args in
    λ ks t told m.
    let x = subst (Told ks) c.in-Falling.is told in
    falling ks g.c g.a g.b t m c.requires.limits x.0 c.meets-in-Falling.result
    (respelled (sizes ks) c.meets-in-Falling.result _ _ ((g.b +ℤ pos 1) -ℤ g.c) (g.a -ℤ g.c) (c.meets-in-Falling.ensures (sizes ks) x.2.exact) (omega (arith, ints)) (omega (arith, ints)))

pub returns-in-Mixed : goal.returns-in-Mixed
returns-in-Mixed c =
    let g = c.args in
    let l : c.args.b <ℤ c.args.a = omega (arith, ints) in
    λ ks t told m.
    let x = subst (Told ks) c.in-Mixed.is told in
    both_signs ks g.c g.a g.b t m l x.0 x.1
