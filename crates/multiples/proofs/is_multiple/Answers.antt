-- `is_multiple` meets its contract: a multiple is one at the number that the pivot shows, so the constant and the row decide at that number.
use mathlib.Core.Path.{◌≡◌, sym, ap, ◌∙◌}
use mathlib.Core.List.{List, map}
use mathlib.Core.Logic.{◌↔◌}
use native.Mathlib.Omega.{arith}
use Prim.Native.Nat.{ℕ}
use lib.IntN.{ℤ, pos, nat_abs, ◌*ℤ◌}
use lib.ListN.{length}
use mir.Syntax.{w16}
use mir.Val.{to_z, of_z}
use Rattle.std.specs.Prelude.{IsTrue}
use Rattle.std.proofs.lemmas.Int.{ints}
use Rattle.std.proofs.lemmas.Bool.{false≢true}
use Rattle.nets.specs.HalfSpaces.{HalfSpace}
use Rattle.reduction.specs.Divisors.{space_of}
use Rattle.multiples.specs.Multiples.{entry, factor_of}
use Rattle.multiples.proofs.Scaled.{no_factor, other_constant, by_row}
use Rattle.multiples.proofs.is_multiple.Given.{Over}
use Rattle.multiples.proofs.is_multiple.Goals as goal
use Rattle.multiples.proofs.is_multiple.Goals.{After-factor-d, After-is_times}

-- the claim, as what tells its coefficients and its constant
abbrev claimed : {A : Type 0} → (A → ℤ) → List A → ℤ → HalfSpace
claimed told ks k = record { coefficients = map told ks; constant = k }

factor_is : (g : Over) (c : After-factor-d g) → c.factor-d.result ≡ factor_of (nat_abs (entry (claimed g.K.AsCoefficient.coefficient c.args.coefficients.now c.args.constant) c.args.pivot.place)) c.args.pivot.size
factor_is g c =
    let theirs : to_z w16 (of_z w16 c.args.constant) ≡ c.args.constant = omega (arith, ints) in
    c.factor-d.ensures ∙ ap (λ (x : ℕ). factor_of x c.args.pivot.size) (rw theirs at c.size_in.ensures)

-- the test of the constant
constant_told : (g : Over) (c : After-is_times g) → IsTrue c.is_times.result ↔ (c.args.constant ≡ c.args.form.now.constant *ℤ pos c.factor-d.result)
constant_told g c =
    let theirs : to_z w16 (of_z w16 c.args.constant) ≡ c.args.constant = omega (arith, ints) in
    let ours : to_z w16 (of_z w16 c.args.form.now.constant) ≡ c.args.form.now.constant = omega (arith, ints) in
    rw ours at (rw theirs at c.is_times.ensures)

pub returns-then-d-eq0 : goal.returns-then-d-eq0
returns-then-d-eq0 g c =
    let a = c.args in
    let w = claimed g.K.AsCoefficient.coefficient a.coefficients.now a.constant in
    let d = factor_is g (goal.at.returns-then-d-eq0 g c).After-factor-d in
    (λ e. absurd (false≢true e), λ m. absurd (no_factor w (space_of (length a.coefficients.now) a.form.now.coefficients a.form.now.constant) a.pivot.place a.pivot.size c.factor-d.result c.requires.pivot d c.if-d-eq0.true m))

pub returns-then-not-is_times : goal.returns-then-not-is_times
returns-then-not-is_times g c =
    let a = c.args in
    let w = claimed g.K.AsCoefficient.coefficient a.coefficients.now a.constant in
    let d = factor_is g (goal.at.returns-then-not-is_times g c).After-factor-d in
    let told = constant_told g (goal.at.returns-then-not-is_times g c).After-is_times in (
      λ e. absurd (false≢true e),
      λ m.
          absurd (other_constant w (space_of (length a.coefficients.now) a.form.now.coefficients a.form.now.constant) a.pivot.place a.pivot.size c.factor-d.result c.requires.pivot d (λ e. false≢true (sym c.if-not-is_times.true ∙ told.1 e)) m),
    )

pub returns : goal.returns
returns g c =
    let a = c.args in
    let w = claimed g.K.AsCoefficient.coefficient a.coefficients.now a.constant in
    let r : HalfSpace = space_of (length a.coefficients.now) a.form.now.coefficients a.form.now.constant in
    let d = factor_is g (goal.at.returns g c).After-factor-d in
    let constant = (constant_told g (goal.at.returns g c).After-is_times).0 c.if-not-is_times.false in
    by_row w r a.pivot.place a.pivot.size c.factor-d.result c.requires.pivot d c.row_is_times.result (omega arith) constant c.row_is_times.ensures
