-- `size_in` meets its contract: before the last place stand the coefficients, and there the constant.
use mathlib.Core.Path.{◌≡◌, sym, ap, ◌∙◌}
use mathlib.Core.List.{map}
use native.Mathlib.Omega.{arith}
use lib.IntN.{pos, nat_abs}
use lib.ListN.{length, get_or, length-map}
use Rattle.std.proofs.lemmas.Int.{ints}
use Rattle.std.proofs.lemmas.List.{get_or-map}
use Rattle.nets.specs.HalfSpaces.{HalfSpace}
use Rattle.multiples.proofs.Entries.{entry_row, entry-constant}
use Rattle.multiples.proofs.size_in.Goals as goal

pub returns-then-place-coefficients : goal.returns-then-place-coefficients
returns-then-place-coefficients g c =
    let told = g.K.AsCoefficient.coefficient in
    let ks = c.args.coefficients.now in
    let w : HalfSpace = record { coefficients = map told ks; constant = c.args.constant } in
    let there : c.coefficient.result ≡ get_or (map told ks) c.args.place (pos 0) = c.coefficient.ensures ∙ ap told c.index-coefficients-place.is ∙ sym (get_or-map told ks c.args.place _ (pos 0) c.if-place-coefficients.true) in
    let size : c.from.result ≡ nat_abs (get_or (map told ks) c.args.place (pos 0)) = omega (arith, ints, there) in
    size ∙ ap nat_abs (sym (entry_row w c.args.place (omega (arith, length-map ks told))))

pub returns-else-place-coefficients : goal.returns-else-place-coefficients
returns-else-place-coefficients g c =
    let told = g.K.AsCoefficient.coefficient in
    let ks = c.args.coefficients.now in
    let w : HalfSpace = record { coefficients = map told ks; constant = c.args.constant } in
    let last : length (map told ks) ≡ c.args.place = omega (arith, length-map ks told) in
    let size : c.unsigned_abs-else-place-coefficients.result ≡ nat_abs c.args.constant = omega (arith, ints) in
    size ∙ ap nat_abs (sym (entry-constant w c.args.place last))
