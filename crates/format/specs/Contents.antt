-- What a sheet holds: a net, a start and a target, and the claims.
use Rattle.std.specs.Prelude.{Bool, true, false, cond, List, [], ◌∷◌, ℕ, zero, suc, eqb, ℤ, pos, nat_abs, get_or}
use Rattle.nets.specs.HalfSpaces.{HalfSpace}
use Rattle.nets.specs.Verdicts.{Setting}

-- Today every claim is a half space.
abbrev pub Claim : Type 0
Claim = HalfSpace

abbrev pub half_space : Claim → HalfSpace
half_space i = i

-- at least one coefficient is other than zero: what 02 (req 02) asks of every claim
unfoldable pub some_nonzero : List ℤ → Bool
some_nonzero [] = false
some_nonzero (k ∷ ks) = cond (eqb (nat_abs k) 0) (some_nonzero ks) true

-- a claim that no sheet holds, never asked for
abbrev pub no_claim : Claim
no_claim = record { coefficients = []; constant = pos 0 }

pub record Contents : Type 0 where
  pub setting : Setting
  pub claims : List Claim

-- Claims are numbered from 1.
unfoldable pub claim : Contents → ℕ → Claim
claim x zero = no_claim
claim x (suc i) = get_or x.claims i no_claim
