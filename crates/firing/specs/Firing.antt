-- A firing's refusals and what it does to sixteen numbers: document 01, "Firing" and "Numbers that say no".
use Rattle.std.specs.Prelude.{Bool, List, ◌++◌, ℕ, zero, suc, ◌+◌, ltb, get_or, take, drop, Err, Ok}
use Rattle.terms.specs.Limits.{most_tokens}
use Rattle.refusals.specs.declared.Refusal.TheVariants.{NotEnabled, TooManyTokens}
use Rattle.terms.specs.declared.Place.{Place}
use Rattle.refusals.specs.declared.Refusal.{Refusal}
use Rattle.nets.specs.Nets as nets
use Rattle.format.specs.Read.{choose, ◌>>◌}
use Rattle.refusals.specs.Refusals.{Check}

-- Of the k places that follow the first p, the lowest for which the test holds is refused. Places are numbered from 1, so it has the number p + 1.
unfoldable pub lowest : (ℕ → Bool) → (Place → Refusal) → ℕ → ℕ → Check
lowest test refusal p zero = (Ok tt)
lowest test refusal p (suc k) = choose (test p) (Err (refusal (record { 0 = p + 1 }))) (lowest test refusal (p + 1) k)

-- 15: the lowest of n places that has fewer tokens than are taken
abbrev pub is_short : List ℕ → nets.Marking → ℕ → Bool
is_short taken m p = ltb (get_or m p 0) (get_or taken p 0)

abbrev pub lowest_short : ℕ → List ℕ → nets.Marking → Check
lowest_short n taken m = lowest (is_short taken m) NotEnabled 0 n

-- 16: the lowest of n places that has more than 65,535 in the marking after the whole step
abbrev pub is_over : nets.Marking → ℕ → Bool
is_over after p = ltb most_tokens (get_or after p 0)

abbrev pub lowest_over : ℕ → nets.Marking → Check
lowest_over n after = lowest (is_over after) TooManyTokens 0 n

-- A marking of the walk has 16 numbers. The first n are fired, and those beyond are neither read nor altered.
abbrev pub fired_in : ℕ → nets.Transition → List ℕ → List ℕ
fired_in n t tokens = nets.fire t (take n tokens) ++ drop n tokens

-- what a firing is refused for, in order
abbrev pub firing_check : ℕ → nets.Transition → nets.Marking → Check
firing_check n t m = lowest_short n t.taken m >> lowest_over n (nets.fire t m)
