-- `tables::signs::smallest` meets its contract: it is the least of the sizes that are not 0, and there is one.
use mathlib.Core.Path.{◌≡◌, sym, ◌∙◌}
use Prim.Native.Nat.{ℕ, min}
use lib.Dec.{ltb}
use lib.IntN.{nat_abs}
use Rattle.std.proofs.Common.{rules, tests}
use Rattle.std.proofs.lemmas.Int.{ints}
use Rattle.std.proofs.lemmas.Iterator.{YieldsList-from_slice, YieldsList-from_map}
use Rattle.std.proofs.lemmas.Iterator.Consumers.{YieldsList-from_filter, YieldsList-at, min_from_yields_List}
use Rattle.std.proofs.lemmas.Iterator.Adapters.{option_map_id}
use Rattle.std.specs.Prelude.{Option, Some, None, IsSome}
use Rattle.std.specs.List.{filter, reduce}
use Rattle.remainders.specs.Sums.{sizes}
use Rattle.tables.proofs.LeastSize.{smallest_is, some_smallest}
use Rattle.tables.proofs.signs.smallest.Goals as goal
use Rattle.tables.proofs.signs.smallest.Goals.{After-min}

-- the sizes pass through the chain
least_of_chain : (c : After-min) → c.min.result ≡ reduce min (filter (ltb 0) (sizes c.args.k.now))
least_of_chain c =
    sym (option_map_id c.min.result)
    ∙ min_from_yields_List _ c.min.result c.min.ensures.ran
    (YieldsList-from_filter _ (ltb 0)
    (YieldsList-at c.filter.ensures.source (YieldsList-from_map _ nat_abs (YieldsList-from_slice c.args.k.now cc) c.map-sizes.ensures.closure (λ x r q k. search (rules, tests, ints)))) c.filter.ensures.closure
    (λ x r q k. search (rules, tests)))

pub unwrap-requires : goal.unwrap-requires
unwrap-requires c = there c.min.result (least_of_chain c)
  where
    there : (o : Option ℕ) → o ≡ reduce min (filter (ltb 0) (sizes c.args.k.now)) → IsSome o
    there None e = absurd (some_smallest (sizes c.args.k.now) c.requires.1 e)
    there (Some r) e = search rules

pub returns : goal.returns
returns c = smallest_is (sizes c.args.k.now) c.from.result c.requires.0 (rw (c.from.ensures, ← c.unwrap.ensures) (least_of_chain (goal.at.returns c).After-min))
