-- The order of a list's refusals: a sound sheet's list is refused as 17 where it is too long, and else its steps decide.
use Rattle.std.specs.Prelude.{Err, Ok}
use mathlib.Core.Path.{◌≡◌, sym, ap, ◌∙◌}
use mathlib.Core.Bool.{Bool}
use mathlib.Core.List.{List}
use Prim.Native.Nat.{ℕ, ◌≤◌, ◌<◌}
use lib.ListN.{length}
use borrow.Author.Tests.{le-leb, lt-leb}
use Rattle.terms.specs.Limits.{most_firings}
use Rattle.refusals.specs.declared.Refusal.TheVariants.{LongList}
use Rattle.format.specs.Read.{Read, choose}
use Rattle.format.specs.Contents.{Contents}
use Rattle.walk.specs.declared.Marking.{Marking}
use Rattle.traces.specs.Traces.{Traced}
use Rattle.traces.specs.Traces.{traced, fired_list, list_of}

module _ (y : Read Contents) (x : Contents) (is_read : y ≡ Ok x) (list : List ℕ) (m : Marking) where
  abbrev too_long : Traced
  too_long = traced 0 (Err (LongList (length list))) m

  pub long_refused : most_firings < length list → list_of y list m ≡ too_long
  long_refused h = ap (λ y. list_of y list m) is_read ∙ ap (λ (b : Bool). choose b (fired_list (Ok x) list m) too_long) (lt-leb (length list) most_firings h)

  pub short_fired : length list ≤ most_firings → list_of y list m ≡ fired_list y list m
  short_fired h =
      ap (λ y. list_of y list m) is_read
      ∙ ap (λ (b : Bool). choose b (fired_list (Ok x) list m) too_long) (le-leb (length list) most_firings h)
      ∙ ap (λ y. fired_list y list m) (sym is_read)
