-- `page_of` meets its contract: the kept part reads as any input that begins with it.
use mathlib.Core.Path.{ap, sym, ◌∙◌, subst}
use lib.Dec.{lit≤}
use lib.ListN.{take}
use Rattle.format.specs.Read.{Read}
use Rattle.format.specs.Contents.{Contents}
use Rattle.format.specs.Reading.{reading}
use Rattle.format.proofs.Prefix.{first_bytes}
use Rattle.page.specs.Page.{IsPage}
use Rattle.judge.proofs.page_of.Goals as goal

pub returns : goal.returns
returns c =
    let r = c.page in
    record { by_index = λ s e. subst (λ (y : Read Contents). IsPage y (take r.result r.new.text)) (ap reading (sym e) ∙ first_bytes s 4096 (lit≤ tt)) r.ensures.page; upper_bound = r.ensures.starts.within }
