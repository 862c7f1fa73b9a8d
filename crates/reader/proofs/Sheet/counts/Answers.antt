use Rattle.std.proofs.Common.{subst}
use Rattle.format.specs.Formed.{Formed}
use Rattle.reader.proofs.Known.{well}
use Rattle.reader.proofs.Sheet.counts.Goals as goal

pub returns-clause-formed : goal.returns-clause-formed
returns-clause-formed c = subst Formed c.self.view_is (well c.self.inside.bytes.now _ c.self.invariant.known c.self.invariant.bytes)
