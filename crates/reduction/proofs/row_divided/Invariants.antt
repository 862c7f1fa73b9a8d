-- `row_divided` meets its contract: the first p numbers are divided and zeros stand behind them.
use Rattle.reduction.proofs.Rows.{Divided}
use Rattle.reduction.proofs.row_divided.Given as goal

abbrev pub invariant-loop-p : goal.invariant-loop-p
invariant-loop-p l = Divided l.k l.g l.row l.p
