-- `dot`: after each row the sum is that of the rows' products, and no larger than so many. Assumes nothing.
use Rattle.exact.proofs.Summed.{Summed}
use Rattle.exact.proofs.dot.Given as goal

abbrev pub invariant-loop-row : goal.invariant-loop-row
invariant-loop-row l = Summed l.left l.first l.matrix l.n l.column l.sum l.row
