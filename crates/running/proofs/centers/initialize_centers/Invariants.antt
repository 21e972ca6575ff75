-- `initialize_centers`: the rows passed are added to the target. Assumes nothing.
use Rattle.running.proofs.Rows.{Begun}
use Rattle.running.proofs.centers.initialize_centers.Given as goal

abbrev pub invariant-loop-j : goal.invariant-loop-j
invariant-loop-j l = Begun l.mu l.target l.n l.centers l.j
