-- `add_row`: the entries passed are added. Assumes nothing.
use Rattle.running.proofs.Rows.{Added}
use Rattle.running.proofs.centers.add_row.Given as goal

abbrev pub invariant-loop-i : goal.invariant-loop-i
invariant-loop-i l = Added l.factor l.row l.initial.centers l.centers l.i
