-- `write_counts`: the levels passed stand in the columns. Assumes nothing.
use lib.ListN.{take}
use Rattle.parts.specs.Levels.{counts_behind}
use Rattle.parts.proofs.Stored.{Stored}
use Rattle.parts.proofs.columns.write_counts.Given as goal

abbrev pub invariant-loop-i : goal.invariant-loop-i
invariant-loop-i l = Stored counts_behind 4 96 (take 4 l.initial.counts) l.s l.counts l.i
