-- `write_integers`: the levels passed stand in the columns. Assumes nothing.
use lib.ListN.{take}
use Rattle.parts.specs.Levels.{integers_behind}
use Rattle.parts.proofs.Stored.{Stored}
use Rattle.parts.proofs.columns.write_integers.Given as goal

abbrev pub invariant-loop-i : goal.invariant-loop-i
invariant-loop-i l = Stored integers_behind 46 92 (take 46 l.initial.integers) l.s l.integers l.i
