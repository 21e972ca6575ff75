-- `write_reals`: the levels passed stand in the columns. Assumes nothing.
use lib.ListN.{take}
use Rattle.parts.specs.Levels.{reals_behind}
use Rattle.parts.proofs.Stored.{Stored}
use Rattle.parts.proofs.columns.write_reals.Given as goal

abbrev pub invariant-loop-i : goal.invariant-loop-i
invariant-loop-i l = Stored reals_behind 577 646 (take 577 l.initial.reals) l.s l.reals l.i
