-- `levels_rise`: what is left of the test is the whole of it. Assumes nothing.
use Rattle.parts.proofs.Rising.{Rising}
use Rattle.parts.proofs.levels.levels_rise.Given as goal

abbrev pub invariant-loop-i : goal.invariant-loop-i
invariant-loop-i l = Rising l.counts l.low l.i
