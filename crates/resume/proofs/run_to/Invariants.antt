-- `run_to` runs the machine. The loop keeps `Going`, and its measure is what the budget leaves; each turn is a law of `Given`, at what is known where it stands.
-- Assumes nothing.
use Prim.Native.Nat.{◌-◌}
use Rattle.resume.proofs.Going.{Going}
use Rattle.resume.proofs.run_to.Given as goal

abbrev pub invariant-loop-s : goal.invariant-loop-s
invariant-loop-s l = Going l.weights l.mu l.target l.budget l.initial.s l.rest l.s

abbrev pub decreases-loop-s : goal.decreases-loop-s
decreases-loop-s l = l.budget - l.s.nodes
