-- `run` ends by its depth, and its loop by what the budget leaves. The loop keeps `ChildReady`. Assumes nothing.
use Prim.Native.Nat.{◌-◌}
use Rattle.definitions.specs.Table.{table}
use Rattle.search.specs.View.{carried}
use Rattle.search.specs.Call.{state}
use Rattle.search.proofs.Loop.{ChildReady}
use Rattle.search.proofs.+run.Given as goal

abbrev pub decreases-run : goal.decreases-run
decreases-run l = l.depth

abbrev pub invariant-loop-s : goal.invariant-loop-s
invariant-loop-s l =
    ChildReady
    (record { listing = l.listing; table = table l.weights l.mu; target = l.target; budget = l.budget; depth = l.depth; partial = l.partial; from = state (carried l.listing l.initial.s l.initial.found l.initial.exhausted) l.initial.rest l.initial.distances l.initial.points })
    l.level
    (state (carried l.listing l.s l.found l.exhausted) l.rest l.distances l.points)
    l.child
    l.zigzag

abbrev pub decreases-loop-s : goal.decreases-loop-s
decreases-loop-s l = l.budget - l.s.nodes
