-- `run` ends by its depth, and its loop by what the budget leaves. The loop keeps `ChildReady`. Assumes nothing.
use Prim.Native.Nat.{◌-◌}
use Rattle.definitions.specs.Table.{table}
use Rattle.search.specs.View.{carried}
use Rattle.running.specs.Call.{search_of, state}
use Rattle.running.proofs.Loop.{ChildReady}
use Rattle.running.proofs.+run.Given as goal

abbrev pub decreases-run : goal.decreases-run
decreases-run l = l.depth

abbrev pub invariant-loop-s : goal.invariant-loop-s
invariant-loop-s l =
    ChildReady
    (record { listing = l.listing; table = table l.weights l.mu; budget = l.budget; depth = l.depth; partial = l.partial; from = state (carried l.listing (search_of l.initial.point l.initial.best l.initial.s) l.initial.found l.initial.exhausted) l.initial.centers l.initial.distances l.initial.points })
    l.level
    (state (carried l.listing (search_of l.point l.best l.s) l.found l.exhausted) l.centers l.distances l.points)
    l.child
    l.zigzag

abbrev pub decreases-loop-s : goal.decreases-loop-s
decreases-loop-s l = l.budget - l.s.nodes
