-- `total` sums the terms downward: the invariant holds the residuals above the level beside the partial sum there. Assumes nothing.
use mathlib.Core.Path.{◌≡◌}
use lib.ListN.{length}
use Rattle.definitions.specs.Distance.{partial}
use Rattle.lists.specs.Places.{places}
use Rattle.distance.specs.Residuals.{residuals}
use Rattle.definitions.specs.Table.{table, largest_dimension}
use Rattle.distance.proofs.total.Given as goal

abbrev pub invariant-loop-level : goal.invariant-loop-level
invariant-loop-level l =
    (length l.rest ≡ largest_dimension) × (places l.n l.level l.rest ≡ residuals l.target l.level (places l.n l.level l.point)) × (l.sum ≡ partial (table l.weights l.mu) l.target (places l.n l.level l.point))
