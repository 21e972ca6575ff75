-- `transformed_coordinate` meets its contract: the total is that of the rows passed. Assumes nothing.
use mathlib.Core.Path.{◌≡◌}
use Rattle.definitions.specs.Prepared.{transformed_sum}
use Rattle.matrices.proofs.transformed_coordinate.Given as goal

abbrev pub invariant-loop-row : goal.invariant-loop-row
invariant-loop-row l = l.total ≡ transformed_sum l.n l.inverse l.target l.column l.row
