-- `transform_target` meets its contract: the coordinates passed are written. Assumes nothing.
use Prim.Native.Nat.{ℕ}
use mathlib.Core.List.{List}
use lib.IntN.{ℤ}
use lib.ListN.{length}
use lib.Ieee.{Float, nan}
use Rattle.lists.proofs.Filling.{Filled}
use Rattle.definitions.specs.Prepared.{transformed_sum}
use Rattle.matrices.proofs.transform_target.Given as goal

abbrev pub coordinates : ℕ → List ℤ → List Float → ℕ → Float
coordinates n inverse target column = transformed_sum n inverse target column n

abbrev pub invariant-loop-column : goal.invariant-loop-column
invariant-loop-column l = Filled (coordinates (length l.initial.transformed) l.inverse l.target) nan (length l.initial.transformed) l.transformed l.column
