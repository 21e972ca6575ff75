-- `map_point` meets its contract: the coordinates passed are i64, and written. Assumes nothing.
use mathlib.Core.Path.{◌≡◌}
use mathlib.Core.Bool.{Bool, false, not}
use mathlib.Core.List.{List}
use Prim.Native.Nat.{ℕ, ◌<◌}
use lib.IntN.{ℤ, pos}
use lib.ListN.{length}
use Rattle.rounding.specs.Integers.{is_i64}
use Rattle.lists.proofs.Filling.{Filled}
use Rattle.definitions.specs.Prepared.{mapped_coordinate}
use Rattle.matrices.proofs.map_point.Given as goal

abbrev pub fault : ℕ → List ℤ → List ℤ → ℕ → Bool
fault n transform point column = not (is_i64 (mapped_coordinate n transform point column))

abbrev pub invariant-loop-column : goal.invariant-loop-column
invariant-loop-column l =
    Filled (mapped_coordinate (length l.initial.mapped) l.transform l.point) (pos 0) (length l.initial.mapped) l.mapped l.column × ((k : ℕ) → k < l.column → fault (length l.initial.mapped) l.transform l.point k ≡ false)
