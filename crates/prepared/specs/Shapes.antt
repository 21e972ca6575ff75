-- What inner functions ask for, which the checks of the call have settled. Definitions only.
use Rattle.std.specs.Prelude.{◌≡◌, List, ◌*◌, ◌≤◌, length, ℤ, Float}
use Rattle.definitions.specs.Table.{largest_dimension}
use Rattle.matrices.specs.Shapes.{Square, TargetShaped, PointShaped}

-- an output of n integers beside the transform and a point
pub record MapShaped (transform point out : List ℤ) : Type 0 where
  pub small : length out ≤ largest_dimension
  pub matrix : PointShaped (length out) transform point

-- the table, both matrices, the target and the output, and the room for the target and the point in the table's coordinates
pub record PreparedShaped (weights mu : List Float) (transform inverse : List ℤ) (target : List Float) (out : List ℤ) (transformed : List Float) (point : List ℤ) : Type 0 where
  pub small : length weights ≤ largest_dimension
  pub square : length mu ≡ length weights * length weights
  pub transform_square : Square (length weights) transform
  pub inverse_target : TargetShaped (length weights) inverse target
  pub output_length : length out ≡ length weights
  pub transformed_length : length transformed ≡ length weights
  pub point_length : length point ≡ length weights
