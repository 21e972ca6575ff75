-- `distance_test::three` is proved: the arrays' types say how long they are. Assumes nothing.
use native.Mathlib.Omega.{arith}
use Rattle.distance_test.proofs.Square.{square}
use Rattle.distance_test.proofs.three.Goals as goal

pub triangular_distance-requires : goal.triangular_distance-requires
triangular_distance-requires c = record { shape = record { small = omega arith; square = square 3 _ _ (omega arith) (omega arith); target_length = omega arith }; output_length = omega arith }
