-- What inner functions ask of the matrices, which the checks of their callers have settled. Definitions only.
use Rattle.std.specs.Prelude.{◌≡◌, List, ℕ, ◌*◌, ◌≤◌, length, ℤ, Float}
use Rattle.exact.specs.Value.{Bounded}

-- n·n elements, of at most 2^52 in magnitude
pub record Square (n : ℕ) (m : List ℤ) : Type 0 where
  pub small : n ≤ 64
  pub square : length m ≡ n * n
  pub bounded : Bounded m

-- two of them
pub record Factors (n : ℕ) (a b : List ℤ) : Type 0 where
  pub left : Square n a
  pub right : Square n b

-- the inverse with a target of n numbers
pub record TargetShaped (n : ℕ) (inverse : List ℤ) (target : List Float) : Type 0 where
  pub matrix : Square n inverse
  pub target_length : length target ≡ n

-- the transform with a point of n integers
pub record PointShaped (n : ℕ) (transform : List ℤ) (point : List ℤ) : Type 0 where
  pub matrix : Square n transform
  pub point_length : length point ≡ n
