-- Which inputs each call accepts: those of which no refusal's words hold, with every limit as a number. Definitions only.
use Rattle.std.specs.Prelude.{◌≡◌, false, not, List, ℕ, ◌*◌, ◌^◌, ◌≤◌, ◌<◌, T, length, ℤ, pos, Float}
use Rattle.std.specs.Float.{fin}
use Rattle.std.specs.Float.Ieee.{lt}
use Rattle.std.specs.Float.Ieee.Scale.{finite}
use Rattle.rounding.specs.Doubles.{magnitude}
use Rattle.definitions.specs.Table.{Table, dimension, weight, entry, coordinate, plus_zero}
use Rattle.definitions.specs.Distance.{distance}
use Rattle.definitions.specs.Seeds.{widened}
use Rattle.definitions.specs.Checks.{handed_on}
use Rattle.definitions.specs.Calls.{ml_radius}

-- 3 and 4 of an entry, 7 of a target: finite, and not above 2^52 in magnitude
pub record Bounded (x : Float) : Type 0 where
  pub is_finite : T (finite x)
  pub most : T (not (lt (fin false 1 (pos 52)) (magnitude x)))

-- 5: finite and above 0
pub record Positive (x : Float) : Type 0 where
  pub is_finite : T (finite x)
  pub above : T (lt plus_zero x)

-- 2 to 5, the largest n being given
pub record TableAccepted (largest : ℕ) (t : Table) : Type 0 where
  pub few : dimension t ≤ largest
  pub square : length t.mu ≡ dimension t * dimension t
  pub entries : (j i : ℕ) → i < j → j < dimension t → Bounded (entry (dimension t) t.mu j i)
  pub weights : (i : ℕ) → i < dimension t → Positive (weight t i)

-- with 6 and 7 of the target
pub record TargetAccepted (largest : ℕ) (t : Table) (target : List Float) : Type 0 where
  pub table : TableAccepted largest t
  pub target_length : length target ≡ dimension t
  pub targets : (i : ℕ) → i < dimension t → Bounded (coordinate target i)

-- and 6 of an output, or of a point that is given
pub record SearchAccepted (largest : ℕ) (t : Table) (target : List Float) (out : List ℤ) : Type 0 where
  pub table_target : TargetAccepted largest t target
  pub output_length : length out ≡ dimension t

-- 8 and 9
pub record RadiusAccepted (radius : Float) (budget : ℕ) : Type 0 where
  pub is_finite : T (finite radius)
  pub not_negative : T (not (lt radius plus_zero))
  pub budget_most : budget ≤ 2 ^ 60

-- `nearest`
pub record NearestAccepted (t : Table) (target : List Float) (out : List ℤ) (radius : Float) (budget : ℕ) : Type 0 where
  pub search : SearchAccepted 64 t target out
  pub within : RadiusAccepted radius budget

-- `nearest_seeded`: 10 to 13 beside, of the radius that 8 hands on
pub record SeededAccepted (t : Table) (target : List Float) (out candidate : List ℤ) (radius : Float) (budget : ℕ) : Type 0 where
  pub search : SearchAccepted 23 t target out
  pub within : RadiusAccepted radius budget
  pub candidate_length_lem : length candidate ≡ dimension t
  pub candidate_finite : T (finite (distance t target candidate))
  pub candidate_inside : T (not (lt (handed_on radius) (distance t target candidate)))
  pub widened_finite : T (finite (widened (dimension t) (handed_on radius)))

-- `nearest_ml`: without a radius of its own
pub record MlAccepted (t : Table) (target : List Float) (out : List ℤ) (budget : ℕ) : Type 0 where
  pub search : SearchAccepted 23 t target out
  pub budget_most : budget ≤ 2 ^ 60
  pub candidate_finite : T (finite (ml_radius t target))
  pub widened_finite : T (finite (widened (dimension t) (ml_radius t target)))

-- `list`: 14 beside, and no output
pub record ListAccepted (t : Table) (target distances : List Float) (points : List ℤ) (radius : Float) (budget : ℕ) : Type 0 where
  pub table_target : TargetAccepted 64 t target
  pub within : RadiusAccepted radius budget
  pub places_most : length distances ≤ 4096
  pub points_length : length points ≡ dimension t * length distances

-- `round`
pub record RoundAccepted (coefficients : List Float) (out : List ℤ) : Type 0 where
  pub output_length : length out ≡ length coefficients
  pub coefficients_finite : (i : ℕ) → i < length coefficients → T (finite (coordinate coefficients i))

-- `nearest_plane`
pub record PlaneAccepted (t : Table) (coefficients : List Float) (out : List ℤ) : Type 0 where
  pub table : TableAccepted 23 t
  pub coefficients_length : length coefficients ≡ dimension t
  pub output_length : length out ≡ dimension t
  pub coefficients_finite : (i : ℕ) → i < dimension t → T (finite (coordinate coefficients i))

-- `distance` of a point: 11 beside what a search asks for
pub record DistanceAccepted (t : Table) (target : List Float) (point : List ℤ) : Type 0 where
  pub search : SearchAccepted 23 t target point
  pub sum_finite : T (finite (distance t target point))
