-- The candidate of `nearest_ml`: the room that it is made in, its checks, and the search behind them. Definitions only.
use Rattle.std.specs.Prelude.{◌≡◌, List, [], ◌∷◌, ℕ, length, ℤ, Float}
use Rattle.definitions.specs.Table.{Table, dimension, largest_dimension}
use Rattle.definitions.specs.Shapes.{ShapedOut}
use Rattle.definitions.specs.Seeds.{widened}
use Rattle.definitions.specs.Checks.{Verdict, first_refusal, candidate_distance_check, widened_radius_check}
use Rattle.definitions.specs.Calls.{Answer, after, NearestPoint, ml_radius, widened_search}

-- n places for the coefficients and for the point, beside a table and a target
pub record CandidateShaped (weights mu target coefficients : List Float) (point : List ℤ) : Type 0 where
  pub shape : ShapedOut largest_dimension weights mu target point
  pub coefficients_length : length coefficients ≡ length weights

-- 11 and 13, the radius being the candidate's distance
abbrev pub total_checks : ℕ → Float → List Verdict
total_checks n R = candidate_distance_check R ∷ widened_radius_check (widened n R) ∷ []

-- `nearest_ml` behind 2 to 7 and 9: these, then the search at the widened radius
abbrev pub ml_search : Table → List Float → ℕ → Answer NearestPoint
ml_search t target budget = after (first_refusal (total_checks (dimension t) (ml_radius t target))) (widened_search t target (ml_radius t target) budget)
