-- The call behind the checks of what it is given. Definitions only.
use Rattle.std.specs.Prelude.{List, ℕ, ℤ, Float}
use Rattle.definitions.specs.Table.{Table, dimension}
use Rattle.definitions.specs.Checks.{first_refusal}
use Rattle.definitions.specs.Calls.{Answer, after, NearestPoint, ml_radius, widened_search}
use Rattle.definitions.specs.Prepared.{transformed_checks, mapped_answer}

-- the checks at the transformed target, then the search there with its point mapped
abbrev pub searched_at : Table → List ℤ → List Float → ℕ → Answer NearestPoint
searched_at t transform transformed budget =
    after (first_refusal (transformed_checks t transformed budget)) (mapped_answer (dimension t) transform (widened_search t transformed (ml_radius t transformed) budget))
