-- What `map_point` tells and writes. Definitions only.
use Rattle.std.specs.Prelude.{◌≡◌, ⊤, Result, List, ℕ, ℤ}
use Rattle.definitions.specs.Checks.{pass}
use Rattle.definitions.specs.Prepared.{mapped_point, mapped_range_check}
use Rattle.refusals.specs.Numbers.{verdict}
use Rattle.refusals.specs.declared.Refusal.{Refusal}

pub record Mapped (n : ℕ) (transform point : List ℤ) (r : Result ⊤ Refusal) (mapped' : List ℤ) : Type 0 where
  -- 24 with its column, or a pass
  pub tells : verdict r ≡ mapped_range_check n transform point
  -- after a pass the whole point is written
  pub writes : verdict r ≡ pass → mapped' ≡ mapped_point n transform point
