-- The jobs that their bytes tell whole. Definitions only.
use Rattle.std.specs.Prelude.{ℕ, ◌^◌, ◌≤◌, ◌<◌, ◌≡◌, T}
use Rattle.std.specs.Float.{binary64}
use Rattle.std.specs.Float.Ieee.{fits}
use Rattle.definitions.specs.Table.{dimension, entry, plus_zero, largest_dimension}
use Rattle.definitions.specs.Shapes.{Shaped}
use Rattle.definitions.specs.JobLayout.{Job}
use Rattle.theorems.specs.Doubles.{of_doubles}

pub record Encodable (job : Job) : Type 0 where
  pub shape : Shaped largest_dimension job.table.weights job.table.mu job.target
  -- mu's entries that are not read are plus zero
  pub unread : (j i : ℕ) → j ≤ i → i < dimension job.table → entry (dimension job.table) job.table.mu j i ≡ plus_zero
  pub doubles : T (of_doubles job.table job.target)
  pub radius_double : T (fits binary64 job.radius)
  pub budget_small : job.budget < 2 ^ 64
  pub p_small : job.settings.p < 2 ^ 64
  pub q_small : job.settings.q < 2 ^ 64
  pub places_small : job.settings.places < 2 ^ 64
