-- What is promised of the two searches of a job and of its ratio: what the calls promise, in the slices that the job lends. Definitions only.
use Rattle.std.specs.Prelude.{◌≡◌, List, ◌*◌, replicate, ℤ, pos, Float}
use Rattle.definitions.specs.Table.{dimension, plus_zero}
use Rattle.definitions.specs.Calls.{found, NearestPoint, nearest_output, ListAnswer, list_distances, list_points}
use Rattle.definitions.specs.JobLayout.{Job}
use Rattle.definitions.specs.Settings.{FactorsInRange}
use Rattle.definitions.specs.JobText.{job_nearest, job_list}
use Rattle.theorems.specs.Ordered.{BeginsAt}
use Rattle.theorems.specs.Promises.{NearestPromises, ListPromises}
use Rattle.theorems.specs.Ratios.{RatioPromises}

module _ (j : Job) where
  abbrev pub job_out : List ℤ
  job_out = replicate (dimension j.table) (pos 0)

  abbrev pub job_distances : List Float
  job_distances = replicate j.settings.places plus_zero

  abbrev pub job_points : List ℤ
  job_points = replicate (dimension j.table * j.settings.places) (pos 0)

  pub record JobPromises : Type 0 where
    pub nearest : NearestPromises j.table j.target job_out j.radius j.budget (job_nearest j) (nearest_output (job_nearest j) job_out)
    pub list : ListPromises j.table j.target job_distances job_points j.radius j.budget (job_list j) (list_distances (job_list j) job_distances) (list_points (job_list j) job_points)
    -- the verdict, at the job's own radius and by its own factors
    pub ratio : FactorsInRange j.settings.p j.settings.q → RatioPromises j.settings.p j.settings.q j.table j.target j.radius (job_list j)
    -- where both succeed, the list begins at the distance of the nearest line
    pub same_distance : (a : NearestPoint) (l : ListAnswer) → job_nearest j ≡ found a → job_list j ≡ found l → BeginsAt a.distance l.points
