-- Every job that bytes are read as has what its two searches and its ratio promise. Assumes nothing.
use mathlib.Core.Path.{◌≡◌}
use mathlib.Core.Logic.{inl}
use mathlib.Core.List.{List}
use Prim.Native.Nat.{ℕ}
use lib.Dec.{T}
use lib.Ieee.{binary64, fits}
use Rattle.definitions.specs.Calls.{nearest_output}
use Rattle.definitions.specs.JobLayout.{Job, job, job_of}
use Rattle.definitions.specs.JobText.{job_nearest}
use Rattle.theorems.specs.Doubles.{of_doubles}
use Rattle.theorems.specs.Promises.{NearestPromises}
use Rattle.theorems.specs.JobCalls.{job_out, job_distances, job_points, JobPromises}
use Rattle.theorems.proofs.Promises.{nearest_promises, list_promises}
use Rattle.theorems.proofs.Ratios.{list_ratio_lem}
use Rattle.theorems.proofs.JobDoubles.{job_doubles, job_small}

pub job_promises : (input : List ℕ) (j : Job) → job_of input ≡ job j → JobPromises j
job_promises input j read =
    record {
      nearest = promises;
      list = list_promises j.table j.target (job_distances j) (job_points j) j.radius j.budget doubles.0 doubles.1;
      ratio = λ range. list_ratio_lem j.settings.p j.settings.q range j.table j.target (job_distances j) (job_points j) j.radius j.budget doubles.0 doubles.1 (inl (job_small input j read));
      same_distance = λ a l q e. promises.list_first (job_small input j read) a q (job_distances j) (job_points j) j.budget l e;
    }
  where
    doubles : T (of_doubles j.table j.target) × T (fits binary64 j.radius)
    doubles = job_doubles input j read

    promises : NearestPromises j.table j.target (job_out j) j.radius j.budget (job_nearest j) (nearest_output (job_nearest j) (job_out j))
    promises = nearest_promises j.table j.target (job_out j) j.radius j.budget doubles.0 doubles.1
