-- What the functions that write a part of the text ask for. Definitions only.
use Rattle.std.specs.Prelude.{◌≡◌, Result, IfOk, List, ℕ, ◌+◌, ◌*◌, ◌≤◌, length, ℤ, Float}
use Rattle.definitions.specs.Table.{largest_dimension}
use Rattle.definitions.specs.Checks.{pass}
use Rattle.definitions.specs.Settings.{settings_check}
use Rattle.reading.specs.declared.Job.{Job}
use Rattle.reading.specs.declared.LayoutFault.{LayoutFault}
use Rattle.reading.specs.View.{JobShape, settings_read}
use Rattle.job_answer.specs.Sizes.{output_size}

-- room for more behind a text, and a count within its limit
pub record Room (text : List ℕ) (size count limit : ℕ) : Type 0 where
  pub room : length text + size ≤ output_size
  pub few : count ≤ limit

-- room for more, and k points of n coordinates in the slices
pub record LinesRoom (text : List ℕ) (size n k : ℕ) (distances : List Float) (points : List ℤ) : Type 0 where
  pub room : length text + size ≤ output_size
  pub small : n ≤ largest_dimension
  pub few_distances : k ≤ length distances
  pub few_points : k * n ≤ length points

-- room for more, and what `read` gives
pub record LayoutRoom (text : List ℕ) (size : ℕ) (r : Result Job LayoutFault) : Type 0 where
  pub room : length text + size ≤ output_size
  pub shape : IfOk r JobShape

-- room for more, and a job as `read` gives it
pub record JobRoom (text : List ℕ) (size : ℕ) (j : Job) : Type 0 where
  pub room : length text + size ≤ output_size
  pub shape : JobShape j

-- and settings that pass their check
pub record ListRoom (text : List ℕ) (size : ℕ) (j : Job) : Type 0 where
  pub room : length text + size ≤ output_size
  pub shape : JobShape j
  pub settings : settings_check (settings_read j.settings) ≡ pass
