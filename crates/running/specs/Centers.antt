-- The running centres as they lie in the lent arrays, and what the functions that change them ask for and leave. Definitions only.
use Rattle.std.specs.Prelude.{ℕ, ◌*◌, ◌≤◌, ◌<◌, ◌≡◌, List, ℤ, length, take, set, Float}
use Rattle.rounding.specs.Integers.{to_double}
use Rattle.definitions.specs.Table.{Table, dimension, largest_searched}
use Rattle.definitions.specs.Running.{Running, add_rows, update_centers}

-- the first n places of each array
abbrev pub running_of : ℕ → List ℤ → List Float → Running
running_of n point centers = record { point = take n point; centers = take n centers }

-- n·n entries mu for a target of n numbers, and as many places for the centres
pub record InitializeReady (mu target centers : List Float) : Type 0 where
  pub small : length target ≤ largest_searched
  pub square : length mu ≡ length target * length target
  pub centers_length : length centers ≡ length target

-- the centres where every coordinate is 0
abbrev pub start_centers : List Float → List Float → List Float
start_centers mu target = add_rows (length target) mu target (length target) target

-- a level of the table, and the integer's double
pub record UpdateReady (t : Table) (point : List ℤ) (centers : List Float) (level : ℕ) (z : ℤ) (value : Float) : Type 0 where
  pub small : dimension t ≤ largest_searched
  pub square : length t.mu ≡ dimension t * dimension t
  pub below : level < dimension t
  pub point_length : length point ≡ largest_searched
  pub centers_length : length centers ≡ largest_searched
  pub value_is : value ≡ to_double z

-- what `update_centers` leaves, with '
pub record Updated (t : Table) (level : ℕ) (z : ℤ) (point point' : List ℤ) (centers centers' : List Float) : Type 0 where
  pub updates : running_of (dimension t) point' centers' ≡ update_centers t level z (running_of (dimension t) point centers)
  pub point_is : point' ≡ set point level z
  pub point_length : length point' ≡ largest_searched
  pub centers_length : length centers' ≡ largest_searched
