-- A table: n weights and n·n entries mu. The target stands apart. Definitions only.
use Rattle.std.specs.Prelude.{ℕ, ◌+◌, ◌*◌, ◌^◌, List, length, get_or, pos, true, false, Float}
use Rattle.std.specs.Float.{nan, fin}

-- the two slices of a table
pub record Table : Type 0 where
  pub weights : List Float
  pub mu : List Float

abbrev pub table : List Float → List Float → Table
table weights mu = record { weights = weights; mu = mu }

-- n
abbrev pub dimension : Table → ℕ
dimension t = length t.weights

-- weight[level]
abbrev pub weight : Table → ℕ → Float
weight t level = get_or t.weights level nan

-- mu(j, i), which is mu[j·n+i]
abbrev pub entry : ℕ → List Float → ℕ → ℕ → Float
entry n mu j i = get_or mu (j * n + i) nan

-- target[level]
abbrev pub coordinate : List Float → ℕ → Float
coordinate target level = get_or target level nan

-- plus zero, minus zero, 1, and 2^52, which is `COORD_LIMIT`
abbrev pub plus_zero : Float
plus_zero = fin false 0 (pos 0)

abbrev pub minus_zero : Float
minus_zero = fin true 0 (pos 0)

abbrev pub one : Float
one = fin false 1 (pos 0)

abbrev pub coord_limit : Float
coord_limit = fin false 1 (pos 52)

-- the largest n of a job and of every call but `nearest`, `list` and `epochs`, and of the walk without running centres
abbrev pub largest_dimension : ℕ
largest_dimension = 23

-- the largest n of `nearest`, `list` and `epochs`
abbrev pub largest_searched : ℕ
largest_searched = 64

-- the largest budget
abbrev pub largest_budget : ℕ
largest_budget = 2 ^ 60

-- the most places that a list is lent
abbrev pub largest_list : ℕ
largest_list = 4096

-- the most targets of one call
abbrev pub largest_count : ℕ
largest_count = 64
