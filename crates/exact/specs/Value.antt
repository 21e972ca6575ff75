-- What `dot` is given and the sum that it gives. Definitions only.
use Rattle.std.specs.Prelude.{cond, Option, Some, None, List, ℕ, ◌+◌, ◌*◌, ◌^◌, ◌<◌, ◌≤◌, ℤ, pos, nat_abs, ◌*ℤ◌, length, get_or}
use Rattle.rounding.specs.Integers.{is_i64}
use Rattle.lists.specs.Sums.{sum_of}

-- the dot product of n integers of left, from first on, with a column of an n·n matrix that lies row by row
abbrev pub products : ℕ → List ℤ → ℕ → List ℤ → ℕ → ℤ
products n left first matrix column = sum_of n (λ k. get_or left (first + k) (pos 0) *ℤ get_or matrix (k * n + column) (pos 0))

-- no entry is larger than 2^52 in magnitude
abbrev pub Bounded : List ℤ → Type 0
Bounded matrix = (k : ℕ) → k < length matrix → nat_abs (get_or matrix k (pos 0)) ≤ 2 ^ 52

-- an integer, where it is an i64
abbrev pub exact_of : ℤ → Option ℤ
exact_of z = cond (is_i64 z) (Some z) None
