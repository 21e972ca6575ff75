-- What the code's values stand for, and what `center` asks for. Definitions only.
use Rattle.std.specs.Prelude.{◌≡◌, cond, Result, Ok, Err, List, ℕ, ◌*◌, ◌≤◌, ◌<◌, length, Float}
use Rattle.std.specs.Float.Ieee.Scale.{finite}
use Rattle.distance.specs.declared.Overflow.{Overflow}

-- a sum that overflowed is no distance
abbrev pub distance_of : Float → Result Float Overflow
distance_of d = cond (finite d) (Ok d) (Err (record { total = d }))

-- n·n entries mu, and numbers for the levels from `level` + 1 to n - 1
pub record CenterReady (mu rest : List Float) (n level : ℕ) : Type 0 where
  pub small : n ≤ 64
  pub below : level < n
  pub square : length mu ≡ n * n
  pub fits : n ≤ length rest
