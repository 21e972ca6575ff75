-- The residuals that stand beside the coordinates, and a centre as their sum. Definitions only.
use Rattle.std.specs.Prelude.{ℕ, suc, ◌+◌, List, [], ◌∷◌, ℤ, Float}
use Rattle.std.specs.Float.{binary64}
use Rattle.std.specs.Float.Ieee.{sub, of_int}
use Rattle.rounding.specs.Integers.{to_double}
use Rattle.lists.specs.Places.{places}
use Rattle.definitions.specs.Seeds.{sum_from}
use Rattle.definitions.specs.Table.{Table, dimension, coordinate}

-- target[j] - z[j] from level j up, the list being the coordinates from j up
unfoldable pub residuals : List Float → ℕ → List ℤ → List Float
unfolding sub of_int
residuals target j [] = []
residuals target j (z ∷ zs) = sub binary64 (coordinate target j) (to_double z) ∷ residuals target (suc j) zs

-- a level's centre from an array of residuals
abbrev pub center_sum : Table → List Float → List Float → ℕ → Float
center_sum t target rest level = sum_from (dimension t) t.mu level (level + 1) (places (dimension t) (level + 1) rest) (coordinate target level)
