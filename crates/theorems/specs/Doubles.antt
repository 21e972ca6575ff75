-- Numbers that are doubles, as every number of the code is. Definitions only.
use Rattle.std.specs.Prelude.{Bool, true, ◌&&◌, List, [], ◌∷◌, Float}
use Rattle.std.specs.Float.{binary64}
use Rattle.std.specs.Float.Ieee.{fits}
use Rattle.definitions.specs.Table.{Table}

-- each is a value of binary64
unfoldable pub all_doubles : List Float → Bool
unfolding fits
all_doubles [] = true
all_doubles (x ∷ xs) = fits binary64 x && all_doubles xs

-- a table and a target of doubles
abbrev pub of_doubles : Table → List Float → Bool
of_doubles t target = all_doubles t.weights && (all_doubles t.mu && all_doubles target)
