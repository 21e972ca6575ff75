-- The computed distance of an integer vector from a target: docs/SPECIFICATION.md, "Distance". Definitions only.
-- Coordinates are written from a level k up to level n - 1, the lowest level first: `z ∷ zs` is the coordinate of level k and those above it.
-- So k is n less the number of coordinates, and a vector of n coordinates begins with coordinate 0.
use Rattle.std.specs.Prelude.{ℕ, suc, ◌-◌, Bool, List, [], ◌∷◌, length, ℤ, Float}
use Rattle.std.specs.Float.{binary64}
use Rattle.std.specs.Float.Ieee.{add, sub, mul, of_int}
use Rattle.std.specs.Float.Ieee.Scale.{finite}
use Rattle.rounding.specs.Integers.{to_double}
use Rattle.definitions.specs.Table.{Table, dimension, weight, entry, coordinate, plus_zero}

-- c with the products (target[j] - z[j])·mu[j·n+level] added one by one, j rising to n - 1; zs are the coordinates from j on
unfoldable pub center_from : ℕ → List Float → List Float → ℕ → ℕ → List ℤ → Float → Float
unfolding add sub mul of_int
center_from n mu target level j [] c = c
center_from n mu target level j (z ∷ zs) c =
    center_from n mu target level (suc j) zs
    (add binary64 c (mul binary64 (sub binary64 (coordinate target j) (to_double z)) (entry n mu j level)))

-- the centre of a level, zs being the coordinates above it: target[level] with their products added
unfoldable pub center : Table → List Float → ℕ → List ℤ → Float
unfolding center_from
center t target level zs = center_from (dimension t) t.mu target level (suc level) zs (coordinate target level)

-- the term: (weight·d)·d, d being the centre less z
unfoldable pub term : Float → Float → ℤ → Float
unfolding sub mul of_int
term w c z = let d = sub binary64 c (to_double z) in mul binary64 (mul binary64 w d) d

-- the level of the coordinate that stands before zs
abbrev pub level_below : Table → List ℤ → ℕ
level_below t zs = dimension t - suc (length zs)

-- the term of the coordinate z below zs
unfoldable pub level_term : Table → List Float → ℤ → List ℤ → Float
unfolding term center
level_term t target z zs = term (weight t (level_below t zs)) (center t target (level_below t zs) zs) z

-- the partial sum: plus zero above level n - 1, and each level adds its term
unfoldable pub partial : Table → List Float → List ℤ → Float
unfolding level_term add
partial t target [] = plus_zero
partial t target (z ∷ zs) = add binary64 (partial t target zs) (level_term t target z zs)

-- the computed distance: the partial sum of a whole vector
abbrev pub distance : Table → List Float → List ℤ → Float
distance t target zs = partial t target zs

-- has a computed distance: the sum did not overflow
abbrev pub has_distance : Table → List Float → List ℤ → Bool
has_distance t target zs = finite (distance t target zs)
