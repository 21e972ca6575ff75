-- `round`, `nearest_plane` and the widened radius: docs/SPECIFICATION.md, "Seeds". Definitions only.
use Rattle.std.specs.Prelude.{ℕ, zero, suc, ◌*◌, List, [], ◌∷◌, map, false, ℤ, pos, negsuc, Float}
use Rattle.std.specs.Float.{fin, binary64}
use Rattle.std.specs.Float.Ieee.{add, sub, mul, of_int}
use Rattle.rounding.specs.Integers.{to_double, round_away}
use Rattle.rounding.specs.Doubles.{larger}
use Rattle.definitions.specs.Table.{Table, dimension, entry, coordinate, one}

-- `round`: each coefficient by `round_away`
abbrev pub rounded : List Float → List ℤ
rounded coefficients = map round_away coefficients

-- a sum with the products of coefficient j and mu[j·n+i] added one by one, j rising to n - 1; the list has the coefficients from j on
unfoldable pub sum_from : ℕ → List Float → ℕ → ℕ → List Float → Float → Float
unfolding add mul
sum_from n mu i j [] sum = sum
sum_from n mu i j (a ∷ rest) sum = sum_from n mu i (suc j) rest (add binary64 sum (mul binary64 a (entry n mu j i)))

-- what `nearest_plane` has for the levels done, the lowest first: their integers, and what is left in their coefficients
pub record Plane : Type 0 where
  pub point : List ℤ
  pub left : List Float

-- level i: its integer is `round_away` of coefficient i with the products added, and what is left is coefficient i less that integer
unfoldable pub plane_level : Table → List Float → ℕ → Plane → Plane
unfolding sum_from round_away sub of_int
plane_level t coefficients i s =
    let z = round_away (sum_from (dimension t) t.mu i (suc i) s.left (coordinate coefficients i)) in
    record { point = z ∷ s.point; left = sub binary64 (coordinate coefficients i) (to_double z) ∷ s.left }

-- the levels below i, downward
unfoldable pub plane_levels : Table → List Float → ℕ → Plane → Plane
unfolding plane_level
plane_levels t coefficients zero s = s
plane_levels t coefficients (suc i) s = plane_levels t coefficients i (plane_level t coefficients i s)

-- `nearest_plane`: all levels, the highest first
unfoldable pub nearest_plane : Table → List Float → Plane
unfolding plane_levels
nearest_plane t coefficients = plane_levels t coefficients (dimension t) (record { point = []; left = [] })

-- the widened radius: radius + (2^-52·max(radius, 1))·4n, each operation rounded in this order
unfoldable pub widened : ℕ → Float → Float
unfolding add mul larger of_int
widened n R =
    add binary64 R (mul binary64 (mul binary64 (fin false 1 (negsuc 51)) (larger R one)) (to_double (pos (4 * n))))
