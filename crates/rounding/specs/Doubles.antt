-- Small functions on doubles: Rust's `abs`, `max` and `total_cmp`. `is_finite` is the kit's `finite`. Definitions only.
use Prim.Native.Nat.{Ordering}
use Rattle.std.specs.Prelude.{Bool, false, cond, not, ◌&&◌, ◌||◌, Float}
use Rattle.std.specs.Float.{nan, inf, fin}
use Rattle.std.specs.Float.Ieee.{lt, eq, is_nan}

-- the sign bit; NaN has none here
abbrev pub negative : Float → Bool
negative nan = false
negative (inf s) = s
negative (fin s m e) = s

-- `abs`: the sign is dropped, minus zero's too
abbrev pub magnitude : Float → Float
magnitude nan = nan
magnitude (inf s) = inf false
magnitude (fin s m e) = fin false m e

-- `max`: the larger, the first where they are equal, and the other one where one is NaN
unfoldable pub larger : Float → Float → Float
unfolding lt is_nan
larger x y = cond (lt x y || is_nan x) y x

-- x stands before y in `total_cmp`'s order: by value, minus zero before plus zero, and NaN last. Rust tells NaNs apart by their bits; here there is one
unfoldable pub precedes : Float → Float → Bool
unfolding lt eq is_nan
precedes x y = lt x y || (eq x y && (negative x && not (negative y))) || (is_nan y && not (is_nan x))

unfoldable pub total_cmp : Float → Float → Ordering
unfolding precedes
total_cmp x y = cond (precedes x y) Ordering.lt (cond (precedes y x) Ordering.gt Ordering.eq)
