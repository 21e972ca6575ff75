-- Between doubles and signed 64-bit integers: docs/SPECIFICATION.md, "Rounding". Definitions only.
use Rattle.std.specs.Prelude.{ℕ, ◌+◌, ◌-◌, ◌*◌, ◌/◌, ◌^◌, min, Bool, cond, ℤ, pos, neg_ℤ, nat_lt, Float}
use Rattle.std.specs.Int.Signed.{mag}
use Rattle.std.specs.Float.{nan, inf, fin, binary64}
use Rattle.std.specs.Float.Ieee.{up, down, of_int}

-- z is a signed 64-bit integer
abbrev pub is_i64 : ℤ → Bool
is_i64 z = nat_lt (mag z) (2 ^ 63)

-- the whole number nearest to m * 2 ^ e, a half upward
abbrev pub nearest_whole : ℕ → ℤ → ℕ
nearest_whole m e = (m * up e * 2 + down e) / (down e * 2)

-- `round_away`: the nearest integer, of two equally near ones that with the larger magnitude; beyond i64 its nearer end; 0 for a NaN
unfoldable pub round_away : Float → ℤ
round_away nan = pos 0
round_away (inf s) = cond s (neg_ℤ (pos (2 ^ 63))) (pos (2 ^ 63 - 1))
round_away (fin s m e) = cond s (neg_ℤ (pos (min (nearest_whole m e) (2 ^ 63)))) (pos (min (nearest_whole m e) (2 ^ 63 - 1)))

-- the double nearest to an integer, ties to even; it is exact up to 2^53 in magnitude
abbrev pub to_double : ℤ → Float
to_double z = of_int binary64 z
