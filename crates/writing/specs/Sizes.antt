-- The most bytes of each text. Definitions only.
use Rattle.std.specs.Prelude.{ℕ, ◌+◌, ◌*◌}

-- of a u64
abbrev pub decimal_size : ℕ
decimal_size = 20

-- with a minus before it
abbrev pub signed_decimal_size : ℕ
signed_decimal_size = 1 + decimal_size

-- of a double's bits
abbrev pub hexadecimal_size : ℕ
hexadecimal_size = 16

-- of a point's coordinates, each after a blank
abbrev pub point_size : ℕ → ℕ
point_size n = (1 + signed_decimal_size) * n

-- "layout", "search"
abbrev pub group_size : ℕ
group_size = 6

-- of a refusal's line after its word: " refused ", the number, a blank, the group, the line's end
abbrev pub refusal_size : ℕ
refusal_size = 9 + decimal_size + 1 + group_size + 1
