-- The children of a level as a list, and the order in which a zigzag tries the integers. Definitions only.
use Rattle.std.specs.Prelude.{ℕ, zero, suc, ◌+◌, ◌/◌, ◌%◌, ◌^◌, Bool, ◌&&◌, cond, List, [], ◌∷◌, eqb, ℤ, pos, ◌+ℤ◌, ◌-ℤ◌, Float}
use Rattle.std.specs.Bool.{beq}
use Rattle.std.specs.Float.Ieee.{le, of_int}
use Rattle.rounding.specs.Integers.{to_double, round_away, is_i64}
use Rattle.definitions.specs.Distance.{term}
use Rattle.definitions.specs.Zigzag.{Next, child, none, Start, open_level, no_children, start, next}
use Rattle.theorems.specs.Counting.{eq_z, tally}

-- ---- the children that a generator hands out, up to so many
unfoldable pub children_from : ℕ → Next → List ℤ
unfolding next
children_from zero x = []
children_from (suc fuel) (none g) = []
children_from (suc fuel) (child z g) = z ∷ children_from fuel (next g)

-- no step after this one can try an i64
unfoldable pub step_limit : ℕ
step_limit = 2 ^ 65

unfoldable pub children_of : Start → List ℤ
unfolding children_from step_limit next
children_of no_children = []
children_of (open_level g) = children_from (suc (suc step_limit)) (next g)

-- the children of a level, of its centre, what remained and its weight
unfoldable pub children : Float → Float → Float → List ℤ
unfolding children_of start
children c remaining w = children_of (start c remaining w)

-- ---- zigzag order
-- whether step s goes up: the odd steps do where c ≥ m, elsewhere the even ones
unfoldable pub upward_at : Float → ℕ → Bool
unfolding round_away le of_int
upward_at c s = beq (eqb (s % 2) 1) (le (to_double (round_away c)) c)

-- the integer of step s, which is m for s = 0
unfoldable pub zigzag_at : Float → ℕ → ℤ
unfolding round_away upward_at
zigzag_at c s = cond (upward_at c s) (round_away c +ℤ pos ((s + 1) / 2)) (round_away c -ℤ pos ((s + 1) / 2))

-- an i64 whose term is at most `remaining`
unfoldable pub is_child : Float → Float → Float → ℤ → Bool
unfolding term le
is_child c remaining w z = is_i64 z && le (term w c z) remaining

-- of the steps s, s + 1, .., so many, the integers that pass
unfoldable pub passing_from : (ℤ → Bool) → (ℕ → ℤ) → ℕ → ℕ → List ℤ
passing_from test at zero s = []
passing_from test at (suc k) s = let rest = passing_from test at k (suc s) in cond (test (at s)) (at s ∷ rest) rest

-- ---- how often z stands in a list
abbrev pub times : ℤ → List ℤ → ℕ
times z [] = 0
times z (y ∷ ys) = tally (eq_z z y) + times z ys
