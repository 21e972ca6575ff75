-- The cases of `prepared_nearest_ml` in docs/SPECIFICATION.md, proved by evaluation of the definitions. Assumes nothing.
use mathlib.Core.Path.{◌≡◌, refl}
use Prim.Native.Nat.{ℕ, ◌+◌, ◌-◌, ◌^◌}
use mathlib.Core.Bool.{true, false}
use mathlib.Core.List.{List, [], ◌∷◌}
use lib.IntN.{ℤ, pos, negsuc}
use lib.Ieee.{Float, fin, nan}
use Rattle.definitions.specs.Table.{Table, plus_zero, one, coord_limit}
use Rattle.definitions.specs.Refusals.{length_mismatch, non_finite, budget_range, budget_exhausted, matrix_range, not_inverse, mapped_range}
use Rattle.definitions.specs.Calls.{Answer, found, refused, NearestPoint}
use Rattle.definitions.specs.Prepared.{prepared_nearest_ml}

-- ---- numbers and tables
abbrev quarter : Float
quarter = fin false 1 (negsuc 1)

abbrev half : Float
half = fin false 1 (negsuc 0)

abbrev minus_half : Float
minus_half = fin true 1 (negsuc 0)

abbrev out1 : List ℤ
out1 = pos 9 ∷ []

abbrev out2 : List ℤ
out2 = pos 9 ∷ pos 9 ∷ []

abbrev table1 : Table
table1 = record { weights = one ∷ []; mu = nan ∷ [] }

-- weights 1, with this mu(1, 0)
abbrev table2 : Float → Table
table2 m = record { weights = one ∷ one ∷ []; mu = nan ∷ nan ∷ m ∷ nan ∷ [] }

abbrev shear : ℤ → ℤ → List ℤ
shear k last = pos 1 ∷ k ∷ pos 0 ∷ last ∷ []

-- not symmetric: case G's target comes of 1.25, 1.75, and its point [0, 1] goes to [2, 3]
abbrev forward : List ℤ
forward = pos 1 ∷ pos 1 ∷ pos 2 ∷ pos 3 ∷ []

abbrev backward : List ℤ
backward = pos 3 ∷ negsuc 0 ∷ negsuc 1 ∷ pos 1 ∷ []

abbrev transposed : List ℤ
transposed = pos 3 ∷ negsuc 1 ∷ negsuc 0 ∷ pos 1 ∷ []

abbrev target_g : List Float
target_g = fin false 5 (negsuc 1) ∷ fin false 7 (negsuc 1) ∷ []

abbrev case_g : List ℤ → List ℤ → ℕ → Answer NearestPoint
case_g transform inverse budget = prepared_nearest_ml (table2 half) transform inverse target_g out2 budget

-- the reduced points are [-2^51, 0] and [-2^51, 1], by ties at 1/4
abbrev far : List ℤ → Float → Answer NearestPoint
far matrix last = prepared_nearest_ml (table2 coord_limit) matrix matrix (plus_zero ∷ last ∷ []) out2 100

-- 2^12, 2^52 and the next
abbrev small : ℤ
small = pos (2 ^ 12)

abbrev limit : ℤ
limit = pos (2 ^ 52)

abbrev beyond : ℤ
beyond = pos (2 ^ 52 + 1)

abbrev single : List ℤ → List ℤ → List Float → Answer NearestPoint
single transform inverse target = prepared_nearest_ml table1 transform inverse target out1 100

-- weights 1 and mu 0, n = 3: the first column of the transformed target is 2^52 + 0.5 - 2^52, summed in this order
abbrev table3 : Table
table3 = record { weights = one ∷ one ∷ one ∷ []; mu = nan ∷ nan ∷ nan ∷ plus_zero ∷ nan ∷ nan ∷ plus_zero ∷ plus_zero ∷ nan ∷ [] }

abbrev rising : Answer NearestPoint
rising =
    prepared_nearest_ml table3 (pos 1 ∷ pos 0 ∷ pos 0 ∷ negsuc 0 ∷ pos 1 ∷ pos 0 ∷ pos 1 ∷ pos 0 ∷ pos 1 ∷ []) (pos 1 ∷ pos 0 ∷ pos 0 ∷ pos 1 ∷ pos 1 ∷ pos 0 ∷ negsuc 0 ∷ pos 0 ∷ pos 1 ∷ [])
    (coord_limit ∷ half ∷ coord_limit ∷ []) (pos 9 ∷ pos 9 ∷ pos 9 ∷ []) 100

-- 3 times 1 + 2^-52 is rounded before it is added to 3
abbrev product : Answer NearestPoint
product =
    prepared_nearest_ml (table2 plus_zero) (pos 1 ∷ pos 0 ∷ pos 3 ∷ pos 1 ∷ []) (pos 1 ∷ pos 0 ∷ negsuc 2 ∷ pos 1 ∷ [])
    (fin false 3 (pos 0) ∷ fin false (2 ^ 52 + 1) (negsuc 51) ∷ []) out2 100

-- ---- the calls
abbrev prepared_cases : List (Answer NearestPoint)
prepared_cases =
    case_g forward backward 100
    ∷ case_g forward backward 2
    ∷ case_g forward transposed 100
    ∷ case_g backward forward 100
    ∷ far (shear small (negsuc 0)) half
    ∷ far (shear small (negsuc 0)) minus_half
    ∷ far (shear limit (negsuc 0)) half
    ∷ prepared_nearest_ml (table2 plus_zero) (shear (negsuc 0) (pos 1)) (shear (pos 1) (pos 1)) (coord_limit ∷ coord_limit ∷ []) out2 (2 ^ 61)
    ∷ prepared_nearest_ml (table2 plus_zero) (shear (negsuc 0) (pos 1)) (shear (pos 1) (pos 1)) (plus_zero ∷ plus_zero ∷ []) out2 (2 ^ 61)
    ∷ single (pos 274177 ∷ []) (pos 67280421310721 ∷ []) (plus_zero ∷ [])
    ∷ single (pos 1 ∷ pos 0 ∷ []) (pos 1 ∷ []) []
    ∷ single (beyond ∷ []) (pos 1 ∷ []) []
    ∷ single (pos 1 ∷ []) (negsuc (2 ^ 63 - 1) ∷ []) []
    ∷ single (pos 2 ∷ []) (pos 1 ∷ []) []
    ∷ single (negsuc 0 ∷ []) (negsuc 0 ∷ []) []
    ∷ single (negsuc 0 ∷ []) (negsuc 0 ∷ []) (nan ∷ [])
    ∷ single (negsuc 0 ∷ []) (negsuc 0 ∷ []) (quarter ∷ [])
    ∷ prepared_nearest_ml table1 (pos 1 ∷ []) (pos 1 ∷ []) (plus_zero ∷ plus_zero ∷ []) [] 100
    ∷ rising
    ∷ product
    ∷ prepared_nearest_ml (record { weights = []; mu = [] }) [] [] [] [] 0
    ∷ []

-- what each gives
abbrev prepared_answers : List (Answer NearestPoint)
prepared_answers =
    found (record { nodes = 3; distance = quarter; point = pos 2 ∷ pos 3 ∷ [] })
    ∷ refused (budget_exhausted 2 quarter)
    ∷ refused not_inverse
    ∷ found (record { nodes = 5; distance = quarter; point = pos 3 ∷ pos 1 ∷ [] })
    ∷ found (record { nodes = 4; distance = quarter; point = negsuc (2 ^ 51 - 1) ∷ negsuc (2 ^ 63 - 1) ∷ [] })
    ∷ refused (mapped_range 1)
    ∷ refused (mapped_range 1)
    ∷ refused (non_finite 1)
    ∷ refused (budget_range (2 ^ 61))
    ∷ refused not_inverse
    ∷ refused (matrix_range 0)
    ∷ refused (matrix_range 0)
    ∷ refused (matrix_range 1)
    ∷ refused not_inverse
    ∷ refused (length_mismatch 1 0)
    ∷ refused (non_finite 0)
    ∷ found (record { nodes = 1; distance = fin false 1 (negsuc 3); point = pos 0 ∷ [] })
    ∷ refused (length_mismatch 1 2)
    ∷ found (record { nodes = 5; distance = quarter; point = limit ∷ pos 0 ∷ limit ∷ [] })
    ∷ found (record { nodes = 2; distance = fin false 17 (negsuc 103); point = pos 3 ∷ pos 1 ∷ [] })
    ∷ found (record { nodes = 0; distance = plus_zero; point = [] })
    ∷ []

pub prepared_cases_lem : prepared_cases ≡ prepared_answers
unfolding prepared_nearest_ml
prepared_cases_lem = refl
