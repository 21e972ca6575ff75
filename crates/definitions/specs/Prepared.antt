-- A search in the receiver's coordinates, over a table of reduced ones: docs/SPECIFICATION.md, "Prepared". The lent matrices, the target and the point in the other coordinates, and the call. Definitions only.
use Rattle.std.specs.Prelude.{ℕ, zero, suc, ◌+◌, ◌*◌, ◌^◌, Bool, true, not, ◌&&◌, cond, List, [], ◌∷◌, ◌++◌, map, ltb, eqb, length, get_or, ℤ, pos, nat_abs, ◌*ℤ◌, Float}
use Rattle.std.specs.Float.{binary64}
use Rattle.std.specs.Float.Ieee.{add, mul, of_int}
use Rattle.rounding.specs.Integers.{is_i64, to_double}
use Rattle.lists.specs.Sums.{sum_of}
use Rattle.definitions.specs.Table.{Table, dimension, coordinate, plus_zero, largest_dimension}
pub use Rattle.definitions.specs.Running.{same_integer}
use Rattle.definitions.specs.Seeds.{widened}
use Rattle.definitions.specs.Refusals.{matrix_range, not_inverse, mapped_range}
use Rattle.definitions.specs.Checks.{Verdict, first_refusal, refuse_if, refuse_at_first, count_from, table_checks, target_check, budget_check, candidate_distance_check, widened_radius_check}
use Rattle.definitions.specs.Calls.{Answer, found, refused, after, NearestPoint, target_checks, ml_radius, widened_search}

-- ---- the matrices, n·n integers each, row by row

-- m[row, column], which is m[row·n+column]
abbrev pub element : ℕ → List ℤ → ℕ → ℕ → ℤ
element n m row column = get_or m (row * n + column) (pos 0)

-- each number below n passes the test
unfoldable pub each_below : ℕ → (ℕ → Bool) → Bool
each_below zero test = true
each_below (suc k) test = each_below k test && test k

-- an element of the product a·b, in the whole numbers
abbrev pub product_element : ℕ → List ℤ → List ℤ → ℕ → ℕ → ℤ
product_element n a b row column = sum_of n (λ k. element n a row k *ℤ element n b k column)

-- an element of the identity
abbrev pub identity_element : ℕ → ℕ → ℤ
identity_element row column = cond (eqb row column) (pos 1) (pos 0)

-- a·b is the identity
unfoldable pub is_identity : ℕ → List ℤ → List ℤ → Bool
unfolding each_below sum_of
is_identity n a b = each_below n (λ row. each_below n (λ column. same_integer (product_element n a b row column) (identity_element row column)))

-- ---- the target in the table's coordinates

-- over the first rows, from row 0 on, the sum of target[row] times inverse[row, column], from plus zero; each operation is rounded
unfoldable pub transformed_sum : ℕ → List ℤ → List Float → ℕ → ℕ → Float
unfolding add mul of_int
transformed_sum n inverse target column zero = plus_zero
transformed_sum n inverse target column (suc row) =
    add binary64 (transformed_sum n inverse target column row) (mul binary64 (coordinate target row) (to_double (element n inverse row column)))

-- the transformed target
unfoldable pub transformed_target : ℕ → List ℤ → List Float → List Float
unfolding transformed_sum count_from
transformed_target n inverse target = map (λ column. transformed_sum n inverse target column n) (count_from 0 n)

-- ---- the point in the receiver's coordinates

-- point[row]·matrix[row, column] summed over the rows, in the whole numbers
abbrev pub mapped_coordinate : ℕ → List ℤ → List ℤ → ℕ → ℤ
mapped_coordinate n matrix point column = sum_of n (λ row. get_or point row (pos 0) *ℤ element n matrix row column)

-- the mapped point
unfoldable pub mapped_point : ℕ → List ℤ → List ℤ → List ℤ
unfolding sum_of count_from
mapped_point n matrix point = map (mapped_coordinate n matrix point) (count_from 0 n)

-- ---- the checks

-- larger than 2^52 in magnitude
abbrev pub element_fault : ℤ → Bool
element_fault z = ltb (2 ^ 52) (nat_abs z)

-- 22: both matrices must be n·n long
abbrev pub matrix_length_check : ℕ → List ℤ → List ℤ → Verdict
matrix_length_check n transform inverse = refuse_if (not (eqb (length transform) (n * n) && eqb (length inverse) (n * n))) (matrix_range 0)

-- 22 of the transform's elements
abbrev pub transform_range_check : ℕ → List ℤ → Verdict
transform_range_check n transform = refuse_at_first (λ k. element_fault (get_or transform k (pos 0))) matrix_range (count_from 0 (n * n))

-- 22 of the inverse's, which are counted from n·n on
abbrev pub inverse_range_check : ℕ → List ℤ → Verdict
inverse_range_check n inverse = refuse_at_first (λ k. element_fault (get_or inverse k (pos 0))) (λ k. matrix_range (n * n + k)) (count_from 0 (n * n))

-- 23: transform·inverse and inverse·transform must be the identity
unfoldable pub inverse_check : ℕ → List ℤ → List ℤ → Verdict
unfolding is_identity
inverse_check n transform inverse = refuse_if (not (is_identity n transform inverse && is_identity n inverse transform)) not_inverse

unfoldable pub matrix_checks : ℕ → List ℤ → List ℤ → List Verdict
unfolding refuse_at_first count_from inverse_check
matrix_checks n transform inverse =
    matrix_length_check n transform inverse ∷ transform_range_check n transform ∷ inverse_range_check n inverse ∷ inverse_check n transform inverse ∷ []

-- 24: every mapped coordinate must be a signed 64-bit integer
unfoldable pub mapped_range_check : ℕ → List ℤ → List ℤ → Verdict
unfolding refuse_at_first count_from sum_of
mapped_range_check n transform point = refuse_at_first (λ column. not (is_i64 (mapped_coordinate n transform point column))) mapped_range (count_from 0 n)

-- ---- the call

-- 2 to 5, 22, 23; 6 (target, then output) and 7 of the given target
abbrev pub given_checks : ℕ → Table → List ℤ → List ℤ → List Float → List ℤ → List Verdict
given_checks largest t transform inverse target out =
    table_checks largest t ++ matrix_checks (dimension t) transform inverse ++ target_checks (dimension t) target out

-- 7 of the transformed target, 9, then 11 and 13, as `nearest_ml` has them there
abbrev pub transformed_checks : Table → List Float → ℕ → List Verdict
transformed_checks t transformed budget =
    target_check transformed
    ∷ budget_check budget
    ∷ candidate_distance_check (ml_radius t transformed)
    ∷ widened_radius_check (widened (dimension t) (ml_radius t transformed))
    ∷ []

-- the transformed target of a call
abbrev pub transformed_of : Table → List ℤ → List Float → List Float
transformed_of t inverse target = transformed_target (dimension t) inverse target

abbrev pub checks_of_prepared : ℕ → Table → List ℤ → List ℤ → List Float → List ℤ → ℕ → List Verdict
checks_of_prepared largest t transform inverse target out budget =
    given_checks largest t transform inverse target out ++ transformed_checks t (transformed_of t inverse target) budget

unfoldable pub prepared_checks : ℕ → Table → List ℤ → List ℤ → List Float → List ℤ → ℕ → Verdict
unfolding first_refusal table_checks matrix_checks target_check transformed_target ml_radius widened
prepared_checks largest t transform inverse target out budget = first_refusal (checks_of_prepared largest t transform inverse target out budget)

-- the answer of a search over the table with its point mapped; 24 last. Nodes and distance are those of the point before mapping.
unfoldable pub mapped_answer : ℕ → List ℤ → Answer NearestPoint → Answer NearestPoint
unfolding after mapped_range_check mapped_point
mapped_answer n transform (refused e) = refused e
mapped_answer n transform (found a) =
    after (mapped_range_check n transform a.point) (found (record { nodes = a.nodes; distance = a.distance; point = mapped_point n transform a.point }))

-- `prepared_nearest_ml`: the search of `nearest_ml` at the transformed target, its point mapped
unfoldable pub prepared_nearest_ml : Table → List ℤ → List ℤ → List Float → List ℤ → ℕ → Answer NearestPoint
unfolding after prepared_checks mapped_answer widened_search ml_radius transformed_target
prepared_nearest_ml t transform inverse target out budget =
    let transformed = transformed_of t inverse target in
    after (prepared_checks largest_dimension t transform inverse target out budget)
    (mapped_answer (dimension t) transform (widened_search t transformed (ml_radius t transformed) budget))
