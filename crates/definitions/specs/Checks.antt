-- The checks, each by itself: docs/SPECIFICATION.md, "The numbered refusals", 2 to 14. A call makes a list of them, and its first refusal wins. Definitions only.
use Rattle.std.specs.Prelude.{ℕ, zero, suc, ◌*◌, Bool, not, ◌&&◌, ◌||◌, cond, List, [], ◌∷◌, ◌++◌, ltb, eqb, length, get_or, Float}
use Rattle.std.specs.Float.{nan}
use Rattle.std.specs.Float.Ieee.{lt, eq}
use Rattle.std.specs.Float.Ieee.Scale.{finite}
use Rattle.rounding.specs.Doubles.{magnitude}
use Rattle.definitions.specs.Table.{Table, dimension, weight, coordinate, plus_zero, coord_limit, largest_budget, largest_list}
use Rattle.definitions.specs.Refusals.{Refusal, table_size, mu_non_finite, mu_range, weight_range, length_mismatch, non_finite, invalid_radius, budget_range, candidate_length, candidate_distance, candidate_outside, widened_radius, list_size}

pub data Verdict : Type 0 where
  pass : Verdict
  refuse : Refusal → Verdict

-- the first of these that refuses decides
unfoldable pub first_refusal : List Verdict → Verdict
first_refusal [] = pass
first_refusal (refuse e ∷ verdicts) = refuse e
first_refusal (pass ∷ verdicts) = first_refusal verdicts

abbrev pub refuse_if : Bool → Refusal → Verdict
refuse_if fault e = cond fault (refuse e) pass

-- the first of these indices at which the fault is
unfoldable pub refuse_at_first : (ℕ → Bool) → (ℕ → Refusal) → List ℕ → Verdict
refuse_at_first fault e [] = pass
refuse_at_first fault e (i ∷ is) = let later = refuse_at_first fault e is in cond (fault i) (refuse (e i)) later

-- first, first + 1, .., so many
unfoldable pub count_from : ℕ → ℕ → List ℕ
count_from first zero = []
count_from first (suc k) = first ∷ count_from (suc first) k

-- the indices of the entries mu that are read, of the rows below j, rising; row j has those from j·n to j·n+j-1
unfoldable pub read_indices : ℕ → ℕ → List ℕ
unfolding count_from
read_indices n zero = []
read_indices n (suc j) = read_indices n j ++ count_from (j * n) j

abbrev pub not_finite : Float → Bool
not_finite x = not (finite x)

-- larger than `COORD_LIMIT` in magnitude
abbrev pub beyond_limit : Float → Bool
beyond_limit x = lt coord_limit (magnitude x)

-- 5: a weight must be finite and positive
abbrev pub weight_fault : Float → Bool
weight_fault w = not_finite w || not (lt plus_zero w)

-- 7: a target must be finite and within `COORD_LIMIT`
abbrev pub target_fault : Float → Bool
target_fault x = not_finite x || beyond_limit x

-- ---- the table

-- 2: more weights than the largest n, which is given, or mu of another length than n·n
abbrev pub table_size_check : ℕ → Table → Verdict
table_size_check largest t = refuse_if (ltb largest (dimension t) || not (eqb (length t.mu) (dimension t * dimension t))) (table_size (dimension t))

-- 3
abbrev pub mu_non_finite_check : Table → Verdict
mu_non_finite_check t = refuse_at_first (λ i. not_finite (get_or t.mu i nan)) mu_non_finite (read_indices (dimension t) (dimension t))

-- 4
abbrev pub mu_range_check : Table → Verdict
mu_range_check t = refuse_at_first (λ i. beyond_limit (get_or t.mu i nan)) mu_range (read_indices (dimension t) (dimension t))

-- 5
abbrev pub weight_range_check : Table → Verdict
weight_range_check t = refuse_at_first (λ i. weight_fault (weight t i)) weight_range (count_from 0 (dimension t))

-- with these begins every call that has a table
unfoldable pub table_checks : ℕ → Table → List Verdict
unfolding refuse_at_first read_indices count_from lt
table_checks largest t = table_size_check largest t ∷ mu_non_finite_check t ∷ mu_range_check t ∷ weight_range_check t ∷ []

-- ---- the call

-- 6: not as long as expected
abbrev pub length_check : ℕ → ℕ → Verdict
length_check expected found = refuse_if (not (eqb expected found)) (length_mismatch expected found)

-- 6 in `nearest_plane`, one check of both lengths: found is the coefficients' length, whichever is wrong
abbrev pub plane_length_check : ℕ → ℕ → ℕ → Verdict
plane_length_check n coefficients output =
    refuse_if (not (eqb n coefficients && eqb n output)) (length_mismatch n coefficients)

-- 7
unfoldable pub target_check : List Float → Verdict
unfolding refuse_at_first count_from lt
target_check target = refuse_at_first (λ i. target_fault (coordinate target i)) non_finite (count_from 0 (length target))

-- 7 in `round` and `nearest_plane`: without the limit
unfoldable pub finite_check : List Float → Verdict
unfolding refuse_at_first count_from
finite_check coefficients = refuse_at_first (λ i. not_finite (coordinate coefficients i)) non_finite (count_from 0 (length coefficients))

-- 8: a radius must be finite and not below 0; minus zero is not below 0
unfoldable pub radius_check : Float → Verdict
unfolding lt
radius_check R = refuse_if (not_finite R || lt R plus_zero) (invalid_radius R)

-- the radius that check 8 hands on to the walk, to the widening and to refusals 12, 15 and 16: the call's, but plus zero where that is minus zero
abbrev pub handed_on : Float → Float
handed_on R = cond (eq R plus_zero) plus_zero R

-- 9: the budget must be within its limit
abbrev pub budget_check : ℕ → Verdict
budget_check budget = refuse_if (ltb largest_budget budget) (budget_range budget)

-- 10
abbrev pub candidate_length_check : ℕ → ℕ → Verdict
candidate_length_check expected found = refuse_if (not (eqb expected found)) (candidate_length expected found)

-- 11: the candidate's sum must be finite
abbrev pub candidate_distance_check : Float → Verdict
candidate_distance_check total = refuse_if (not_finite total) (candidate_distance total)

-- 12: the candidate must not be farther than the radius
unfoldable pub candidate_outside_check : Float → Float → Verdict
unfolding lt
candidate_outside_check R d = refuse_if (lt R d) (candidate_outside R)

-- 13: the widened radius must be finite
abbrev pub widened_radius_check : Float → Verdict
widened_radius_check radius = refuse_if (not_finite radius) (widened_radius radius)

-- 14: at most 4,096 places for distances, and n coordinates of points for each
abbrev pub list_size_check : ℕ → ℕ → ℕ → Verdict
list_size_check n distances points = refuse_if (ltb largest_list distances || not (eqb points (n * distances))) (list_size distances)
