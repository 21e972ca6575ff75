-- Every public call: its checks in their order, its answer, and what each lent slice holds at exit. Definitions only.
use Rattle.std.specs.Prelude.{ℕ, cond, List, [], ◌∷◌, ◌++◌, map, ltb, length, drop, ℤ, Float}
use Rattle.definitions.specs.Table.{Table, dimension, largest_dimension, largest_searched}
use Rattle.definitions.specs.Distance.{partial, distance}
use Rattle.definitions.specs.Walk.{Walked, ended, exhausted}
use Rattle.definitions.specs.Nearest.{Best, no_best, best}
use Rattle.definitions.specs.Listing.{ListPoint, sorted}
use Rattle.definitions.specs.Running.{nearest_search, list_search}
use Rattle.definitions.specs.Seeds.{rounded, nearest_plane, widened}
use Rattle.definitions.specs.Refusals.{Refusal, budget_exhausted, outside_radius, list_full}
use Rattle.definitions.specs.Checks.{Verdict, pass, refuse, first_refusal, table_checks, length_check, plane_length_check, target_check, finite_check, radius_check, handed_on, budget_check, candidate_length_check, candidate_distance_check, candidate_outside_check, widened_radius_check, list_size_check}

pub data Answer (A : Type 0) : Type 0 where
  found : A → Answer A
  refused : Refusal → Answer A

-- the answer, if the checks passed
unfoldable pub after : {A : Type 0} → Verdict → Answer A → Answer A
after (refuse e) answer = refused e
after pass answer = answer

-- ---- nearest, nearest_seeded, nearest_ml

-- a point that was found, with the number of nodes and its distance
pub record NearestPoint : Type 0 where
  pub nodes : ℕ
  pub distance : Float
  pub point : List ℤ

-- how a search from R ends by its walk: 16 if nothing was found. The radius that stands with a best is the best's distance.
unfoldable pub end_of_nearest : Float → Walked Best → Answer NearestPoint
end_of_nearest R (exhausted nodes standing) = refused (budget_exhausted nodes standing)
end_of_nearest R (ended no_best standing nodes) = refused (outside_radius R)
end_of_nearest R (ended (best zs) standing nodes) = found (record { nodes = nodes; distance = standing; point = zs })

-- the search of all three, once their checks have passed: the walk from R
unfoldable pub nearest_within : Table → List Float → Float → ℕ → Answer NearestPoint
unfolding end_of_nearest nearest_search
nearest_within t target R budget = end_of_nearest R (nearest_search t target R budget)

-- 6 (target, then output) and 7
abbrev pub target_checks : ℕ → List Float → List ℤ → List Verdict
target_checks n target out = length_check n (length target) ∷ length_check n (length out) ∷ target_check target ∷ []

-- 2 to 5, then these, with the largest n given
unfoldable pub search_checks : ℕ → Table → List Float → List ℤ → List Verdict
unfolding table_checks target_check
search_checks largest t target out = table_checks largest t ++ target_checks (dimension t) target out

-- and 8, 9
abbrev pub checks_of_nearest : ℕ → Table → List Float → List ℤ → Float → ℕ → List Verdict
checks_of_nearest largest t target out R budget = search_checks largest t target out ++ radius_check R ∷ budget_check budget ∷ []

unfoldable pub nearest_checks : ℕ → Table → List Float → List ℤ → Float → ℕ → Verdict
unfolding first_refusal search_checks radius_check
nearest_checks largest t target out R budget = first_refusal (checks_of_nearest largest t target out R budget)

-- `nearest`
unfoldable pub nearest : Table → List Float → List ℤ → Float → ℕ → Answer NearestPoint
unfolding after nearest_checks nearest_within
nearest t target out R budget =
    after (nearest_checks largest_searched t target out R budget) (nearest_within t target (handed_on R) budget)

-- the search of a seeded or ml call: that of `nearest`, at the widened radius
unfoldable pub widened_search : Table → List Float → Float → ℕ → Answer NearestPoint
unfolding widened nearest_within
widened_search t target R budget = nearest_within t target (widened (dimension t) R) budget

-- 2 to 9, then 10 to 13
abbrev pub checks_of_seeded : ℕ → Table → List Float → List ℤ → List ℤ → Float → ℕ → List Verdict
checks_of_seeded largest t target out candidate R budget =
    search_checks largest t target out
    ++ radius_check R
    ∷ budget_check budget
    ∷ candidate_length_check (dimension t) (length candidate)
    ∷ candidate_distance_check (distance t target candidate)
    ∷ candidate_outside_check (handed_on R) (distance t target candidate)
    ∷ widened_radius_check (widened (dimension t) (handed_on R))
    ∷ []

unfoldable pub seeded_checks : ℕ → Table → List Float → List ℤ → List ℤ → Float → ℕ → Verdict
unfolding first_refusal search_checks radius_check candidate_outside_check partial widened
seeded_checks largest t target out candidate R budget = first_refusal (checks_of_seeded largest t target out candidate R budget)

-- `nearest_seeded`
unfoldable pub nearest_seeded : Table → List Float → List ℤ → List ℤ → Float → ℕ → Answer NearestPoint
unfolding after seeded_checks widened_search
nearest_seeded t target out candidate R budget =
    after (seeded_checks largest_dimension t target out candidate R budget) (widened_search t target (handed_on R) budget)

-- the radius of `nearest_ml`: the computed distance of its candidate, which is what `nearest_plane` finds
unfoldable pub ml_radius : Table → List Float → Float
unfolding nearest_plane partial
ml_radius t target = distance t target (nearest_plane t target).point

-- 2 to 7 and 9, then 11 and 13
abbrev pub checks_of_ml : ℕ → Table → List Float → List ℤ → ℕ → List Verdict
checks_of_ml largest t target out budget =
    search_checks largest t target out
    ++ budget_check budget
    ∷ candidate_distance_check (ml_radius t target)
    ∷ widened_radius_check (widened (dimension t) (ml_radius t target))
    ∷ []

unfoldable pub ml_checks : ℕ → Table → List Float → List ℤ → ℕ → Verdict
unfolding first_refusal search_checks ml_radius widened
ml_checks largest t target out budget = first_refusal (checks_of_ml largest t target out budget)

-- `nearest_ml`
unfoldable pub nearest_ml : Table → List Float → List ℤ → ℕ → Answer NearestPoint
unfolding after ml_checks widened_search ml_radius
nearest_ml t target out budget = after (ml_checks largest_dimension t target out budget) (widened_search t target (ml_radius t target) budget)

-- the output slice at exit of all three: the point, or what it held
unfoldable pub nearest_output : Answer NearestPoint → List ℤ → List ℤ
nearest_output (found a) out = a.point
nearest_output (refused e) out = out

-- ---- distance

-- 2 to 7 with the point in the output's place, then 11
abbrev pub checks_of_distance : ℕ → Table → List Float → List ℤ → List Verdict
checks_of_distance largest t target point = search_checks largest t target point ++ candidate_distance_check (distance t target point) ∷ []

unfoldable pub distance_checks : ℕ → Table → List Float → List ℤ → Verdict
unfolding first_refusal search_checks partial
distance_checks largest t target point = first_refusal (checks_of_distance largest t target point)

-- `distance`: the computed distance of a point that the caller gives
unfoldable pub point_distance : Table → List Float → List ℤ → Answer Float
unfolding after distance_checks partial
point_distance t target point = after (distance_checks largest_dimension t target point) (found (distance t target point))

-- ---- list

-- the list in its order, with the number of nodes
pub record ListAnswer : Type 0 where
  pub nodes : ℕ
  pub points : List ListPoint

-- how many points there are: none where there is no list
abbrev pub points_in : Answer ListAnswer → ℕ
points_in (found a) = length a.points
points_in (refused e) = 0

-- the list, unless the walk ended by 15; 18 if there are more points than places
unfoldable pub end_of_list : ℕ → Walked (List ListPoint) → Answer ListAnswer
unfolding sorted
end_of_list places (exhausted nodes standing) = refused (budget_exhausted nodes standing)
end_of_list places (ended points standing nodes) =
    cond (ltb places (length points)) (refused (list_full (length points))) (found (record { nodes = nodes; points = sorted points }))

-- 2 to 5, 6 (target), 7, 8, 9, 14
abbrev pub checks_of_list : ℕ → Table → List Float → List Float → List ℤ → Float → ℕ → List Verdict
checks_of_list largest t target distances points R budget =
    table_checks largest t
    ++ length_check (dimension t) (length target)
    ∷ target_check target
    ∷ radius_check R
    ∷ budget_check budget
    ∷ list_size_check (dimension t) (length distances) (length points)
    ∷ []

unfoldable pub list_checks : ℕ → Table → List Float → List Float → List ℤ → Float → ℕ → Verdict
unfolding first_refusal table_checks target_check radius_check
list_checks largest t target distances points R budget = first_refusal (checks_of_list largest t target distances points R budget)

-- `list`
unfoldable pub list : Table → List Float → List Float → List ℤ → Float → ℕ → Answer ListAnswer
unfolding after list_checks end_of_list list_search
list t target distances points R budget =
    after (list_checks largest_searched t target distances points R budget) (end_of_list (length distances) (list_search t target (handed_on R) budget))

-- the first places hold what is written, and those after them what they held
abbrev pub written : {A : Type 0} → List A → List A → List A
written new old = new ++ drop (length new) old

-- the coordinates of the points, one after another
unfoldable pub coordinates : List ListPoint → List ℤ
coordinates [] = []
coordinates (p ∷ ps) = p.point ++ coordinates ps

-- the lent distances at exit
unfoldable pub list_distances : Answer ListAnswer → List Float → List Float
list_distances (found a) distances = written (map (λ (p : ListPoint). p.distance) a.points) distances
list_distances (refused e) distances = distances

-- the lent points at exit
unfoldable pub list_points : Answer ListAnswer → List ℤ → List ℤ
unfolding coordinates
list_points (found a) points = written (coordinates a.points) points
list_points (refused e) points = points

-- ---- round, nearest_plane

-- 6, of the output against the coefficients, then 7 without the limit
abbrev pub checks_of_round : List Float → List ℤ → List Verdict
checks_of_round coefficients out = length_check (length coefficients) (length out) ∷ finite_check coefficients ∷ []

-- `round`
unfoldable pub round : List Float → List ℤ → Verdict
unfolding first_refusal finite_check
round coefficients out = first_refusal (checks_of_round coefficients out)

-- its output at exit
unfoldable pub round_output : Verdict → List Float → List ℤ → List ℤ
round_output pass coefficients out = rounded coefficients
round_output (refuse e) coefficients out = out

-- 2 to 5, 6, then 7 without the limit
abbrev pub checks_of_plane : ℕ → Table → List Float → List ℤ → List Verdict
checks_of_plane largest t coefficients out =
    table_checks largest t
    ++ plane_length_check (dimension t) (length coefficients) (length out)
    ∷ finite_check coefficients
    ∷ []

-- `nearest_plane`
unfoldable pub plane : Table → List Float → List ℤ → Verdict
unfolding first_refusal table_checks finite_check
plane t coefficients out = first_refusal (checks_of_plane largest_dimension t coefficients out)

-- its output at exit
unfoldable pub plane_output : Verdict → Table → List Float → List ℤ → List ℤ
unfolding nearest_plane
plane_output pass t coefficients out = (nearest_plane t coefficients).point
plane_output (refuse e) t coefficients out = out

-- its coefficients at exit: what is left of each after its integer was subtracted
unfoldable pub plane_coefficients : Verdict → Table → List Float → List Float
unfolding nearest_plane
plane_coefficients pass t coefficients = (nearest_plane t coefficients).left
plane_coefficients (refuse e) t coefficients = coefficients
