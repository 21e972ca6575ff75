-- Of each call the numbers of its checks, and that 3, 4, 5 and 7 carry the first faulty index. Assumes nothing.
use mathlib.Core.Path.{refl}
use mathlib.Core.Bool.{not, ◌&&◌, ◌||◌}
use mathlib.Core.List.{List, [], ◌∷◌}
use Prim.Native.Nat.{ℕ, ◌*◌}
use lib.Dec.{ltb, eqb}
use lib.ListN.{length}
use lib.IntN.{ℤ}
use lib.Ieee.{Float}
use Rattle.definitions.specs.Table.{Table, dimension, largest_dimension, largest_searched, largest_list}
use Rattle.definitions.specs.Distance.{distance}
use Rattle.definitions.specs.Seeds.{widened}
use Rattle.definitions.specs.Refusals.{length_mismatch, candidate_length, list_size}
use Rattle.definitions.specs.Checks.{not_finite, target_fault, table_checks, handed_on}
use Rattle.definitions.specs.Calls.{search_checks, ml_radius, checks_of_round}
use Rattle.theorems.specs.Refusals.{Numbered, no_checks, check, NumberIndex, FirstIndices}
use Rattle.theorems.specs.Promises.{nearest_call_checks, seeded_call_checks, ml_call_checks, distance_call_checks, list_call_checks, plane_call_checks}
use Rattle.theorems.proofs.FirstFaults.{target_first, coefficient_first}
use Rattle.theorems.proofs.FirstRefusal.{carries_first, first_indices}
use Rattle.theorems.proofs.CheckNumbers.{by_test, by_index, length_number, radius_number, budget_number, total_number, outside_number, widened_number, table_then, search_then}

-- ---- nearest
module _ (t : Table) (target : List Float) (out : List ℤ) (R : Float) (budget : ℕ) where
  pub nearest_numbered : Numbered (2 ∷ 3 ∷ 4 ∷ 5 ∷ 6 ∷ 6 ∷ 7 ∷ 8 ∷ 9 ∷ []) (nearest_call_checks t target out R budget)
  nearest_numbered = search_then largest_searched t target out (check (radius_number R) (check (budget_number budget) no_checks))

  pub nearest_indices : FirstIndices (nearest_call_checks t target out R budget) t target_fault target
  unfolding search_checks
  nearest_indices = first_indices nearest_numbered refl refl refl refl (target_first target)

-- ---- nearest_seeded and nearest_ml
module _ (t : Table) (target : List Float) (out candidate : List ℤ) (R : Float) (budget : ℕ) where
  pub seeded_numbered : Numbered (2 ∷ 3 ∷ 4 ∷ 5 ∷ 6 ∷ 6 ∷ 7 ∷ 8 ∷ 9 ∷ 10 ∷ 11 ∷ 12 ∷ 13 ∷ []) (seeded_call_checks t target out candidate R budget)
  seeded_numbered =
      let n = dimension t in
      let d = distance t target candidate in
      let tenth = by_test (not (eqb n (length candidate))) (candidate_length n (length candidate)) in
      let last = check (outside_number (handed_on R) d) (check (widened_number (widened n (handed_on R))) no_checks) in
      search_then largest_dimension t target out (check (radius_number R) (check (budget_number budget) (check tenth (check (total_number d) last))))

  pub seeded_indices : FirstIndices (seeded_call_checks t target out candidate R budget) t target_fault target
  unfolding search_checks
  seeded_indices = first_indices seeded_numbered refl refl refl refl (target_first target)

module _ (t : Table) (target : List Float) (out : List ℤ) (budget : ℕ) where
  pub ml_numbered : Numbered (2 ∷ 3 ∷ 4 ∷ 5 ∷ 6 ∷ 6 ∷ 7 ∷ 9 ∷ 11 ∷ 13 ∷ []) (ml_call_checks t target out budget)
  ml_numbered =
      let d = ml_radius t target in
      search_then largest_dimension t target out (check (budget_number budget) (check (total_number d) (check (widened_number (widened (dimension t) d)) no_checks)))

  pub ml_indices : FirstIndices (ml_call_checks t target out budget) t target_fault target
  unfolding search_checks
  ml_indices = first_indices ml_numbered refl refl refl refl (target_first target)

-- ---- distance
module _ (t : Table) (target : List Float) (point : List ℤ) where
  pub distance_numbered : Numbered (2 ∷ 3 ∷ 4 ∷ 5 ∷ 6 ∷ 6 ∷ 7 ∷ 11 ∷ []) (distance_call_checks t target point)
  distance_numbered = search_then largest_dimension t target point (check (total_number (distance t target point)) no_checks)

  pub distance_indices : FirstIndices (distance_call_checks t target point) t target_fault target
  unfolding search_checks
  distance_indices = first_indices distance_numbered refl refl refl refl (target_first target)

-- ---- list
module _ (t : Table) (target distances : List Float) (points : List ℤ) (R : Float) (budget : ℕ) where
  pub list_numbered : Numbered (2 ∷ 3 ∷ 4 ∷ 5 ∷ 6 ∷ 7 ∷ 8 ∷ 9 ∷ 14 ∷ []) (list_call_checks t target distances points R budget)
  list_numbered =
      let n = dimension t in
      let last = by_test (ltb largest_list (length distances) || not (eqb (length points) (n * length distances))) (list_size (length distances)) in
      table_then largest_searched t (check (length_number n (length target)) (check (by_index (target_first target)) (check (radius_number R) (check (budget_number budget) (check last no_checks)))))

  pub list_indices : FirstIndices (list_call_checks t target distances points R budget) t target_fault target
  unfolding table_checks
  list_indices = first_indices list_numbered refl refl refl refl (target_first target)

-- ---- round and nearest_plane
module _ (coefficients : List Float) (out : List ℤ) where
  pub round_numbered : Numbered (6 ∷ 7 ∷ []) (checks_of_round coefficients out)
  round_numbered = check (length_number (length coefficients) (length out)) (check (by_index (coefficient_first coefficients)) no_checks)

  pub round_index : NumberIndex (checks_of_round coefficients out) not_finite coefficients
  round_index = carries_first (coefficient_first coefficients) round_numbered refl

module _ (t : Table) (coefficients : List Float) (out : List ℤ) where
  pub plane_numbered : Numbered (2 ∷ 3 ∷ 4 ∷ 5 ∷ 6 ∷ 7 ∷ []) (plane_call_checks t coefficients out)
  plane_numbered =
      let n = dimension t in
      let sixth = by_test (not (eqb n (length coefficients) && eqb n (length out))) (length_mismatch n (length coefficients)) in
      table_then largest_dimension t (check sixth (check (by_index (coefficient_first coefficients)) no_checks))

  pub plane_indices : FirstIndices (plane_call_checks t coefficients out) t not_finite coefficients
  unfolding table_checks
  plane_indices = first_indices plane_numbered refl refl refl refl (coefficient_first coefficients)
