-- Promise 3: a call that is the end of its walk gives what the walk comes to, its point, count and distance or its refusal and values, and leaves its slices so. Assumes nothing.
use mathlib.Core.Path.{◌≡◌, ap, ◌∙◌}
use mathlib.Core.List.{List}
use borrow.Author.Tests.{lt-ltb, le-ltb}
use lib.ListN.{length}
use lib.IntN.{ℤ}
use lib.Ieee.{Float}
use Rattle.definitions.specs.Walk.{Walked, ended, exhausted}
use Rattle.definitions.specs.Nearest.{Best}
use Rattle.definitions.specs.Listing.{ListPoint, sorted}
use Rattle.definitions.specs.Refusals.{Refusal, budget_exhausted, outside_radius, list_full}
use Rattle.definitions.specs.Calls.{Answer, found, refused, NearestPoint, end_of_nearest, nearest_output, ListAnswer, end_of_list, list_distances, list_points}
use Rattle.definitions.proofs.Answers.{end_exhausted, end_nothing, end_point, output_found, output_refused, list_exhausted, list_full_lem, list_sorted, distances_found, distances_refused, points_found, points_refused}
use Rattle.theorems.specs.Answers.{EndsAsWalk, EndsAsListWalk}

pub ends_as_walk : (R : Float) (w : Walked Best) (out : List ℤ) (answer : Answer NearestPoint) → answer ≡ end_of_nearest R w → EndsAsWalk R w out answer (nearest_output answer out)
ends_as_walk R w out answer is =
    record {
      point = λ z S m e. let a = is ∙ ap (end_of_nearest R) e ∙ end_point R z S m in (a, output a ∙ output_found (record { nodes = m; distance = S; point = z }) out);
      nothing = λ S m e. let a = is ∙ ap (end_of_nearest R) e ∙ end_nothing R S m in (a, output a ∙ output_refused (outside_radius R) out);
      exhaustion = λ m S e. let a = is ∙ ap (end_of_nearest R) e ∙ end_exhausted R m S in (a, output a ∙ output_refused (budget_exhausted m S) out);
    }
  where
    output : {b : Answer NearestPoint} → answer ≡ b → nearest_output answer out ≡ nearest_output b out
    output a = ap (λ (x : Answer NearestPoint). nearest_output x out) a

pub ends_as_list_walk : (w : Walked (List ListPoint)) (distances : List Float) (points : List ℤ) (answer : Answer ListAnswer) → answer ≡ end_of_list (length distances) w → EndsAsListWalk w distances points answer (list_distances answer distances) (list_points answer points)
ends_as_list_walk w distances points answer is =
    record {
      room = λ ps S m e h.
          let f : ListAnswer = record { nodes = m; points = sorted ps } in
          let a = by_walk (ended ps S m) e ∙ list_sorted (length distances) ps S m (le-ltb (length distances) (length ps) h) in
          (a, (left (found f) a).0 ∙ distances_found f distances, (left (found f) a).1 ∙ points_found f points);
      full = λ ps S m e h. refuses (list_full (length ps)) (by_walk (ended ps S m) e ∙ list_full_lem (length distances) ps S m (lt-ltb (length distances) (length ps) h));
      exhaustion = λ m S e. refuses (budget_exhausted m S) (by_walk (exhausted m S) e ∙ list_exhausted (length distances) m S);
    }
  where
    by_walk : (v : Walked (List ListPoint)) → w ≡ v → answer ≡ end_of_list (length distances) v
    by_walk v e = is ∙ ap (end_of_list (length distances)) e

    left : (b : Answer ListAnswer) → answer ≡ b → (list_distances answer distances ≡ list_distances b distances) × (list_points answer points ≡ list_points b points)
    left b a = (ap (λ (x : Answer ListAnswer). list_distances x distances) a, ap (λ (x : Answer ListAnswer). list_points x points) a)

    refuses : (r : Refusal) → answer ≡ refused r → (answer ≡ refused r) × (list_distances answer distances ≡ distances) × (list_points answer points ≡ points)
    refuses r a = (a, (left (refused r) a).0 ∙ distances_refused r distances, (left (refused r) a).1 ∙ points_refused r points)
