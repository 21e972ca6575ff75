-- What a list walk's ending says of the walk, and what a call's answer leaves in the slices. Assumes nothing.
use mathlib.Core.Path.{◌≡◌, ap, sym, ◌∙◌}
use mathlib.Core.List.{List, map, ◌++◌}
use Prim.Native.Nat.{ℕ, ◌*◌}
use lib.ListN.{length, drop, length-map}
use lib.IntN.{ℤ}
use lib.Ieee.{Float}
use Rattle.std.specs.Prelude.{Result, Ok, Err}
use Rattle.refusals.specs.declared.Refusal as F
use Rattle.definitions.specs.Walk.{Walked, ended, exhausted}
use Rattle.definitions.specs.Listing.{ListPoint, sorted}
use Rattle.definitions.specs.Refusals.{Refusal}
use Rattle.definitions.specs.Calls.{Answer, found, refused, written, coordinates, list_distances, list_points}
use Rattle.definitions.specs.Calls as C
use Rattle.definitions.proofs.Answers.{distances_found, distances_refused, points_found, points_refused}
use Rattle.lists.specs.All.{All}
use Rattle.lists.proofs.Permutations.{same_length, all_kept}
use Rattle.definitions.proofs.ListedOrder.{Listed}
use Rattle.sorting.proofs.Sorted.{sorted_keeps}
use Rattle.listing.proofs.Coordinates.{coordinates_length}
use Rattle.listing.specs.View.{list_answer, counts_of, ending_of, ListAnswered}
use Rattle.listing.specs.Ready.{ListWritten}
use Rattle.listing.specs.declared.ListFound.{ListFound}
use Rattle.listing.specs.declared.Exhausted.{Exhausted}

-- ---- the ending
pub ending_exhausted : (w : Walked (List ListPoint)) (x : Exhausted) → ending_of w ≡ Err x → w ≡ exhausted x.nodes x.radius
ending_exhausted (exhausted k R) x e = cc
ending_exhausted (ended ps R k) x e = cc

pub ending_ended : (w : Walked (List ListPoint)) (f : ListFound) → ending_of w ≡ Ok f → (ps : List ListPoint) × (S : Float) × (w ≡ ended ps S f.nodes) × (length ps ≡ f.points)
ending_ended (exhausted k R) f e = cc
ending_ended (ended ps R k) f e = (ps, R, cc, cc)

-- ---- the points in the first places, the others as they were
pub first_places : (ps : List ListPoint) (distances : List Float) (points : List ℤ) (k n : ℕ) → length ps ≡ k → All (Listed n) ps → {ds : List Float} {zs : List ℤ} → ds ≡ map (λ (p : ListPoint). p.distance) (sorted ps) → zs ≡ coordinates (sorted ps) →
    ListWritten (sorted ps) distances (ds ++ drop k distances) points (zs ++ drop (k * n) points)
first_places ps distances points k n e listed d z =
    let own = sorted_keeps ps in
    let many : k ≡ length (map (λ (p : ListPoint). p.distance) (sorted ps)) = sym e ∙ same_length own ∙ sym (length-map (sorted ps) (λ (p : ListPoint). p.distance)) in
    let size : k * n ≡ length (coordinates (sorted ps)) = ap (λ (j : ℕ). j * n) (sym e ∙ same_length own) ∙ sym (coordinates_length n (all_kept own listed)) in
    record {
      writes_distances = ap (λ (l : List Float). l ++ drop k distances) d ∙ ap (λ (j : ℕ). map (λ (p : ListPoint). p.distance) (sorted ps) ++ drop j distances) many;
      writes_points = ap (λ (l : List ℤ). l ++ drop (k * n) points) z ∙ ap (λ (j : ℕ). coordinates (sorted ps) ++ drop j points) size;
    }

-- ---- the answer
module _ (a : Answer C.ListAnswer) (r : Result ListFound F.Refusal) (distances : List Float) (points : List ℤ) where
  pub answer_refused : (e : Refusal) → list_answer r ≡ refused e → a ≡ refused e → ListAnswered a r distances distances points points
  answer_refused e t q = record {
    tells = t ∙ sym (ap counts_of q);
    writes_distances = sym (ap (λ (x : Answer C.ListAnswer). list_distances x distances) q ∙ distances_refused e distances);
    writes_points = sym (ap (λ (x : Answer C.ListAnswer). list_points x points) q ∙ points_refused e points);
  }

  pub answer_found : (m : ℕ) (ps : List ListPoint) → list_answer r ≡ found (record { nodes = m; points = length ps }) → a ≡ found (record { nodes = m; points = sorted ps }) → {qs : List ListPoint} {distances' : List Float} {points' : List ℤ} → qs ≡ sorted ps → ListWritten qs distances distances' points points' → ListAnswered a r distances distances' points points'
  answer_found m ps t q same w =
      let l : C.ListAnswer = record { nodes = m; points = sorted ps } in
      record {
        tells = t ∙ ap (λ (k : ℕ). found (record { nodes = m; points = k })) (same_length (sorted_keeps ps)) ∙ sym (ap counts_of q);
        writes_distances = w.writes_distances ∙ ap (λ (l : List ListPoint). written (map (λ (p : ListPoint). p.distance) l) distances) same ∙ sym (ap (λ (x : Answer C.ListAnswer). list_distances x distances) q ∙ distances_found l distances);
        writes_points = w.writes_points ∙ ap (λ (l : List ListPoint). written (coordinates l) points) same ∙ sym (ap (λ (x : Answer C.ListAnswer). list_points x points) q ∙ points_found l points);
      }
