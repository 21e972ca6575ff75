-- `walk_in_place` meets its contract: all points of the walk are stored, and sorted where they lie. Assumes nothing.
use mathlib.Core.Path.{◌≡◌, ap, sym, ◌∙◌, subst}
use mathlib.Core.List.{List, reverse, map}
use Prim.Native.Nat.{ℕ, ◌*◌, min}
use native.Mathlib.Nat.{le_refl}
use native.Mathlib.Omega.{arith}
use lib.ListN.{length, length-reverse}
use lib.Seq.{take_all}
use lib.IntN.{ℤ}
use lib.Ieee.{Float, binary64}
use Rattle.rounding.specs.Kinds.{NonNegative}
use Rattle.lists.specs.All.{All}
use Rattle.definitions.specs.Table.{table}
use Rattle.definitions.specs.Walk.{Walked, ended}
use Rattle.definitions.specs.Listing.{ListPoint, sorted}
use Rattle.definitions.specs.Calls.{coordinates}
use Rattle.definitions.specs.Rows.{rows}
use Rattle.definitions.proofs.ListedOrder.{Listed}
use Rattle.listing.proofs.Found.{found_listed}
use Rattle.listing.proofs.Ordering.{stored_nonneg, stored_sorted}
use Rattle.listing.proofs.walks.walk_in_place.Goals as goal
use Rattle.listing.proofs.walks.walk_in_place.Goals.{After-search_walk}

-- a walk ends once
same : {w : Walked (List ListPoint)} {ps qs : List ListPoint} {R S : Float} {m k : ℕ} → w ≡ ended ps R m → w ≡ ended qs S k → qs ≡ ps
same {ps = ps} {qs = qs} {R = R} {S = S} {m = m} {k = k} e q = let both : ended qs S k ≡ ended ps R m = sym q ∙ e in cc

module _ (v : After-search_walk) where
  abbrev n : ℕ
  n = length v.args.weights.now

  -- the points of the walk, the last first
  abbrev found : List ListPoint
  found = v.requires.found

  -- the slices after the walk
  abbrev distances : List Float
  distances = v.search_walk.new.distances

  abbrev points : List ℤ
  points = v.search_walk.new.points

  as_many : length distances ≡ length found
  as_many = v.search_walk.ensures.distances_length ∙ sym v.requires.count

  stored : rows n (length distances) distances points ≡ reverse found
  stored =
      let all : length distances ≡ min (length found) (length v.args.distances.now) = omega (arith, as_many, v.requires.count) in
      ap (λ (k : ℕ). rows n k distances points) all
      ∙ v.search_walk.ensures.stored found v.requires.stood v.requires.nodes v.requires.walk
      ∙ take_all (length v.args.distances.now) (reverse found) (omega (arith, length-reverse found, v.requires.count))

  listed : All (Listed n) found
  listed =
      let a = v.args in
      found_listed (table a.weights.now a.mu.now) v.type_inv.weights v.requires.weighted a.target.now a.radius a.budget found v.requires.stood v.requires.nodes v.requires.walk

  plus : All (NonNegative binary64) distances
  plus = subst (All (NonNegative binary64)) (take_all (length distances) distances (le_refl (length distances))) (stored_nonneg n (length distances) distances points found stored listed (le_refl (length distances)))

  in_order : sorted (rows n (length distances) distances points) ≡ sorted found
  in_order = stored_sorted n (length distances) distances points found stored listed

pub sort_rows-requires : goal.sort_rows-requires
sort_rows-requires c =
    let v = (goal.at.sort_rows-requires c).After-search_walk in
    let p = c.requires.ready in
    record {
      shape = record {
        small = p.shape.small;
        few = omega (arith, c.search_walk.ensures.distances_length, p.few);
        points_length = v.search_walk.ensures.points_length ∙ ap (λ (k : ℕ). k * n v) (sym v.search_walk.ensures.distances_length);
      };
      distances_plus = plus v;
    }

pub returns : goal.returns
returns c =
    let v = (goal.at.returns c).After-search_walk in
    record {
      writes_distances = λ ps R m e. c.sort_rows.ensures.writes_distances ∙ ap (λ (l : List ListPoint). map (λ (p : ListPoint). p.distance) l) (in_order v ∙ ap sorted (same e c.requires.walk));
      writes_points = λ ps R m e. c.sort_rows.ensures.writes_points ∙ ap coordinates (in_order v ∙ ap sorted (same e c.requires.walk));
    }
