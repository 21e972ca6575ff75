-- `write_list`: the places are sorted, and what stands there is written in that order. Assumes nothing.
use mathlib.Core.Path.{ap, ◌∙◌}
use mathlib.Core.List.{List, map}
use Prim.Native.Nat.{ℕ}
use lib.Ieee.{Float}
use Rattle.definitions.specs.Listing.{ListPoint}
use Rattle.definitions.specs.Calls.{written, coordinates}
use Rattle.listing.proofs.Ordering.{distances_at}
use Rattle.listing.proofs.output.write_list.Goals as goal
use Rattle.listing.proofs.output.write_list.Goals.{After-sort_places}

-- the places once they are sorted
abbrev places : After-sort_places → List ℕ
places c = c.sort_places.new.order

pub returns : goal.returns
returns c =
    let at = (goal.at.returns c).After-sort_places in
    let a = at.args in
    let e = at.sort_places.ensures.listed in
    record {
      writes_distances =
          c.write_distances.ensures
          ∙ ap (λ (l : List Float). written l a.distances.now) (distances_at a.n a.measured.now a.vectors.now (places at) ∙ ap (map (λ (p : ListPoint). p.distance)) e);
      writes_points = c.write_points.ensures a.measured.now ∙ ap (λ (l : List ListPoint). written (coordinates l) a.points.now) e;
    }
