-- `write_first`: the first places are lent, with lengths that fit. Assumes nothing.
use mathlib.Core.Path.{ap, ◌∙◌}
use mathlib.Core.List.{List, map}
use Rattle.definitions.specs.Listing.{ListPoint, sorted}
use Rattle.definitions.specs.Calls.{written, coordinates}
use Rattle.listing.proofs.Ordering.{firsts_rows}
use Rattle.listing.proofs.output.write_first.Goals as goal

pub returns : goal.returns
returns c =
    let a = c.args in
    let e = firsts_rows a.n a.k a.measured.now a.vectors.now c.requires.measured_fit c.requires.vectors_length in
    record {
      writes_distances = c.write_list.ensures.writes_distances ∙ ap (λ (l : List ListPoint). written (map (λ (p : ListPoint). p.distance) (sorted l)) a.distances.now) e;
      writes_points = c.write_list.ensures.writes_points ∙ ap (λ (l : List ListPoint). written (coordinates (sorted l)) a.points.now) e;
    }
