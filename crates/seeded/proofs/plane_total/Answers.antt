-- `plane_total` meets its contract: the distance of the nearest-plane point of the target. Assumes nothing.
use mathlib.Core.Path.{ap, sym, ◌∙◌}
use mathlib.Core.List.{List}
use native.Mathlib.Omega.{arith}
use lib.ListN.{length}
use lib.Seq.{take_all}
use lib.Ieee.{Float}
use Rattle.definitions.specs.Table.{table}
use Rattle.definitions.specs.Distance.{distance}
use Rattle.definitions.specs.Seeds.{nearest_plane}
use Rattle.seeded.proofs.Candidates.{ml_radius_is_lem}
use Rattle.seeded.proofs.plane_total.Goals as goal

pub returns : goal.returns
returns c =
    let a = c.args in
    let t = table a.weights.now a.mu.now in
    let whole = c.copy.ensures ∙ take_all (length a.coefficients.now) a.target.now (omega (arith, c.requires.shape.shape.target_length, c.requires.coefficients_length)) in
    c.total.ensures
    ∙ ap (distance t a.target.now) (c.plane_levels.ensures.point ∙ ap (λ (xs : List Float). (nearest_plane t xs).point) whole)
    ∙ sym (ml_radius_is_lem t a.target.now)
