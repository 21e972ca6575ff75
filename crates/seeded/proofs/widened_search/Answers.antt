-- `widened_search` meets its contract: it is the search of `nearest`, at the widened radius. Assumes nothing.
use mathlib.Core.Path.{ap, sym, ◌∙◌}
use lib.Ieee.{Float}
use Rattle.definitions.specs.Table.{table}
use Rattle.definitions.specs.Calls.{nearest_within}
use Rattle.definitions.proofs.Answers.{widened_search_is}
use Rattle.enumerate.proofs.Answers.{answered_as}
use Rattle.seeded.proofs.widened_search.Goals as goal

pub returns : goal.returns
returns c =
    let a = c.args in
    let t = table a.weights.now a.mu.now in
    answered_as
    (ap (λ (R : Float). nearest_within t a.target.now R a.budget) c.widened_radius-wide.ensures
    ∙ sym (widened_search_is t a.target.now a.radius a.budget))
    c.nearest_within.ensures
