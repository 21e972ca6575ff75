-- `nearest_within` meets its contract: its answer is that of its walk's end. Assumes nothing.
use mathlib.Core.Path.{ap, sym, ◌∙◌}
use Rattle.definitions.specs.Table.{table}
use Rattle.definitions.specs.Running.{nearest_search}
use Rattle.definitions.specs.Calls.{end_of_nearest}
use Rattle.definitions.proofs.Answers.{within_is}
use Rattle.enumerate.proofs.Answers.{output_walked, answered_as}
use Rattle.enumerate.proofs.nearest_within.Goals as goal

pub returns : goal.returns
returns c =
    let a = c.args in
    let t = table a.weights.now a.mu.now in
    let walked = c.search_walk-end.ensures in
    answered_as (sym (within_is t a.target.now a.radius a.budget))
    (record {
      tells = c.answer_of.ensures _ ∙ ap (end_of_nearest a.radius) walked.tells;
      writes = walked.writes ∙ output_walked a.radius (nearest_search t a.target.now a.radius a.budget) a.out.now;
    })
