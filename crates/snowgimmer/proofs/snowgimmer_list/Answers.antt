-- `snowgimmer_list` meets its contract: it tells what the answer of `list` does, and promises what the theorems say of it. Assumes nothing.
use mathlib.Core.Path.{refl, ap, ◌∙◌}
use Rattle.rounding.proofs.Interface.{held}
use Rattle.lists.proofs.Tuples.{sixth}
use Rattle.definitions.specs.Table.{table}
use Rattle.definitions.specs.Calls as C
use Rattle.theorems.specs.Promises.{ListPromises}
use Rattle.theorems.specs.Running.{ListRunning}
use Rattle.theorems.proofs.Checked.{doubles_in}
use Rattle.theorems.proofs.Promises.{list_promises}
use Rattle.theorems.proofs.RunningCalls.{list_running}
use Rattle.listing.specs.View.{counts_of}
use Rattle.snowgimmer.specs.Reports.{of_counts}
use Rattle.snowgimmer.proofs.Slices.{held_in}
use Rattle.snowgimmer.proofs.ToldAs.{answer_told}
use Rattle.snowgimmer.proofs.snowgimmer_list.Goals as goal

pub returns : goal.returns
returns c =
    let a = c.args in
    let t = table a.weights.now a.mu.now in
    let answer = C.list t a.target.now a.distances.now a.points.now a.radius a.budget in
    let answered = c.list-answer.ensures in
    let doubles = doubles_in t a.target.now c.type_inv.weights c.type_inv.mu c.type_inv.target in
    let promised = list_promises t a.target.now a.distances.now a.points.now a.radius a.budget doubles (held (sixth c.well_formed).1) in
    let tells = c.stored.ensures ∙ c.list_report.ensures ∙ ap of_counts answered.tells in
    record {
      tells = tells;
      told_as = answer_told (λ x. of_counts (counts_of x)) tells (λ x. refl) (λ e. refl);
      writes_distances = answered.writes_distances;
      writes_points = answered.writes_points;
      promises = held_in (ListPromises t a.target.now a.distances.now a.points.now a.radius a.budget answer) answered.writes_distances answered.writes_points promised;
      running = held_in (ListRunning t a.target.now a.distances.now a.points.now a.radius a.budget answer) answered.writes_distances answered.writes_points (list_running t a.target.now a.distances.now a.points.now a.radius a.budget doubles (held (sixth c.well_formed).1));
    }
