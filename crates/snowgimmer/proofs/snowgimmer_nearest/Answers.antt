-- `snowgimmer_nearest` meets its contract: it tells what the answer of `nearest` does, and promises what the theorems say of it. Assumes nothing.
use mathlib.Core.Path.{refl, ap, sym, ◌∙◌, subst}
use mathlib.Core.List.{List}
use lib.IntN.{ℤ}
use Rattle.rounding.proofs.Interface.{held}
use Rattle.lists.proofs.Tuples.{fifth}
use Rattle.definitions.specs.Table.{table, largest_searched}
use Rattle.definitions.specs.Calls as C
use Rattle.theorems.specs.Promises.{NearestPromises}
use Rattle.theorems.specs.Running.{NearestRunning}
use Rattle.theorems.proofs.Checked.{doubles_in}
use Rattle.theorems.proofs.Promises.{nearest_promises}
use Rattle.theorems.proofs.RunningCalls.{nearest_running}
use Rattle.snowgimmer.specs.Reports.{of_nearest}
use Rattle.snowgimmer.proofs.DistanceAgrees.{distance_agrees}
use Rattle.snowgimmer.proofs.ToldAs.{answer_told}
use Rattle.snowgimmer.proofs.snowgimmer_nearest.Goals as goal

pub returns : goal.returns
returns c =
    let a = c.args in
    let t = table a.weights.now a.mu.now in
    let answered = c.nearest-answer.ensures in
    let doubles = doubles_in t a.target.now c.type_inv.weights c.type_inv.mu c.type_inv.target in
    let promises = subst (λ (o : List ℤ). NearestPromises t a.target.now a.out.now a.radius a.budget (C.nearest t a.target.now a.out.now a.radius a.budget) o) (sym answered.writes) (nearest_promises t a.target.now a.out.now a.radius a.budget doubles (held (fifth c.well_formed).1)) in
    let tells = c.stored.ensures ∙ c.nearest_report.ensures _ ∙ ap of_nearest answered.tells in
    record {
      tells = tells;
      told_as = answer_told of_nearest tells (λ x. refl) (λ e. refl);
      writes = answered.writes;
      promises = promises;
      distance_agrees = distance_agrees largest_searched _ promises.search;
      running = subst (λ (o : List ℤ). NearestRunning t a.target.now a.out.now a.radius a.budget (C.nearest t a.target.now a.out.now a.radius a.budget) o) (sym answered.writes) (nearest_running t a.target.now a.out.now a.radius a.budget doubles (held (fifth c.well_formed).1));
    }
