-- `snowgimmer_nearest_plane` meets its contract: it tells what the verdict of `nearest_plane` does, and promises what the theorems say of it. Assumes nothing.
use mathlib.Core.Path.{ap, ◌∙◌}
use Rattle.definitions.specs.Table.{table}
use Rattle.definitions.specs.Calls as C
use Rattle.theorems.specs.Promises.{PlanePromises}
use Rattle.theorems.proofs.Promises.{plane_promises}
use Rattle.snowgimmer.specs.Reports.{of_verdict}
use Rattle.snowgimmer.proofs.Slices.{held_in}
use Rattle.snowgimmer.proofs.ToldAs.{verdict_told}
use Rattle.snowgimmer.proofs.snowgimmer_nearest_plane.Goals as goal

pub returns : goal.returns
returns c =
    let a = c.args in
    let t = table a.weights.now a.mu.now in
    let verdict = C.plane t a.coefficients.now a.out.now in
    let answered = c.nearest_plane-answer.ensures in
    let tells = c.stored.ensures ∙ c.verdict_report.ensures ∙ ap of_verdict answered.tells in
    record {
      tells = tells;
      told_as = verdict_told tells;
      writes = answered.writes;
      leaves = answered.leaves;
      promises = held_in (PlanePromises t a.coefficients.now a.out.now verdict) answered.leaves answered.writes (plane_promises t a.coefficients.now a.out.now);
    }
