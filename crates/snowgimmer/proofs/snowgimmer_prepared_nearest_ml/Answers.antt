-- `snowgimmer_prepared_nearest_ml` meets its contract: it tells what the answer of `prepared_nearest_ml` does, and promises what the theorems say of it. Assumes nothing.
use mathlib.Core.Path.{refl, ap, sym, ◌∙◌, subst}
use mathlib.Core.List.{List}
use lib.IntN.{ℤ}
use Rattle.definitions.specs.Table.{table}
use Rattle.definitions.specs.Prepared.{prepared_nearest_ml}
use Rattle.theorems.specs.Prepared.{PreparedPromises}
use Rattle.theorems.proofs.Checked.{doubles_in}
use Rattle.theorems.proofs.Prepared.{prepared_promises}
use Rattle.snowgimmer.specs.Reports.{of_nearest}
use Rattle.snowgimmer.proofs.DistanceAgrees.{prepared_agrees}
use Rattle.snowgimmer.proofs.ToldAs.{answer_told}
use Rattle.snowgimmer.proofs.snowgimmer_prepared_nearest_ml.Goals as goal

pub returns : goal.returns
returns c =
    let a = c.args in
    let t = table a.weights.now a.mu.now in
    let answered = c.prepared_nearest_ml-answer.ensures in
    let doubles = doubles_in t a.target.now c.type_inv.weights c.type_inv.mu c.type_inv.target in
    let promises = subst (λ (o : List ℤ). PreparedPromises t a.transform.now a.inverse.now a.target.now a.out.now a.budget (prepared_nearest_ml t a.transform.now a.inverse.now a.target.now a.out.now a.budget) o) (sym answered.writes) (prepared_promises t a.transform.now a.inverse.now a.target.now a.out.now a.budget doubles) in
    let tells = c.stored.ensures ∙ c.nearest_report.ensures _ ∙ ap of_nearest answered.tells in
    record {
      tells = tells;
      told_as = answer_told of_nearest tells (λ x. refl) (λ e. refl);
      writes = answered.writes;
      promises = promises;
      distance_agrees = prepared_agrees t a.transform.now a.inverse.now a.target.now a.out.now a.budget promises;
    }
