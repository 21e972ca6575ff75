-- `snowgimmer_distance` meets its contract: it tells what `distance_report` does, and promises what the theorems say of it. Assumes nothing.
use mathlib.Core.Path.{refl, ◌∙◌}
use Rattle.definitions.specs.Table.{table}
use Rattle.theorems.proofs.Promises.{distance_promises}
use Rattle.snowgimmer.specs.Reports.{of_distance}
use Rattle.snowgimmer.proofs.ToldAs.{answer_told}
use Rattle.snowgimmer.proofs.snowgimmer_distance.Goals as goal

pub returns : goal.returns
returns c =
    let a = c.args in
    let tells = c.stored.ensures ∙ c.distance_report.ensures in
    record {
      tells = tells;
      told_as = answer_told of_distance tells (λ x. refl) (λ e. refl);
      promises = distance_promises (table a.weights.now a.mu.now) a.target.now a.point.now;
    }
