-- `snowgimmer_nearest_seeded` meets its contract: it tells what the answer of `nearest_seeded` does, and promises what the theorems say of it. Assumes nothing.
use mathlib.Core.Path.{refl, ap, sym, ◌∙◌, subst}
use mathlib.Core.List.{List}
use lib.IntN.{ℤ}
use Rattle.rounding.proofs.Interface.{held}
use Rattle.lists.proofs.Tuples.{sixth}
use Rattle.definitions.specs.Table.{table, largest_dimension}
use Rattle.definitions.specs.Calls as C
use Rattle.theorems.specs.Promises.{SeededPromises}
use Rattle.theorems.proofs.Checked.{doubles_in}
use Rattle.theorems.proofs.Promises.{seeded_promises}
use Rattle.snowgimmer.specs.Reports.{of_nearest}
use Rattle.snowgimmer.proofs.DistanceAgrees.{distance_agrees}
use Rattle.snowgimmer.proofs.ToldAs.{answer_told}
use Rattle.snowgimmer.proofs.snowgimmer_nearest_seeded.Goals as goal

pub returns : goal.returns
returns c =
    let a = c.args in
    let t = table a.weights.now a.mu.now in
    let answered = c.nearest_seeded-answer.ensures in
    let doubles = doubles_in t a.target.now c.type_inv.weights c.type_inv.mu c.type_inv.target in
    let promises = subst (λ (o : List ℤ). SeededPromises t a.target.now a.out.now a.candidate.now a.radius a.budget (C.nearest_seeded t a.target.now a.out.now a.candidate.now a.radius a.budget) o) (sym answered.writes) (seeded_promises t a.target.now a.out.now a.candidate.now a.radius a.budget doubles (held (sixth c.well_formed).1) c.read_integers.ensures) in
    let tells = c.stored.ensures ∙ c.nearest_report.ensures _ ∙ ap of_nearest answered.tells in
    record {
      tells = tells;
      told_as = answer_told of_nearest tells (λ x. refl) (λ e. refl);
      writes = answered.writes;
      promises = promises;
      distance_agrees = distance_agrees largest_dimension _ promises.search;
    }
