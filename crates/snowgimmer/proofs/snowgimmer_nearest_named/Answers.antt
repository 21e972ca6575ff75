-- `snowgimmer_nearest_named` meets its contract: it tells what the answer of `nearest_named` does, and promises what the theorems say of it. Assumes nothing.
use mathlib.Core.Path.{refl, ap, ◌∙◌}
use mathlib.Core.List.{List}
use mathlib.Core.Logic.{inl}
use lib.IntN.{ℤ}
use Rattle.rounding.proofs.Interface.{held}
use Rattle.lists.proofs.Tuples.{ninth}
use Rattle.definitions.specs.Table.{table, largest_searched}
use Rattle.definitions.specs.Block.{Block}
use Rattle.definitions.specs.Named.{nearest_named}
use Rattle.theorems.specs.Kept.{NamedPromises}
use Rattle.theorems.proofs.Checked.{doubles_in}
use Rattle.theorems.proofs.KeptPromises.{named_promises}
use Rattle.parts.specs.Parts.{block}
use Rattle.snowgimmer.specs.Reports.{of_nearest}
use Rattle.snowgimmer.proofs.DistanceAgrees.{distance_agrees}
use Rattle.snowgimmer.proofs.Slices.{held_in}
use Rattle.snowgimmer.proofs.ToldAs.{answer_told}
use Rattle.snowgimmer.proofs.snowgimmer_nearest_named.Goals as goal

pub returns : goal.returns
returns c =
    let a = c.args in
    let b = block a.reals.now a.integers.now a.counts.now in
    let t = table a.weights.now a.mu.now in
    let done = c.nearest_named-answer.ensures in
    let doubles = doubles_in t a.target.now c.type_inv.weights c.type_inv.mu c.type_inv.target in
    let promises = held_in (λ (o : List ℤ) (x : Block). NamedPromises b a.name t a.target.now a.out.now a.radius a.budget (nearest_named b a.name t a.target.now a.out.now a.radius a.budget) o x) done.answered.writes done.block_is (named_promises b a.name t a.target.now a.out.now a.radius a.budget doubles (held (ninth c.well_formed).1)) in
    let tells = c.stored.ensures ∙ c.nearest_report.ensures _ ∙ ap of_nearest done.answered.tells in
    record {
      tells = tells;
      told_as = answer_told of_nearest tells (λ x. refl) (λ e. refl);
      writes = done.answered.writes;
      leaves = done.block_is;
      promises = promises;
      distance_agrees = λ small x q. let ok = promises.accepts.0 (promises.demand_1.answers.1 (inl (x, q))) in distance_agrees largest_searched _ (promises.promises ok.is_name ok.is_block small).search small x q;
    }
