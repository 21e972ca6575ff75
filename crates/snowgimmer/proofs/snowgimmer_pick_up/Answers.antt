-- `snowgimmer_pick_up` meets its contract: it tells what the answer of `pick_up` does, and promises what the theorems say of it. Assumes nothing.
use mathlib.Core.Path.{refl, ap, ◌∙◌}
use mathlib.Core.List.{List}
use lib.IntN.{ℤ}
use Rattle.definitions.specs.Block.{Block}
use Rattle.definitions.specs.Named.{pick_up}
use Rattle.theorems.specs.Kept.{PickUpPromises}
use Rattle.theorems.proofs.KeptPromises.{pick_up_promises}
use Rattle.parts.specs.Parts.{block}
use Rattle.snowgimmer.specs.Reports.{of_nearest}
use Rattle.snowgimmer.proofs.Slices.{held_in}
use Rattle.snowgimmer.proofs.ToldAs.{answer_told}
use Rattle.snowgimmer.proofs.snowgimmer_pick_up.Goals as goal

pub returns : goal.returns
returns c =
    let a = c.args in
    let b = block a.reals.now a.integers.now a.counts.now in
    let done = c.pick_up-answer.ensures in
    let tells = c.stored.ensures ∙ c.nearest_report.ensures _ ∙ ap of_nearest done.answered.tells in
    record {
      tells = tells;
      told_as = answer_told of_nearest tells (λ x. refl) (λ e. refl);
      writes = done.answered.writes;
      leaves = done.block_is;
      promises = held_in (λ (o : List ℤ) (x : Block). PickUpPromises b a.name a.out.now a.budget (pick_up b a.name a.out.now a.budget) o x) done.answered.writes done.block_is (pick_up_promises b a.name a.out.now a.budget);
    }
