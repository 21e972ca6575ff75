-- `snowgimmer_change_reference` meets its contract: it tells what the verdict of `change_reference` does, and promises what the theorems say of it. Assumes nothing.
use mathlib.Core.Path.{ap, sym, ◌∙◌, subst}
use Rattle.definitions.specs.Reference.{change_reference}
use Rattle.theorems.specs.Reference.{ReferencePromises}
use Rattle.theorems.proofs.References.{reference_promises}
use Rattle.snowgimmer.specs.Reports.{of_verdict}
use Rattle.snowgimmer.proofs.ToldAs.{verdict_told}
use Rattle.snowgimmer.proofs.snowgimmer_change_reference.Goals as goal

pub returns : goal.returns
returns c =
    let a = c.args in
    let answered = c.change_reference-answer.ensures in
    let tells = c.stored.ensures ∙ c.verdict_report.ensures ∙ ap of_verdict answered.tells in
    record {
      tells = tells;
      told_as = verdict_told tells;
      writes = answered.writes;
      promises = subst (ReferencePromises a.point.now a.r (change_reference a.point.now a.r)) (sym answered.writes) (reference_promises a.point.now a.r c.read_integers.ensures);
    }
