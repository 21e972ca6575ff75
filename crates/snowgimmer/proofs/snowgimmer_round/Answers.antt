-- `snowgimmer_round` meets its contract: it tells what the verdict of `round` does, and promises what the theorems say of it. Assumes nothing.
use mathlib.Core.Path.{ap, sym, ◌∙◌, subst}
use mathlib.Core.List.{List}
use lib.IntN.{ℤ}
use Rattle.definitions.specs.Calls as C
use Rattle.theorems.specs.Promises.{RoundPromises}
use Rattle.theorems.proofs.Promises.{round_promises}
use Rattle.snowgimmer.specs.Reports.{of_verdict}
use Rattle.snowgimmer.proofs.ToldAs.{verdict_told}
use Rattle.snowgimmer.proofs.snowgimmer_round.Goals as goal

pub returns : goal.returns
returns c =
    let a = c.args in
    let answered = c.round-answer.ensures in
    let tells = c.stored.ensures ∙ c.verdict_report.ensures ∙ ap of_verdict answered.tells in
    record {
      tells = tells;
      told_as = verdict_told tells;
      writes = answered.writes;
      promises = subst (λ (o : List ℤ). RoundPromises a.coefficients.now a.out.now (C.round a.coefficients.now a.out.now) o) (sym answered.writes) (round_promises a.coefficients.now a.out.now);
    }
