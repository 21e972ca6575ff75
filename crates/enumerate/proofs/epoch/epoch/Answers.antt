-- `epoch` meets its contract: a refusal of its checks leaves out, and after a pass it ends as its walk does. Assumes nothing.
use mathlib.Core.Path.{ap, sym, ◌∙◌}
use lib.Ieee.{Float}
use Rattle.definitions.specs.Table.{table}
use Rattle.definitions.specs.Calls.{nearest_within}
use Rattle.definitions.proofs.Epochs.{answer_checked, answer_refused, budget_few}
use Rattle.enumerate.proofs.Answers.{answered_up, answered_as}
use Rattle.enumerate.proofs.epoch.epoch.Goals as goal

pub returns-in_err-epoch_check : goal.returns-in_err-epoch_check
returns-in_err-epoch_check c =
    let a = c.args in
    answered_up _ _ a.out.now c.from_residual.ensures
    (answer_refused (table a.weights.now a.mu.now) a.target.now a.radius a.budget _ (sym c.in_err-epoch_check.ensures))

pub nearest_within-requires : goal.nearest_within-requires
nearest_within-requires c =
    let a = c.args in
    record { shape = c.requires; bounded = budget_few a.target.now a.radius a.budget (sym c.in_ok-epoch_check.ensures) }

pub returns : goal.returns
returns c =
    let a = c.args in
    let t = table a.weights.now a.mu.now in
    answered_as
    (ap (λ (R : Float). nearest_within t a.target.now R a.budget) c.handed_on.ensures
    ∙ sym (answer_checked t a.target.now a.radius a.budget (sym c.in_ok-epoch_check.ensures)))
    c.nearest_within.ensures
