-- `ml_search` meets its contract: a refusal of the candidate's checks leaves out, and after a pass it answers as the widened search does. Assumes nothing.
use mathlib.Core.Path.{ap, sym, ◌∙◌}
use lib.Ieee.{Float}
use Rattle.definitions.specs.Table.{Table, table, dimension}
use Rattle.definitions.specs.Checks.{Verdict, first_refusal}
use Rattle.definitions.specs.Calls.{widened_search}
use Rattle.definitions.proofs.Answers.{after_pass, after_refuse}
use Rattle.enumerate.proofs.Answers.{answered_up, answered_as}
use Rattle.seeded.specs.Candidates.{total_checks}
use Rattle.seeded.proofs.ml_search.Goals as goal

-- what the candidate's checks say of a radius
abbrev says : Table → Float → Verdict
says t R = first_refusal (total_checks (dimension t) R)

pub returns-in_err-total_check : goal.returns-in_err-total_check
returns-in_err-total_check c =
    let a = c.args in
    answered_up _ _ a.out.now c.from_residual.ensures
    (after_refuse _ _ _ (sym (c.in_err-total_check.ensures ∙ ap (says (table a.weights.now a.mu.now)) c.ml_radius-radius.ensures)))

pub returns : goal.returns
returns c =
    let a = c.args in
    let t = table a.weights.now a.mu.now in
    answered_as
    (ap (λ (R : Float). widened_search t a.target.now R a.budget) c.ml_radius-radius.ensures
    ∙ sym (after_pass _ _ (sym (c.in_ok-total_check.ensures ∙ ap (says t) c.ml_radius-radius.ensures))))
    c.widened_search.ensures
