-- `nearest` meets its contract: a refusal of its checks leaves out, and after a pass it ends as its walk does. Assumes nothing.
use mathlib.Core.Path.{ap, sym, ◌∙◌}
use lib.Ieee.{Float}
use Rattle.definitions.specs.Table.{table, largest_searched}
use Rattle.definitions.specs.Calls.{nearest_within}
use Rattle.definitions.proofs.Passed.{nearest_passed, walk_shaped}
use Rattle.definitions.proofs.Answers.{nearest_checks_are, nearest_refused, nearest_checked}
use Rattle.enumerate.proofs.Answers.{answered_up, answered_as}
use Rattle.enumerate.proofs.nearest.Goals as goal

pub returns-in_err-nearest_check : goal.returns-in_err-nearest_check
returns-in_err-nearest_check c =
    let a = c.args in
    let t = table a.weights.now a.mu.now in
    answered_up _ _ a.out.now c.from_residual.ensures
    (nearest_refused t a.target.now a.out.now a.radius a.budget _ (nearest_checks_are t a.target.now a.out.now a.radius a.budget ∙ sym c.in_err-nearest_check.ensures))

pub nearest_within-requires : goal.nearest_within-requires
nearest_within-requires c =
    let a = c.args in
    let t = table a.weights.now a.mu.now in
    let p = nearest_passed largest_searched t a.target.now a.out.now a.radius a.budget (nearest_checks_are t a.target.now a.out.now a.radius a.budget ∙ sym c.in_ok-nearest_check.ensures) in
    walk_shaped p.search a.budget p.few

pub returns : goal.returns
returns c =
    let a = c.args in
    let t = table a.weights.now a.mu.now in
    answered_as
    (ap (λ (R : Float). nearest_within t a.target.now R a.budget) c.handed_on.ensures
    ∙ sym (nearest_checked t a.target.now a.out.now a.radius a.budget (nearest_checks_are t a.target.now a.out.now a.radius a.budget ∙ sym c.in_ok-nearest_check.ensures)))
    c.nearest_within.ensures
