-- `nearest_seeded` meets its contract: a refusal of its checks leaves out, and after a pass it answers as the widened search does. Assumes nothing.
use mathlib.Core.Path.{ap, sym, ◌∙◌}
use lib.Ieee.{Float}
use Rattle.definitions.specs.Table.{table, largest_dimension}
use Rattle.definitions.specs.Calls.{widened_search}
use Rattle.definitions.proofs.Passed.{seeded_passed, walk_shaped}
use Rattle.definitions.proofs.Answers.{seeded_checks_are, seeded_refused, seeded_checked}
use Rattle.enumerate.proofs.Answers.{answered_up, answered_as}
use Rattle.seeded.proofs.nearest_seeded.Goals as goal

pub returns-in_err-seeded_check : goal.returns-in_err-seeded_check
returns-in_err-seeded_check c =
    let a = c.args in
    let t = table a.weights.now a.mu.now in
    answered_up _ _ a.out.now c.from_residual.ensures
    (seeded_refused t a.target.now a.out.now a.candidate.now a.radius a.budget _ (seeded_checks_are t a.target.now a.out.now a.candidate.now a.radius a.budget ∙ sym c.in_err-seeded_check.ensures))

pub widened_search-requires : goal.widened_search-requires
widened_search-requires c =
    let a = c.args in
    let t = table a.weights.now a.mu.now in
    let p = seeded_passed largest_dimension t a.target.now a.out.now a.candidate.now a.radius a.budget (seeded_checks_are t a.target.now a.out.now a.candidate.now a.radius a.budget ∙ sym c.in_ok-seeded_check.ensures) in
    walk_shaped p.search a.budget p.few

pub returns : goal.returns
returns c =
    let a = c.args in
    let t = table a.weights.now a.mu.now in
    answered_as
    (ap (λ (R : Float). widened_search t a.target.now R a.budget) c.handed_on.ensures
    ∙ sym (seeded_checked t a.target.now a.out.now a.candidate.now a.radius a.budget (seeded_checks_are t a.target.now a.out.now a.candidate.now a.radius a.budget ∙ sym c.in_ok-seeded_check.ensures)))
    c.widened_search.ensures
