-- `nearest_ml` meets its contract: a refusal of its first checks leaves out, and after a pass it answers as `ml_search` does. Assumes nothing.
use mathlib.Core.Path.{ap, sym, ◌∙◌}
use mathlib.Core.List.{List, [], ◌∷◌, ◌++◌}
use Prim.Native.Nat.{ℕ}
use lib.IntN.{ℤ}
use lib.Ieee.{Float}
use Rattle.definitions.specs.Table.{Table, table, dimension, largest_dimension}
use Rattle.definitions.specs.Checks.{Verdict, budget_check}
use Rattle.definitions.specs.Calls.{after, search_checks, ml_radius, widened_search}
use Rattle.definitions.proofs.Verdicts.{append_passes, first_alone}
use Rattle.definitions.proofs.Passed.{budget_passed, search_passed, walk_shaped}
use Rattle.definitions.proofs.Answers.{ml_is, ml_refused}
use Rattle.checks.proofs.Sequence.{decided, passed}
use Rattle.enumerate.proofs.Answers.{answered_up, answered_as}
use Rattle.seeded.specs.Candidates.{total_checks}
use Rattle.seeded.proofs.Candidates.{ml_cut}
use Rattle.seeded.proofs.nearest_ml.Goals as goal

-- the checks before the candidate, and those of it
module _ (t : Table) (target : List Float) (out : List ℤ) (budget : ℕ) where
  abbrev first_checks : List Verdict
  first_checks = search_checks largest_dimension t target out ++ budget_check budget ∷ []

  abbrev last_checks : List Verdict
  last_checks = total_checks (dimension t) (ml_radius t target)

pub returns-in_err-ml_check : goal.returns-in_err-ml_check
returns-in_err-ml_check c =
    let a = c.args in
    let t = table a.weights.now a.mu.now in
    let all = decided (first_checks t a.target.now a.out.now a.budget) _ c.in_err-ml_check.ensures (last_checks t a.target.now a.out.now a.budget) ∙ ml_cut t a.target.now a.out.now a.budget in
    answered_up _ _ a.out.now c.from_residual.ensures (ml_refused t a.target.now a.out.now a.budget _ (sym all))

pub ml_search-requires : goal.ml_search-requires
ml_search-requires c =
    let a = c.args in
    let t = table a.weights.now a.mu.now in
    let p = append_passes (search_checks largest_dimension t a.target.now a.out.now) (budget_check a.budget ∷ []) (sym c.in_ok-ml_check.ensures) in
    walk_shaped (search_passed largest_dimension t a.target.now a.out.now p.0) a.budget (budget_passed a.budget (sym (first_alone (budget_check a.budget)) ∙ p.1))

pub returns : goal.returns
returns c =
    let a = c.args in
    let t = table a.weights.now a.mu.now in
    let checks_are = passed (first_checks t a.target.now a.out.now a.budget) c.in_ok-ml_check.ensures (last_checks t a.target.now a.out.now a.budget) ∙ ml_cut t a.target.now a.out.now a.budget in
    answered_as
    (ap (λ (v : Verdict). after v (widened_search t a.target.now (ml_radius t a.target.now) a.budget)) checks_are ∙ sym (ml_is t a.target.now a.out.now a.budget))
    c.ml_search.ensures
