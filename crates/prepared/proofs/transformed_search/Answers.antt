-- `transformed_search` meets its contract: a refusal at the transformed target leaves out, and after a pass the point of the search there is mapped. Assumes nothing.
use mathlib.Core.Path.{◌≡◌, ap, sym, ◌∙◌}
use mathlib.Core.List.{List, [], ◌∷◌}
use Prim.Native.Nat.{ℕ}
use lib.ListN.{length}
use lib.Ieee.{Float}
use Rattle.definitions.specs.Table.{table, dimension}
use Rattle.definitions.specs.Checks.{Verdict, pass, first_refusal, target_check, budget_check}
use Rattle.definitions.specs.Calls.{after, ml_radius, widened_search}
use Rattle.definitions.specs.Prepared.{transformed_target, transformed_of, mapped_answer}
use Rattle.definitions.proofs.Verdicts.{append_passes, first_alone}
use Rattle.definitions.proofs.Passed.{budget_passed}
use Rattle.definitions.proofs.Answers.{after_refuse}
use Rattle.definitions.proofs.Prepared.{transformed_length, map_refused, map_after}
use Rattle.refusals.specs.Numbers.{numbered}
use Rattle.checks.proofs.Sequence.{decided, passed}
use Rattle.std.specs.Prelude.{Ok}
use Rattle.enumerate.specs.View.{nearest_answer}
use Rattle.enumerate.proofs.Answers.{answered_up, answered_as}
use Rattle.seeded.specs.Candidates.{total_checks, ml_search}
use Rattle.prepared.proofs.transformed_search.Goals as goal
use Rattle.prepared.specs.Searched.{searched_at}
use Rattle.prepared.proofs.transformed_search.Goals.{After-target_budget_check}

-- what was written is the transformed target
written_is : (c : After-target_budget_check) →
    let a = c.args in
    c.transform_target.new.transformed ≡ transformed_of (table a.weights.now a.mu.now) a.inverse.now a.target.now
written_is c =
    let a = c.args in
    c.transform_target.ensures ∙ ap (λ (m : ℕ). transformed_target m a.inverse.now a.target.now) c.requires.transformed_length

-- its checks
abbrev first_checks : After-target_budget_check → List Verdict
first_checks c =
    let a = c.args in
    target_check (transformed_of (table a.weights.now a.mu.now) a.inverse.now a.target.now) ∷ budget_check a.budget ∷ []

abbrev last_checks : After-target_budget_check → List Verdict
last_checks c =
    let a = c.args in
    let t = table a.weights.now a.mu.now in
    total_checks (dimension t) (ml_radius t (transformed_of t a.inverse.now a.target.now))

-- what they say of the target that was written, they say of the transformed target
said : (c : After-target_budget_check) →
    let a = c.args in
    first_refusal (target_check c.transform_target.new.transformed ∷ budget_check a.budget ∷ []) ≡ first_refusal (first_checks c)
said c = ap (λ (xs : List Float). first_refusal (target_check xs ∷ budget_check c.args.budget ∷ [])) (written_is c)

pub returns-in_err-target_budget_check : goal.returns-in_err-target_budget_check
returns-in_err-target_budget_check c =
    let at = (goal.at.returns-in_err-target_budget_check c).After-target_budget_check in
    let a = c.args in
    answered_up _ _ a.out.now c.from_residual.ensures
    (after_refuse _ _ _ (sym (decided (first_checks at) _ (c.in_err-target_budget_check.ensures ∙ said at) (last_checks at))))

pub ml_search-requires : goal.ml_search-requires
ml_search-requires c =
    let at = (goal.at.ml_search-requires c).After-target_budget_check in
    let a = c.args in
    let few = (append_passes (target_check (transformed_of (table a.weights.now a.mu.now) a.inverse.now a.target.now) ∷ []) (budget_check a.budget ∷ []) (sym (c.in_ok-target_budget_check.ensures ∙ said at))).1 in
    record {
      shape = record {
        shape = record { small = c.requires.small; square = c.requires.square; target_length = ap length (written_is at) ∙ transformed_length (length a.weights.now) a.inverse.now a.target.now };
        output_length = c.requires.point_length;
      };
      bounded = budget_passed a.budget (sym (first_alone (budget_check a.budget)) ∙ few);
    }

-- after a pass, the search at the target that was written with its point mapped
mapped_is : (c : After-target_budget_check) → pass ≡ first_refusal (first_checks c) →
    let a = c.args in
    let t = table a.weights.now a.mu.now in
    mapped_answer (dimension t) a.transform.now (ml_search t c.transform_target.new.transformed a.budget) ≡ searched_at t a.transform.now (transformed_of t a.inverse.now a.target.now) a.budget
mapped_is c passes =
    let a = c.args in
    let t = table a.weights.now a.mu.now in
    let x = transformed_of t a.inverse.now a.target.now in
    let end = widened_search t x (ml_radius t x) a.budget in
    ap (λ (xs : List Float). mapped_answer (dimension t) a.transform.now (ml_search t xs a.budget)) (written_is c)
    ∙ map_after (dimension t) a.transform.now (first_refusal (last_checks c)) end
    ∙ ap (λ (v : Verdict). after v (mapped_answer (dimension t) a.transform.now end)) (passed (first_checks c) passes (last_checks c))

pub returns-in_err-found : goal.returns-in_err-found
returns-in_err-found c =
    let at = (goal.at.returns-in_err-found c).After-target_budget_check in
    let a = c.args in
    let n = length a.weights.now in
    answered_up _ _ a.out.now c.from_residual-in_err-found.ensures
    (sym (mapped_is at (c.in_ok-target_budget_check.ensures ∙ said at)) ∙ ap (mapped_answer n a.transform.now) (sym c.in_err-found.ensures.tells) ∙ map_refused n a.transform.now (numbered c.in_err-found.field-0.0))

pub returns : goal.returns
returns c =
    let at = (goal.at.returns c).After-target_budget_check in
    let a = c.args in
    answered_as
    (ap (λ (m : ℕ). mapped_answer m a.transform.now (nearest_answer (Ok c.in_ok-found.found) c.ml_search.new.out)) c.requires.output_length
    ∙ ap (mapped_answer (length a.weights.now) a.transform.now) c.in_ok-found.ensures.tells
    ∙ mapped_is at (c.in_ok-target_budget_check.ensures ∙ said at))
    c.mapped_answer.ensures
