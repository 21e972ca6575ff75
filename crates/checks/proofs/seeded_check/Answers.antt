-- `checks::seeded_check` meets its contract: what passed up to 10 is a table with a target and a candidate of its length. Assumes nothing.
use mathlib.Core.Path.{sym, ◌∙◌}
use native.Mathlib.Omega.{arith}
use Rattle.definitions.specs.Table.{table}
use Rattle.definitions.specs.Shapes.{ShapedOut}
use Rattle.definitions.proofs.Verdicts.{passes_append, first_alone}
use Rattle.definitions.proofs.Passed.{candidate_shaped}
use Rattle.checks.proofs.seeded_check.Goals as goal
use Rattle.checks.proofs.seeded_check.Goals.{In_ok-candidate_length_check}

shaped : (c : In_ok-candidate_length_check) →
    let a = c.args in
    ShapedOut a.largest a.weights.now a.mu.now a.target.now a.candidate.now
shaped c =
    let a = c.args in
    candidate_shaped a.largest (table a.weights.now a.mu.now) a.target.now a.out.now a.candidate.now a.radius a.budget (passes_append _ _ (sym c.in_ok-nearest_check.ensures) (first_alone _ ∙ sym c.in_ok-candidate_length_check.ensures))

pub total-sum-requires : goal.total-sum-requires
total-sum-requires c =
    let s = shaped (goal.at.total-sum-requires c).In_ok-candidate_length_check in
    record { shape = record { small = omega (arith, s.shape.small, c.requires); square = s.shape.square; target_length = s.shape.target_length }; output_length = s.output_length }

pub candidate_check-requires : goal.candidate_check-requires
candidate_check-requires c =
    let s = shaped (goal.at.candidate_check-requires c).In_ok-candidate_length_check in
    omega (arith, s.shape.small, c.requires)
