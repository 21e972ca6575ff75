-- `prepared_nearest_ml` meets its contract: a refusal of the given checks leaves out, and after a pass it answers as the search at the transformed target does. Assumes nothing.
use mathlib.Core.Path.{sym}
use Prim.Native.Nat.{◌≤◌}
use native.Mathlib.Omega.{arith}
use lib.ListN.{length}
use lib.Seq.{length-take-le}
use Rattle.definitions.specs.Table.{table, largest_dimension}
use Rattle.definitions.proofs.Prepared.{GivenPassed, given_passed, prepared_refused, prepared_passed}
use Rattle.enumerate.proofs.Answers.{answered_up, answered_as}
use Rattle.prepared.proofs.prepared_nearest_ml.Goals as goal
use Rattle.prepared.proofs.prepared_nearest_ml.Goals.{In_ok-given_check}

pub returns-in_err-given_check : goal.returns-in_err-given_check
returns-in_err-given_check c =
    let a = c.args in
    answered_up _ _ a.out.now c.from_residual.ensures
    (prepared_refused (table a.weights.now a.mu.now) a.transform.now a.inverse.now a.target.now a.out.now a.budget _ (sym c.in_err-given_check.ensures))

-- what the given checks leave
given : (c : In_ok-given_check) →
    let a = c.args in
    GivenPassed largest_dimension (table a.weights.now a.mu.now) a.transform.now a.inverse.now a.target.now a.out.now
given c =
    let a = c.args in
    given_passed largest_dimension (table a.weights.now a.mu.now) a.transform.now a.inverse.now a.target.now a.out.now (sym c.in_ok-given_check.ensures)

few : (c : In_ok-given_check) → length c.args.weights.now ≤ largest_dimension
few c = (given c).checked.small

pub transformed_search-requires : goal.transformed_search-requires
transformed_search-requires c =
    let told = (goal.at.transformed_search-requires c).In_ok-given_check in
    let g = given told in
    let m = g.matrices in
    let small = few told in
    record {
      small = small;
      square = g.checked.square;
      transform_square = record { small = omega arith; square = m.transform_length; bounded = λ k below. m.transform_bounded k (omega (arith, m.transform_length, below)) };
      inverse_target = record {
        matrix = record { small = omega arith; square = m.inverse_length; bounded = λ k below. m.inverse_bounded k (omega (arith, m.inverse_length, below)) };
        target_length = g.target_length;
      };
      output_length = g.output_length;
      transformed_length = length-take-le _ _ small;
      point_length = length-take-le _ _ small;
    }

pub returns : goal.returns
returns c =
    let a = c.args in
    answered_as
    (sym (prepared_passed (table a.weights.now a.mu.now) a.transform.now a.inverse.now a.target.now a.out.now a.budget (sym c.in_ok-given_check.ensures)))
    c.transformed_search.ensures

pub slice_bounds-transformed-end : goal.slice_bounds-transformed-end
slice_bounds-transformed-end c = few (goal.at.slice_bounds-transformed-end c).In_ok-given_check

pub slice_bounds-point-end : goal.slice_bounds-point-end
slice_bounds-point-end c = few (goal.at.slice_bounds-point-end c).In_ok-given_check

pub slice_bounds-transformed_search-end : goal.slice_bounds-transformed_search-end
slice_bounds-transformed_search-end c = sym (length-take-le _ _ (few (goal.at.slice_bounds-transformed_search-end c).In_ok-given_check))

pub slice_bounds-transformed_search-end-2 : goal.slice_bounds-transformed_search-end-2
slice_bounds-transformed_search-end-2 c = sym (length-take-le _ _ (few (goal.at.slice_bounds-transformed_search-end-2 c).In_ok-given_check))
