-- `distance_report` meets its contract: a refusal of the checks, else the distance or the total that overflowed. Assumes nothing.
use mathlib.Core.Path.{◌≡◌, ap, sym, ◌∙◌}
use Rattle.definitions.specs.Table.{table, largest_dimension}
use Rattle.definitions.specs.Checks.{pass, first_refusal}
use Rattle.definitions.specs.Calls.{search_checks}
use Rattle.definitions.proofs.Passed.{search_passed}
use Rattle.refusals.specs.Numbers.{verdict, numbered}
use Rattle.snowgimmer.specs.Reports.{of_distance}
use Rattle.snowgimmer.proofs.Distances.{distance_refused, distance_found, distance_overflowed}
use Rattle.snowgimmer.proofs.report.distance_report.Goals as goal
use Rattle.snowgimmer.proofs.report.distance_report.Goals.{In_default}

-- the checks of the arguments have passed
checked : (c : In_default) →
    let a = c.args in
    first_refusal (search_checks largest_dimension (table a.weights.now a.mu.now) a.target.now a.point.now) ≡ pass
checked c = sym c.search_check.ensures ∙ ap verdict c.in_default.is

pub returns-in-Err : goal.returns-in-Err
returns-in-Err c =
    let a = c.args in
    c.from.ensures
    ∙ sym (ap of_distance (distance_refused (table a.weights.now a.mu.now) a.target.now a.point.now (numbered c.in-Err.e) (sym c.in-Err.ensures)))

pub triangular_distance-requires : goal.triangular_distance-requires
triangular_distance-requires c =
    let a = c.args in
    (search_passed largest_dimension (table a.weights.now a.mu.now) a.target.now a.point.now (checked c)).shape

pub returns-in-Ok : goal.returns-in-Ok
returns-in-Ok c =
    let a = c.args in
    c.told.ensures
    ∙ sym (ap of_distance (distance_found (table a.weights.now a.mu.now) a.target.now a.point.now (checked (goal.at.returns-in-Ok c).In_default) _ (sym c.triangular_distance.ensures ∙ c.in-Ok.is)))

pub returns-in-Err-triangular_distance : goal.returns-in-Err-triangular_distance
returns-in-Err-triangular_distance c =
    let a = c.args in
    c.from-in-Err-triangular_distance.ensures
    ∙ sym (ap of_distance (distance_overflowed (table a.weights.now a.mu.now) a.target.now a.point.now (checked (goal.at.returns-in-Err-triangular_distance c).In_default) _ (sym c.triangular_distance.ensures ∙ c.in-Err-triangular_distance.is)))
