-- `given_check` meets its contract: the table first, then the matrices, which are as large as it says. Assumes nothing.
use mathlib.Core.Path.{sym, ◌∙◌}
use mathlib.Core.List.{List, ◌++◌}
use lib.ListN.{length}
use native.Mathlib.Omega.{arith}
use Rattle.definitions.specs.Table.{table, largest_dimension}
use Rattle.definitions.specs.Checks.{Verdict, table_checks}
use Rattle.definitions.specs.Prepared.{matrix_checks}
use Rattle.definitions.specs.Calls.{target_checks}
use Rattle.definitions.proofs.Passed.{table_checked}
use Rattle.checks.proofs.Sequence.{decided, refused, passed}
use Rattle.prepared.proofs.given_check.Goals as goal
use Rattle.prepared.proofs.given_check.Goals.{Start}

-- the checks of the table, of the matrices and of the targets
module _ (c : Start) where
  abbrev tables : List Verdict
  tables = table_checks largest_dimension (table c.args.weights.now c.args.mu.now)

  abbrev matrices : List Verdict
  matrices = matrix_checks (length c.args.weights.now) c.args.transform.now c.args.inverse.now

  abbrev targets : List Verdict
  targets = target_checks (length c.args.weights.now) c.args.target.now c.args.out.now

pub returns-in_err-table_check : goal.returns-in_err-table_check
returns-in_err-table_check c =
    let s = (goal.at.returns-in_err-table_check c).Start in
    refused (tables s ++ matrices s) _ _ c.from_residual.ensures (decided (tables s) _ c.in_err-table_check.ensures (matrices s)) (targets s)

pub matrix_check-requires : goal.matrix_check-requires
matrix_check-requires c =
    let a = c.args in
    omega (arith, (table_checked largest_dimension (table a.weights.now a.mu.now) (sym c.in_ok-table_check.ensures)).small)

pub returns-in_err-matrix_check : goal.returns-in_err-matrix_check
returns-in_err-matrix_check c =
    let s = (goal.at.returns-in_err-matrix_check c).Start in
    refused (tables s ++ matrices s) _ _ c.from_residual-in_err-matrix_check.ensures (c.in_err-matrix_check.ensures ∙ passed (tables s) c.in_ok-table_check.ensures (matrices s)) (targets s)

pub returns : goal.returns
returns c =
    let s = (goal.at.returns c).Start in
    c.target_output_check.ensures ∙ passed (tables s ++ matrices s) (c.in_ok-matrix_check.ensures ∙ passed (tables s) c.in_ok-table_check.ensures (matrices s)) (targets s)
