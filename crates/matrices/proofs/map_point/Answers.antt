-- `map_point` meets its contract: the coordinates passed are i64, and written. Assumes nothing.
use mathlib.Core.Path.{◌≡◌, sym, ap, ◌∙◌}
use mathlib.Core.Bool.{not, false}
use native.Mathlib.Omega.{arith}
use borrow.Author.Rules.{rules}
use lib.ListN.{length}
use Rattle.rounding.specs.Integers.{is_i64}
use Rattle.std.specs.Prelude.{Err}
use Rattle.definitions.specs.Refusals.{mapped_range}
use Rattle.definitions.specs.Prepared.{mapped_coordinate}
use Rattle.definitions.proofs.Verdicts.{refuse≢pass, first_fault, no_fault}
use Rattle.definitions.proofs.Prepared.{mapped_is, mapped_range_is}
use Rattle.refusals.specs.Numbers.{verdict}
use Rattle.refusals.specs.declared.Refusal.TheVariants.{MappedRange}
use Rattle.matrices.proofs.map_point.Goals as goal
use Rattle.matrices.proofs.map_point.Invariants.{fault}

pub returns-in_err-place : goal.returns-in_err-place
returns-in_err-place c =
    let a = c.args in
    let n = length a.mapped.now in
    let column = c.loop-column.column in
    let outside : is_i64 (mapped_coordinate n a.transform.now a.point.now column) ≡ false = search rules in
    let told : c.from_residual.result ≡ Err (MappedRange column) = search rules in
    record {
      tells = ap verdict told ∙ sym (mapped_range_is n a.transform.now a.point.now ∙ first_fault (fault n a.transform.now a.point.now) mapped_range n column (omega arith) c.loop-column.invariant.1 (ap not outside));
      writes = λ q. absurd (refuse≢pass (sym (ap verdict told) ∙ q));
    }

pub returns : goal.returns
returns c =
    let a = c.args in
    let n = length a.mapped.now in
    let i = c.loop-column.invariant in
    record {
      tells = sym (mapped_range_is n a.transform.now a.point.now ∙ no_fault (fault n a.transform.now a.point.now) mapped_range n (λ k below. i.1 k (omega arith)));
      writes = λ q. mapped_is n a.transform.now a.point.now c.loop-column.mapped i.0.same_length (λ k below. i.0.done k (omega arith));
    }
