-- `transformed_coordinate` meets its contract: the total is that of the rows passed. Assumes nothing.
use mathlib.Core.Path.{sym, ap, ◌∙◌}
use native.Mathlib.Numerals.{add-one}
use borrow.Author.Rules.{rules}
use lib.Ieee.{Float, binary64, add, mul}
use mir.Syntax.{w64}
use mir.ValLaws.{to_z-of_z}
use Rattle.rounding.specs.Integers.{to_double}
use Rattle.definitions.specs.Table.{coordinate}
use Rattle.definitions.specs.Prepared.{transformed_sum}
use Rattle.definitions.proofs.Prepared.{transformed_next}
use Rattle.matrices.proofs.transformed_coordinate.Goals as goal

pub loop-row-preserved : goal.loop-row-preserved
loop-row-preserved c =
    let a = c.args in
    let element-is = to_z-of_z w64 _ (search rules) in
    ap (λ (x : Float). add binary64 x (mul binary64 (coordinate a.target.now c.loop-row.row) c.to_double.result)) c.loop-row.invariant
    ∙ ap (λ (x : Float). add binary64 (transformed_sum a.n a.inverse.now a.target.now a.column c.loop-row.row) (mul binary64 (coordinate a.target.now c.loop-row.row) x)) (c.to_double.ensures ∙ ap to_double element-is)
    ∙ sym (transformed_next a.n a.inverse.now a.target.now a.column c.loop-row.row)
    ∙ ap (transformed_sum a.n a.inverse.now a.target.now a.column) (sym (add-one c.loop-row.row))
