-- `signed_decimal`: the minus is there where the number is negative. Assumes nothing.
use Rattle.std.proofs.Common.{◌++◌, ap, ◌∙◌, arith, w64, to_z, of_z}
use mir.ValLaws.{to_z-of_z}
use Rattle.definitions.specs.JobText.{text, decimal, signed_decimal}
use Rattle.writing.proofs.Texts.{written_then, written_as}
use Rattle.writing.proofs.Signs.{not_negative, negative}
use Rattle.writing.proofs.signed_decimal.Goals as goal
use Rattle.writing.proofs.signed_decimal.Goals.{then-z-lt0, else-z-lt0}

pub returns : goal.returns
unfolding text
returns c =
    let z = to_z w64 (of_z w64 c.args.z) in
    let same = ap signed_decimal (to_z-of_z w64 c.args.z c.ranges.z) in
    let digits = ap decimal c.unsigned_abs.ensures.value in
    elim c.if-z-lt0.branch [
      | then-z-lt0 w ↦
          let rest = rw (w.out-is, w.next-is) at c.decimal.ensures in
          written_as (written_then w.put-next.ensures rest) (ap (λ t. text "-" ++ t) digits ∙ negative z w.if-z-lt0.true ∙ same) (omega arith)
      | else-z-lt0 w ↦
          let all = rw (w.out-is, w.next-is) at c.decimal.ensures in
          written_as all (digits ∙ not_negative z w.if-z-lt0.false ∙ same) (omega arith)
    ]
