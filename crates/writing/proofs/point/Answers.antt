-- `point`: the coordinates passed are written. Assumes nothing.
use Rattle.std.proofs.Common.{◌++◌, get_or, take, ℤ, pos, sym, ap, ◌∙◌, arith, w64, SFits, rules}
use mir.ValLaws.{to_z-of_z}
use Rattle.definitions.specs.JobText.{text, signed_decimal, point_text}
use Rattle.writing.proofs.Texts.{written_none, written_then, written_as}
use Rattle.writing.proofs.Points.{no_coordinates, more_coordinates}
use Rattle.writing.proofs.point.Goals as goal

pub loop-z-init : goal.loop-z-init
loop-z-init c = written_as (written_none c.args.out.now c.args.at (omega arith)) (sym no_coordinates) (omega arith)

pub loop-z-preserved : goal.loop-z-preserved
unfolding text
loop-z-preserved c =
    let zs = c.args.zs.now in
    let i = c.loop-z.z-index in
    let z = get_or zs i (pos 0) in
    let f : SFits w64 z = search rules in
    let w = written_then (written_then c.loop-z.invariant c.put-after_blank.ensures) c.signed_decimal-next.ensures in
    let more = ap (λ (y : ℤ). point_text (take i zs) ++ text " " ++ signed_decimal y) (to_z-of_z w64 z f) ∙ more_coordinates zs i (omega arith) in
    written_as w more (omega arith)
