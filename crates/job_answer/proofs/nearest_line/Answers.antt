-- `nearest_line`: the parts of the line stand one after the other. Assumes nothing.
use mathlib.Core.Path.{ap, sym, ◌∙◌}
use native.Mathlib.Omega.{arith}
use Rattle.std.specs.Prelude.{Result}
use Rattle.definitions.specs.JobText.{text, nearest_line, refusal_line}
use Rattle.enumerate.specs.declared.NearestPoint.{NearestPoint}
use Rattle.enumerate.specs.View.{nearest_answer}
use Rattle.refusals.specs.declared.Refusal.{Refusal}
use Rattle.refusals.specs.declared.Carried.{Carried}
use Rattle.writing.proofs.Texts.{appended_then, appended_as}
use Rattle.job_answer.proofs.nearest_line.Goals as goal

pub returns-in-Ok : goal.returns-in-Ok
unfolding text nearest_line
returns-in-Ok c =
    let head = appended_then (appended_then c.put.ensures c.decimal.ensures) c.put-in-Ok.ensures in
    let line = appended_then (appended_then (appended_then head c.hexadecimal.ensures) c.point.ensures) c.put-in-Ok-2.ensures in
    appended_as line (sym (ap (λ (x : Result NearestPoint Refusal). nearest_line (nearest_answer x c.args.zs.now)) c.in-Ok.is)) (omega (arith, c.requires.few))

pub returns-in-Err : goal.returns-in-Err
unfolding text nearest_line
returns-in-Err c =
    let same = ap (λ (x : Carried). refusal_line (text "nearest") x.number) c.from.ensures ∙ sym (ap (λ (x : Result NearestPoint Refusal). nearest_line (nearest_answer x c.args.zs.now)) c.in-Err.is) in
    appended_as c.refusal_line.ensures same (omega arith)
