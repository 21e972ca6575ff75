-- `list_lines`: the parts of the text stand one after the other. Assumes nothing.
use mathlib.Core.Path.{ap, sym, ◌∙◌}
use native.Mathlib.Omega.{arith}
use Rattle.std.specs.Prelude.{Result}
use Rattle.definitions.specs.JobText.{text, refusal_line}
use Rattle.listing.specs.declared.ListFound.{ListFound}
use Rattle.refusals.specs.declared.Refusal.{Refusal}
use Rattle.refusals.specs.declared.Carried.{Carried}
use Rattle.writing.proofs.Texts.{appended_then, appended_as}
use Rattle.job_answer.specs.Texts.{list_text, points_of}
use Rattle.job_answer.proofs.list_lines.Goals as goal

pub returns-in-Ok : goal.returns-in-Ok
unfolding text
returns-in-Ok c =
    let a = c.args in
    let three = appended_then (appended_then c.put.ensures c.decimal.ensures) c.put-in-Ok.ensures in
    let head = appended_then (appended_then three c.decimal-in-Ok.ensures) c.put-in-Ok-2.ensures in
    appended_as (appended_then head c.listed_lines.ensures) (sym (ap (λ (x : Result ListFound Refusal). list_text x a.n a.distances.now a.points.now) c.in-Ok.is)) (omega (arith, ap points_of c.in-Ok.is))

pub returns-in-Err : goal.returns-in-Err
unfolding text
returns-in-Err c =
    let a = c.args in
    let same = ap (λ (x : Carried). refusal_line (text "list") x.number) c.from.ensures ∙ sym (ap (λ (x : Result ListFound Refusal). list_text x a.n a.distances.now a.points.now) c.in-Err.is) in
    appended_as c.refusal_line.ensures same (omega arith)
