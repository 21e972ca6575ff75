-- `job_text`: a layout's fault, the settings' refusal, or the list's part after the nearest line. Assumes nothing.
use mathlib.Core.Path.{ap, sym, ◌∙◌}
use mathlib.Core.List.{append_assoc}
use native.Mathlib.Omega.{arith}
use Rattle.definitions.specs.JobText.{text, job_text, refusal_line, nearest_line, list_lines, ratio_line, job_nearest, job_list, job_ratio}
use Rattle.definitions.proofs.JobTexts.{text_of_job, text_of_refusal}
use Rattle.refusals.specs.declared.Carried.{Carried}
use Rattle.refusals.specs.Numbers.{numbered, verdict}
use Rattle.std.specs.Prelude.{Result}
use Rattle.reading.specs.declared.Job.{Job}
use Rattle.reading.specs.declared.LayoutFault.{LayoutFault}
use Rattle.reading.specs.View.{job_read, layout_read}
use Rattle.writing.proofs.Texts.{appended_then, appended_as}
use Rattle.job_answer.proofs.job_text.Goals as goal

pub returns-in_default : goal.returns-in_default
unfolding text job_text
returns-in_default c =
    appended_as c.refusal_line.ensures (sym (ap (λ (r : Result Job LayoutFault). job_text (layout_read r)) c.in_default.is)) (omega arith)

pub returns-in-Err : goal.returns-in-Err
unfolding text
returns-in-Err c =
    let j = job_read c.in-Ok.job in
    let e = numbered c.in-Err.e in
    let told = text_of_refusal j e (sym c.settings_check.ensures ∙ ap verdict c.in-Err.is) in
    let same = ap (λ (values : Carried). refusal_line (text "job") values.number) c.from.ensures ∙ sym (ap (λ (r : Result Job LayoutFault). job_text (layout_read r)) c.in-Ok.is ∙ told) in
    appended_as c.refusal_line-in-Err.ensures same (omega arith)

pub returns-in-Ok-settings_check : goal.returns-in-Ok-settings_check
returns-in-Ok-settings_check c =
    let j = job_read c.in-Ok.job in
    let parts = sym (append_assoc (nearest_line (job_nearest j)) (list_lines (job_list j)) (ratio_line (job_ratio j))) in
    let lines = text_of_job j (sym c.settings_check.ensures ∙ ap verdict c.in-Ok-settings_check.is) in
    let same = parts ∙ sym (ap (λ (r : Result Job LayoutFault). job_text (layout_read r)) c.in-Ok.is ∙ lines) in
    appended_as (appended_then c.nearest_part.ensures c.list_part.ensures) same (omega arith)
