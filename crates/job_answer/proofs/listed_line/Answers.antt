-- `listed_line`: the parts of the line stand one after the other. Assumes nothing.
use mathlib.Core.Path.{refl}
use native.Mathlib.Omega.{arith}
use Rattle.writing.proofs.Texts.{appended_then, appended_as}
use Rattle.job_answer.proofs.listed_line.Goals as goal

pub returns : goal.returns
returns c = appended_as (appended_then (appended_then c.hexadecimal.ensures c.point.ensures) c.put.ensures) refl (omega (arith, c.requires.few))
