-- `listed_lines`: the lines of the rows passed are written. Assumes nothing.
use mathlib.Core.Path.{◌≡◌, sym}
use Prim.Native.Nat.{◌+◌, ◌-◌, ◌*◌}
use native.Mathlib.Omega.{arith}
use native.Mathlib.Numerals.{add-one}
use Rattle.writing.proofs.Texts.{appended_none, appended_then, appended_as}
use Rattle.job_answer.proofs.Lines.{no_rows, next_row}
use Rattle.job_answer.proofs.listed_lines.Goals as goal

pub loop-i-init : goal.loop-i-init
loop-i-init c =
    let a = c.args in
    appended_as (appended_none a.text.now) (sym (no_rows a.n a.distances.now a.points.now)) (omega arith)

pub loop-i-preserved : goal.loop-i-preserved
loop-i-preserved c =
    let l = c.loop-i in
    let a = c.args in
    let same : l.i * a.n + a.n - l.i * a.n ≡ a.n = omega arith in
    let line = next_row a.n l.i a.distances.now a.points.now in
    let more = appended_then l.invariant c.listed_line.ensures in
    appended_as more (cc (same, line, add-one l.i)) (omega arith)
