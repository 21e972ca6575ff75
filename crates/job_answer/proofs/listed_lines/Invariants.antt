-- `listed_lines`: the lines of the rows passed are written. Assumes nothing.
use Prim.Native.Nat.{◌*◌}
use Rattle.definitions.specs.JobText.{listed_lines}
use Rattle.definitions.specs.Rows.{rows}
use Rattle.writing.specs.Appended.{Appended}
use Rattle.job_answer.specs.Sizes.{listed_size}
use Rattle.job_answer.proofs.listed_lines.Given as goal

abbrev pub invariant-loop-i : goal.invariant-loop-i
invariant-loop-i l = Appended l.initial.text (listed_lines (rows l.n l.i l.distances l.points)) (listed_size * l.i) l.text
