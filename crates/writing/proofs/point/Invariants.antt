-- `point`: the coordinates passed are written. Assumes nothing.
use Rattle.std.proofs.Common.{take}
use Rattle.definitions.specs.JobText.{point_text}
use Rattle.writing.specs.Sizes.{point_size}
use Rattle.writing.specs.Written.{Written}
use Rattle.writing.proofs.point.Given as goal

abbrev pub invariant-loop-z : goal.invariant-loop-z
invariant-loop-z l = Written l.initial.out l.at (point_text (take l.z-index l.zs)) (point_size l.z-index) l.next l.out
