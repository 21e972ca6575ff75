-- `children_test::level` is proved: a child takes at most two steps, so what `next` requires of them holds. Assumes nothing.
use Prim.Native.Nat.{◌+◌, ◌*◌, ◌≤◌}
use Rattle.children_test.proofs.level.Given as goal

abbrev pub invariant-loop-count : goal.invariant-loop-count
invariant-loop-count l = l.g.step ≤ 2 * l.count + 1
