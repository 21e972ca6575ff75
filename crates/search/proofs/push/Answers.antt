-- `push` is the leaf of `list`: its two exits are laws of `ListLeaf`. Assumes nothing.
use Prim.Native.Nat.{◌+◌, ◌*◌, ◌≤◌}
use native.Mathlib.Omega.{arith}
use lib.ListN.{length}
use Rattle.lists.proofs.Copies.{copied_part}
use Rattle.search.proofs.ListLeaf.{inside, push_full, push_stored}
use Rattle.search.proofs.push.Goals as goal
use Rattle.search.proofs.push.Goals.{Else-at-distances}

pub returns-then-at-distances : goal.returns-then-at-distances
returns-then-at-distances c =
    let a = c.args in
    push_full a.n a.point.now a.distance a.found.now a.distances.now a.points.now (omega arith)

-- there is a place
room : (m : Else-at-distances) → let a = m.args in a.found.now * a.n + a.n ≤ length a.points.now
room m =
    let a = m.args in
    inside a.n a.found.now a.distances.now a.points.now (omega arith) m.requires.points_length

pub overflow_mul-start : goal.overflow_mul-start
overflow_mul-start c = omega (arith, room c)

pub overflow_add-end : goal.overflow_add-end
overflow_add-end c = omega (arith, room c)

pub offset_bounds-points-start : goal.offset_bounds-points-start
offset_bounds-points-start c = omega (arith, room c)

pub slice_bounds-copy-end : goal.slice_bounds-copy-end
slice_bounds-copy-end c = omega (arith, room c)

pub returns : goal.returns
returns c =
    let m = (goal.at.returns c).Else-at-distances in
    let a = c.args in
    push_stored a.n a.point.now a.distance a.found.now a.distances.now a.points.now (omega arith) c.requires.points_length c.requires.point_fits _
    (copied_part a.points.now a.point.now (a.found.now * a.n) a.n c.copy.new.to (room m) c.requires.point_fits c.copy.ensures)
