-- `initialize_centers`: the rows passed are added to the target. Assumes nothing.
use Prim.Native.Nat.{◌+◌, ◌*◌, ◌≤◌}
use native.Mathlib.Omega.{arith}
use lib.ListN.{length}
use Rattle.running.proofs.Rows.{row_inside, begun_none, begun_next, begun_all}
use Rattle.running.proofs.centers.initialize_centers.Goals as goal
use Rattle.running.proofs.centers.initialize_centers.Goals.{At-loop-j, In-loop-j, Start}

pub loop-j-init : goal.loop-j-init
loop-j-init c =
    begun_none c.args.mu.now c.args.target.now c.args.centers.now _ c.requires.centers_length c.copy.ensures

-- the row lies in the table
inside : (m : In-loop-j) → m.loop-j.j * length m.args.target.now + m.loop-j.j ≤ length m.args.mu.now
inside m = omega (arith, row_inside (length m.args.target.now) m.loop-j.j (omega arith), m.requires.square)

pub overflow_mul-start : goal.overflow_mul-start
overflow_mul-start c = omega (arith, inside (goal.at.overflow_mul-start c).In-loop-j)

pub overflow_add-end : goal.overflow_add-end
overflow_add-end c = omega (arith, inside (goal.at.overflow_add-end c).In-loop-j)

pub offset_bounds-mu-start : goal.offset_bounds-mu-start
offset_bounds-mu-start c = omega (arith, inside (goal.at.offset_bounds-mu-start c).In-loop-j)

pub slice_bounds-add_row-end : goal.slice_bounds-add_row-end
slice_bounds-add_row-end c = omega (arith, inside (goal.at.slice_bounds-add_row-end c).In-loop-j)

pub loop-j-preserved : goal.loop-j-preserved
loop-j-preserved c =
    begun_next c.args.mu.now c.args.target.now c.loop-j.invariant (omega arith) _ c.add_row.ensures

pub returns : goal.returns
returns c = begun_all c.args.mu.now c.args.target.now c.loop-j.invariant (omega arith)
