-- `read_walk`: the point and the best are copied, and the levels are those of the part. Assumes nothing.
use mathlib.Core.Path.{sym, ◌∙◌}
use native.Mathlib.Nat.{le_of_eq}
use native.Mathlib.Omega.{arith}
use Rattle.parts.proofs.Reading.{lent_length, copy_length, copy_is, small, point_inside, best_inside, best_length, best_copied, walk_read}
use Rattle.parts.proofs.read_walk.Goals as goal

pub slice_bounds-point-end : goal.slice_bounds-point-end
slice_bounds-point-end c = small c.requires

pub slice_bounds-copy-end : goal.slice_bounds-copy-end
slice_bounds-copy-end c = sym (lent_length _ (small c.requires))

pub overflow_add-end : goal.overflow_add-end
overflow_add-end c = record { fits = omega (arith, small c.requires) }

pub slice_bounds-copy-end-2 : goal.slice_bounds-copy-end-2
slice_bounds-copy-end-2 c = best_inside c.requires

pub slice_bounds-best-end : goal.slice_bounds-best-end
slice_bounds-best-end c = small c.requires

pub slice_bounds-copy-end-3 : goal.slice_bounds-copy-end-3
slice_bounds-copy-end-3 c = sym (lent_length _ (small c.requires))

pub returns : goal.returns
returns c =
    let r = c.requires in
    let long = point_inside r in
    let whole = le_of_eq (sym (best_length r)) in
    walk_read r c.read_levels-levels.result c.read_levels-levels.ensures _ _
    (copy_length _ (small r) _ _ long c.copy.ensures)
    (copy_is _ (small r) _ _ long c.copy.ensures)
    (copy_length _ (small r) _ _ whole c.copy-2.ensures)
    (copy_is _ (small r) _ _ whole c.copy-2.ensures ∙ best_copied r)
