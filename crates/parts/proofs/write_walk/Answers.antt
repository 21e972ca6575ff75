-- `write_walk`: five calls, whose slices together are the part of the walk's machine. Assumes nothing.
use Prim.Native.Nat.{◌-◌, ◌<◌}
use native.Mathlib.Omega.{arith}
use Rattle.parts.proofs.Written.{few, low_few, point_ready, second_length, walk_written}
use Rattle.parts.proofs.write_walk.Goals as goal
use Rattle.parts.proofs.write_walk.Goals.{After-slice_known-3-1}

-- ---- places of the code: the start, seen from the first call; the calls, from one to the next
-- ---- the needs
pub write_reals-requires : goal.write_reals-requires
write_reals-requires c =
    let r = c.requires in
    record { few = few r; to_length = r.lengths.reals_length }

-- the lowest open level
inside : (c : After-slice_known-3-1) → c.args.s.count - 1 < 23
inside c =
    let r = c.requires in
    omega (arith, few r, r.some)

pub offset_bounds-s-top : goal.offset_bounds-s-top
offset_bounds-s-top c = omega (arith, inside c)

pub bounds-s-top : goal.bounds-s-top
bounds-s-top c = inside c

pub overflow_add-f : goal.overflow_add-f
overflow_add-f c =
    let r = c.requires in
    omega (arith, low_few r, r.small)

pub copy_places-requires : goal.copy_places-requires
copy_places-requires c = point_ready c.requires

pub write_integers-requires : goal.write_integers-requires
write_integers-requires c =
    let r = c.requires in
    record {
      few = few r;
      to_length = second_length r c.copy_places.new.to c.copy_places.ensures c.best_size.result c.best_size.ensures c.copy_places-2.new.to c.copy_places-2.ensures;
    }

pub write_counts-requires : goal.write_counts-requires
write_counts-requires c =
    let r = c.requires in
    record { few = few r; to_length = r.lengths.counts_length }

pub returns : goal.returns
returns c =
    walk_written c.requires c.copy_places.new.to c.copy_places.ensures c.best_size.result c.best_size.ensures c.copy_places-2.new.to c.copy_places-2.ensures _ _ _ c.write_reals.ensures c.write_integers.ensures c.write_counts.ensures
