-- `write_points`: the rows passed hold the points' coordinates in the order. Assumes nothing.
use mathlib.Core.Path.{◌≡◌}
use mathlib.Core.List.{[], map}
use Prim.Native.Nat.{◌≤◌}
use lib.ListN.{length, take}
use Rattle.definitions.specs.Calls.{written, coordinates}
use Rattle.definitions.specs.Rows.{row}
use Rattle.listing.proofs.output.write_points.Given as goal

abbrev pub invariant-loop-i : goal.invariant-loop-i
invariant-loop-i l = (l.i ≤ length l.order) × (length l.points ≡ length l.initial.points) × (l.points ≡ written (coordinates (map (row l.n [] l.found) (take l.i l.order))) l.initial.points)
