-- `doubles_at`: the places passed are the first items' doubles. Assumes nothing.
use mathlib.Core.Path.{◌≡◌}
use Prim.Native.Nat.{◌≤◌}
use lib.ListN.{length, take}
use Rattle.definitions.specs.JobLayout.{items_at, doubles}
use Rattle.reading.proofs.doubles_at.Given as goal

abbrev pub invariant-loop-i : goal.invariant-loop-i
invariant-loop-i l =
    record { count : l.i ≤ length l.initial.out; size : length l.out ≡ length l.initial.out; first : take l.i l.out ≡ doubles (items_at l.input l.offset l.i) }
