-- `number_at`: the bytes passed, from the last, are a number. Assumes nothing.
use mathlib.Core.Path.{◌≡◌}
use Prim.Native.Nat.{◌+◌, ◌-◌, ◌*◌, ◌^◌, ◌≤◌, ◌<◌}
use Rattle.definitions.specs.JobLayout.{number_at}
use Rattle.reading.proofs.number_at.Given as goal

abbrev pub invariant-loop-left : goal.invariant-loop-left
invariant-loop-left l =
    record { count : l.left ≤ l.size; value-so-far : l.value ≡ number_at l.input (l.offset + l.left) (l.size - l.left); bound : l.value < 2 ^ (8 * (l.size - l.left)) }
