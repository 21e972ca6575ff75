-- `changed_range_check` meets its contract: no coordinate passed has the fault. Assumes nothing.
use mathlib.Core.Path.{◌≡◌}
use mathlib.Core.Bool.{false}
use Prim.Native.Nat.{ℕ, ◌<◌}
use Rattle.definitions.specs.Reference.{changed_fault}
use Rattle.reference.proofs.changed_range_check.Given as goal

abbrev pub invariant-loop-i : goal.invariant-loop-i
invariant-loop-i l = (k : ℕ) → k < l.i → changed_fault l.point l.r k ≡ false
