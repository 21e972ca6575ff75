-- `change_all` meets its contract: the coordinates passed are changed, the others as they were. Assumes nothing.
use mathlib.Core.Path.{◌≡◌}
use Prim.Native.Nat.{ℕ, ◌<◌, ◌≤◌}
use Rattle.definitions.specs.Reference.{cycles, changed}
use Rattle.reference.proofs.change_all.Given as goal

abbrev pub invariant-loop-i : goal.invariant-loop-i
invariant-loop-i l =
    ((k : ℕ) → k < l.i → cycles l.point k ≡ changed l.initial.point l.r k) × ((k : ℕ) → l.i ≤ k → cycles l.point k ≡ cycles l.initial.point k)
