-- `write_distances`: the places passed hold the distances in the order. Assumes nothing.
use mathlib.Core.Path.{◌≡◌}
use mathlib.Core.List.{map}
use Prim.Native.Nat.{ℕ, ◌≤◌}
use lib.ListN.{length, get_or, take}
use lib.Ieee.{nan}
use Rattle.definitions.specs.Calls.{written}
use Rattle.listing.proofs.output.write_distances.Given as goal

abbrev pub invariant-loop-i : goal.invariant-loop-i
invariant-loop-i l = (l.i ≤ length l.order) × (length l.distances ≡ length l.initial.distances) × (l.distances ≡ written (map (λ (j : ℕ). get_or l.found j nan) (take l.i l.order)) l.initial.distances)
