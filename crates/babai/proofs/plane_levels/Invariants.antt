-- `plane_levels`: the arrays hold the levels done, and the coefficients below are untouched. Assumes nothing.
use mathlib.Core.Path.{◌≡◌}
use Prim.Native.Nat.{ℕ, ◌<◌}
use lib.ListN.{get_or}
use lib.Ieee.{nan}
use Rattle.definitions.specs.Table.{table}
use Rattle.definitions.specs.Seeds.{plane_levels, nearest_plane}
use Rattle.babai.proofs.Planes.{held}
use Rattle.babai.proofs.plane_levels.Given as goal

abbrev pub invariant-loop-i : goal.invariant-loop-i
invariant-loop-i l =
    ((k : ℕ) → k < l.i → get_or l.coefficients k nan ≡ get_or l.initial.coefficients k nan) × (plane_levels (table l.weights l.mu) l.initial.coefficients l.i (held (table l.weights l.mu) l.initial.coefficients l.i l.out l.coefficients) ≡ nearest_plane (table l.weights l.mu) l.initial.coefficients)
