-- `residuals_of` writes the residuals: the invariant has those below `level`. Assumes nothing.
use mathlib.Core.Path.{◌≡◌}
use Prim.Native.Nat.{ℕ, ◌<◌}
use lib.IntN.{pos}
use lib.Ieee.{nan, binary64, sub}
use lib.ListN.{length, get_or}
use Rattle.rounding.specs.Integers.{to_double}
use Rattle.definitions.specs.Table.{coordinate, largest_dimension}
use Rattle.resume.proofs.residuals_of.Given as goal

abbrev pub invariant-loop-level : goal.invariant-loop-level
invariant-loop-level l = record {
  long : length l.rest ≡ largest_dimension;
  written : (k : ℕ) → k < l.level → get_or l.rest k nan ≡ sub binary64 (coordinate l.target k) (to_double (get_or l.point k (pos 0)));
}
