-- `rows_at`: the rows passed stand over zeros. Assumes nothing.
use mathlib.Core.Path.{◌≡◌}
use Prim.Native.Nat.{◌+◌, ◌*◌, ◌≤◌}
use lib.ListN.{length}
use Rattle.definitions.specs.JobLayout.{triangle}
use Rattle.reading.proofs.Rows.{rows_over_zeros, entries, enough}
use Rattle.reading.proofs.rows_at.Given as goal

abbrev pub invariant-loop-j : goal.invariant-loop-j
invariant-loop-j l =
    record { count : l.j ≤ l.n; offset : l.at ≡ l.section + 4 + 8 * triangle l.j; rows-so-far : l.mu ≡ rows_over_zeros l.n (entries l.input l.section l.n) (enough l.input l.section l.n) l.j; size : length l.mu ≡ l.n * l.n }
