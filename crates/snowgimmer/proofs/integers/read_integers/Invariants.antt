-- `read_integers` meets its contract: each integer passed has 64 bits. Assumes nothing.
use Prim.Native.Nat.{ℕ, ◌<◌}
use lib.Dec.{T}
use lib.ListN.{get_or}
use lib.IntN.{pos}
use Rattle.rounding.specs.Integers.{is_i64}
use Rattle.snowgimmer.proofs.integers.read_integers.Given as goal

abbrev pub invariant-loop-value : goal.invariant-loop-value
invariant-loop-value l = (k : ℕ) → k < l.value-index → T (is_i64 (get_or l.values k (pos 0)))
