-- `read_integers` meets its contract: each integer passed has 64 bits. Assumes nothing.
use Prim.Native.Nat.{ℕ, suc, ◌<◌}
use mathlib.Core.List.{List, [], ◌∷◌}
use native.Mathlib.Omega.{arith}
use lib.Dec.{T, lt→ltb}
use lib.ListN.{length, get_or}
use lib.IntN.{ℤ, pos}
use borrow.Author.Count.{below_more}
use Rattle.rounding.specs.Integers.{is_i64}
use Rattle.definitions.specs.Admitted.{all_i64}
use Rattle.definitions.proofs.Admissions.{all_i64_nil, all_i64_intro}
use Rattle.snowgimmer.proofs.integers.read_integers.Goals as goal

-- at every place
all_integers : (zs : List ℤ) → ((k : ℕ) → k < length zs → T (is_i64 (get_or zs k (pos 0)))) → T (all_i64 zs)
all_integers [] h = all_i64_nil
all_integers (z ∷ zs) h = all_i64_intro z zs (h 0 (omega arith)) (all_integers zs (λ k b. h (suc k) (omega arith)))

pub returns : goal.returns
returns c = all_integers _ (λ k b. c.loop-value.invariant k (omega arith))

pub loop-value-preserved : goal.loop-value-preserved
loop-value-preserved c = below_more _ _ c.loop-value.invariant (lt→ltb _ _ (omega arith))
