-- `read_levels`: the levels passed are those of the part, from the highest down. Assumes nothing.
use Prim.Native.Nat.{ℕ, ◌-◌}
use Rattle.lists.proofs.Filling.{Filled}
use Rattle.definitions.specs.Table.{largest_dimension}
use Rattle.definitions.specs.Block.{part_open}
use Rattle.resume.specs.View.{no_level}
use Rattle.parts.specs.Parts.{block}
use Rattle.parts.specs.Levels.{level_in}
use Rattle.parts.proofs.levels.read_levels.Given as goal

abbrev pub invariant-loop-i : goal.invariant-loop-i
invariant-loop-i l = Filled (λ (j : ℕ). level_in (block l.reals l.integers l.counts) (part_open l.counts - 1 - j)) no_level largest_dimension l.levels l.i
