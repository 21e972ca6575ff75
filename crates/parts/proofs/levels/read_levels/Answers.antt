-- `read_levels`: the levels passed are those of the part, from the highest down. Assumes nothing.
use Prim.Native.Nat.{ℕ, ◌≤◌, ◌-◌}
use native.Mathlib.Omega.{arith}
use Rattle.lists.proofs.Filling.{filled_next}
use Rattle.definitions.specs.Table.{largest_dimension}
use Rattle.definitions.specs.Block.{part_open}
use Rattle.definitions.proofs.Block.{sound_counts}
use Rattle.resume.specs.declared.OpenLevel.{OpenLevel}
use Rattle.resume.specs.View.{no_level}
use Rattle.parts.specs.Parts.{block}
use Rattle.parts.specs.Levels.{level_in}
use Rattle.parts.proofs.levels.read_levels.Goals as goal
use Rattle.parts.proofs.levels.read_levels.Goals.{At-loop-i}

-- at most 23 are open
few : (b : At-loop-i) → part_open b.args.counts.now ≤ largest_dimension
few b =
    let s = sound_counts b.args.counts.now b.requires.sound in
    omega (arith, s.most, s.small)

abbrev levels : (l : At-loop-i) → ℕ → OpenLevel
levels l j =
    let a = l.args in
    level_in (block a.reals.now a.integers.now a.counts.now) (part_open a.counts.now - 1 - j)

pub read_level-requires : goal.read_level-requires
read_level-requires c =
    let b = (goal.at.read_level-requires c).At-loop-i in
    record { lengths = b.requires.lengths; below = omega (arith, few b) }

pub bounds-levels-i : goal.bounds-levels-i
bounds-levels-i c = omega (arith, few (goal.at.bounds-levels-i c).At-loop-i, c.loop-i-test.true)

pub loop-i-preserved : goal.loop-i-preserved
loop-i-preserved c =
    let l = (goal.at.loop-i-preserved c).At-loop-i in
    filled_next (levels l) no_level l.loop-i.invariant (omega (arith, few l, c.loop-i-test.true)) c.read_level.ensures
