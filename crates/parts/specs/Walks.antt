-- What `read_walk` and `write_walk` ask for, and what they leave. Definitions only.
use Rattle.std.specs.Prelude.{◌≡◌, true, List, ℕ, ◌≤◌, ◌<◌, length, ℤ, Float}
use Rattle.definitions.specs.Table.{largest_dimension}
use Rattle.definitions.specs.Block.{Block, is_sound, part_table, part_target, part_machine, written_walk}
use Rattle.resume.specs.declared.Walk.{Walk}
use Rattle.resume.specs.View.{machine_of}
use Rattle.resume.specs.Ready.{Falling, Sound}
use Rattle.parts.specs.Parts.{PartLengths, Holds}

-- ---- `read_level`
pub record LevelReady (p : Block) (i : ℕ) : Type 0 where
  pub lengths : PartLengths p
  pub below : i < largest_dimension

-- ---- `read_walk`
pub record ReadReady (p : Block) : Type 0 where
  pub lengths : PartLengths p
  pub sound : is_sound p.counts ≡ true

pub record WalkRead (p : Block) (r : Walk) : Type 0 where
  pub is : machine_of (part_table p).weights r ≡ part_machine p
  pub sound : Sound (part_table p).weights (part_table p).mu (part_target p) r

-- ---- `write_walk`: a walk of n levels that is not over
pub record WriteReady (n : ℕ) (s : Walk) (p : Block) : Type 0 where
  pub lengths : PartLengths p
  pub small : n ≤ largest_dimension
  pub point_length : length s.point ≡ largest_dimension
  pub best_length : length s.best ≡ largest_dimension
  pub levels_length : length s.levels ≡ largest_dimension
  pub some : 1 ≤ s.count
  pub falling : Falling n s.nodes s.levels 0 s.count

-- whatever the weights, the slices hold the walk
abbrev pub WalkWritten : ℕ → Walk → List Float → List Float → List ℤ → List ℕ → Type 0
WalkWritten n s front reals integers counts = (weights : List Float) → length weights ≡ n → Holds (written_walk front n (machine_of weights s)) reals integers counts
