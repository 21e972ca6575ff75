-- What the functions on a name's part ask for, and what they leave. Definitions only.
use Rattle.std.specs.Prelude.{◌≡◌, List, ℕ, ◌≤◌, length, replicate, ℤ, pos, Float}
use Rattle.definitions.specs.Table.{plus_zero, largest_dimension, largest_budget}
use Rattle.definitions.specs.Shapes.{Shaped}
use Rattle.definitions.specs.Block.{Block, reals_of_part, integers_of_part, counts_of_part, part_dimension, part_nodes, part_open}

-- a part of three slices
abbrev pub block : List Float → List ℤ → List ℕ → Block
block reals integers counts = record { reals = reals; integers = integers; counts = counts }

pub record PartLengths (p : Block) : Type 0 where
  pub reals_length : length p.reals ≡ reals_of_part
  pub integers_length : length p.integers ≡ integers_of_part
  pub counts_length : length p.counts ≡ counts_of_part

-- three slices hold a part
pub record Holds (p : Block) (reals : List Float) (integers : List ℤ) (counts : List ℕ) : Type 0 where
  pub reals_are : reals ≡ p.reals
  pub integers_are : integers ≡ p.integers
  pub counts_are : counts ≡ p.counts

-- a part of zeros, as long as another
abbrev pub zeros : Block → Block
zeros p = record { reals = replicate (length p.reals) plus_zero; integers = replicate (length p.integers) (pos 0); counts = replicate (length p.counts) 0 }

-- `levels_rise`: a part of at most 23 levels and 2^60 nodes
pub record RiseReady (counts : List ℕ) : Type 0 where
  pub counts_length : length counts ≡ counts_of_part
  pub small : part_dimension counts ≤ largest_dimension
  pub few : part_nodes counts ≤ largest_budget
  pub most : part_open counts ≤ part_dimension counts

-- `write_table`
pub record TableReady (weights mu target reals : List Float) : Type 0 where
  pub shape : Shaped largest_dimension weights mu target
  pub reals_length : length reals ≡ reals_of_part
