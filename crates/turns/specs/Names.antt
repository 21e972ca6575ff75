-- The functions on the counts of the block: what they ask for, and the name that they find. Definitions only.
use Rattle.std.specs.Prelude.{◌≡◌, Option, Some, None, List, ℕ, ◌≤◌, length}
use Rattle.definitions.specs.Block.{Block}
use Rattle.definitions.specs.Turn.{served}

pub record HeldReady (counts : List ℕ) (name : ℕ) : Type 0 where
  pub counts_length : length counts ≡ 768
  pub least : 1 ≤ name
  pub most : name ≤ 8

-- r is the name that is served in each block with these counts, and none where the specification has 0
abbrev pub ServedBy : List ℕ → ℕ → Option ℕ → Type 0
ServedBy counts last (Some name) = 1 ≤ name × ((b : Block) → b.counts ≡ counts → name ≡ served b last)
ServedBy counts last None = (b : Block) → b.counts ≡ counts → 0 ≡ served b last
