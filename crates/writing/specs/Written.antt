-- A text written into a lent slice of bytes. Definitions only.
use Rattle.std.specs.Prelude.{◌≡◌, ℕ, ◌+◌, ◌≤◌, List, length}
use Rattle.lists.specs.Over.{over}

-- the text was written over out from an index on: `next` is the index after it, at most `bound` further and within out, and
-- `after` is out at exit
pub record Written (out : List ℕ) (at : ℕ) (text : List ℕ) (bound next : ℕ) (after : List ℕ) : Type 0 where
  pub index : next ≡ at + length text
  pub within : next ≤ at + bound
  pub room : next ≤ length out
  pub bytes : after ≡ over out at text
