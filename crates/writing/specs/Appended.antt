-- A text written behind what is there. Definitions only.
use Rattle.std.specs.Prelude.{◌≡◌, ℕ, ◌≤◌, List, ◌++◌, length}

-- the text, of at most `bound` bytes, stands behind the bytes before, and `after` is all of them
pub record Appended (before text : List ℕ) (bound : ℕ) (after : List ℕ) : Type 0 where
  pub bytes : after ≡ before ++ text
  pub within : length text ≤ bound
