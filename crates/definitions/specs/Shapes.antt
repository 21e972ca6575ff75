-- The lengths that inner functions ask for, which the checks of their callers have settled. Definitions only.
use Rattle.std.specs.Prelude.{◌≡◌, List, ℕ, ◌*◌, ◌≤◌, length, ℤ, Float}
use Rattle.definitions.specs.Table.{largest_budget}

-- a table of at most `largest` weights with n·n entries mu, and a target of n numbers
pub record Shaped (largest : ℕ) (weights mu target : List Float) : Type 0 where
  pub small : length weights ≤ largest
  pub square : length mu ≡ length weights * length weights
  pub target_length : length target ≡ length weights

-- with an output of n integers beside it
pub record ShapedOut (largest : ℕ) (weights mu target : List Float) (out : List ℤ) : Type 0 where
  pub shape : Shaped largest weights mu target
  pub output_length : length out ≡ length weights

-- and a budget within its limit: what a walk asks for
pub record WalkShaped (largest : ℕ) (weights mu target : List Float) (out : List ℤ) (budget : ℕ) : Type 0 where
  pub shape : ShapedOut largest weights mu target out
  pub bounded : budget ≤ largest_budget
