-- The digits of a number at the end of an array. Definitions only.
use Rattle.std.specs.Prelude.{◌≡◌, ℕ, ◌≤◌, List, length, drop}
use Rattle.definitions.specs.JobText.{decimal}
use Rattle.writing.specs.Sizes.{decimal_size}

-- from start on
pub record DecimalDigits (n start : ℕ) (digits : List ℕ) : Type 0 where
  pub first : start ≤ decimal_size
  pub size : length digits ≡ decimal_size
  pub text : drop start digits ≡ decimal n
