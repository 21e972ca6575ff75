-- Kinds of floats of a format. Definitions only.
use Rattle.std.specs.Prelude.{◌≡◌, false, not, T, is_nan, Float}
use Rattle.std.specs.Float.{Format}
use Rattle.std.specs.Float.Ieee.{fits}
use Rattle.std.specs.Float.Ieee.Scale.{finite}
use Rattle.rounding.specs.Doubles.{negative}

-- fits, and no NaN
pub record Number (f : Format) (x : Float) : Type 0 where
  pub fit : T (fits f x)
  pub num : T (not (is_nan x))

-- fits, and neither NaN nor an infinity
pub record Finite (f : Format) (x : Float) : Type 0 where
  pub fit : T (fits f x)
  pub fin : T (finite x)

-- a number whose sign is plus: an infinity may be one, minus zero is not
pub record NonNegative (f : Format) (x : Float) : Type 0 where
  pub num : Number f x
  pub plus : negative x ≡ false
