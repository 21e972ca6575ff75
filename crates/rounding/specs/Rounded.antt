-- What the inner functions of `round_away` ask for and give. Definitions only.
use Rattle.std.specs.Prelude.{◌≡◌, ℕ, ◌^◌, ◌<◌, false, T, pos, neg_ℤ, Float}
use Rattle.std.specs.Float.{fin}
use Rattle.std.specs.Float.Ieee.{lt, neg}
use Rattle.rounding.specs.Integers.{round_away, to_double}
use Rattle.rounding.specs.declared.RoundedAway.{RoundedAway}

-- above 0 and below 2^63
pub record InRange (x : Float) : Type 0 where
  pub above : T (lt (fin false 0 (pos 0)) x)
  pub below : T (lt x (fin false 1 (pos 63)))

-- r is the nearest integer to x, and -r to -x
pub record Rounds (x : Float) (r : ℕ) : Type 0 where
  pub under : r < 2 ^ 63
  pub own : pos r ≡ round_away x
  pub negated : neg_ℤ (pos r) ≡ round_away (neg x)

-- the nearest integer to v, and its double
pub record IntegerAndDouble (v : Float) (r : RoundedAway) : Type 0 where
  pub integer : r.integer ≡ round_away v
  pub double : r.double ≡ to_double (round_away v)
