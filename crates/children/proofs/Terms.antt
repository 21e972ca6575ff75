-- The code's term, of an integer's double, is the definition's. Assumes nothing.
use mathlib.Core.Path.{◌≡◌, ap, sym, ◌∙◌}
use lib.IntN.{ℤ}
use lib.Ieee.{Float, binary64, sub, mul}
use Rattle.rounding.specs.Integers.{to_double}
use Rattle.definitions.specs.Distance.{term}
use Rattle.definitions.proofs.Distances.{term_is}

pub term_at : (w c d : Float) (z : ℤ) → d ≡ to_double z → mul binary64 (mul binary64 w (sub binary64 c d)) (sub binary64 c d) ≡ term w c z
term_at w c d z e = ap (λ (x : Float). mul binary64 (mul binary64 w (sub binary64 c x)) (sub binary64 c x)) e ∙ sym (term_is w c z)
