-- `rounding::magnitude` is the double with the sign taken off. Assumes nothing.
use Rattle.std.proofs.Common.{◌≡◌, false, refl, ◌∙◌}
use lib.Ieee.{Float, nan, inf, fin}
use Rattle.std.specs.Float.{float_with_sign}
use Rattle.rounding.specs.Doubles.{magnitude}
use Rattle.rounding.proofs.magnitude.Goals as goal

same : (x : Float) → float_with_sign false x ≡ magnitude x
unfolding float_with_sign
same nan = refl
same (inf s) = refl
same (fin s m e) = refl

pub returns : goal.returns
returns c = c.abs.ensures.value ∙ same c.args.x
