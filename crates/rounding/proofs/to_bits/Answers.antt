-- `rounding::to_bits` meets its contract: what differs from itself is the NaN, whose pattern is written out. Assumes nothing.
use Rattle.std.proofs.Common.{◌≡◌, sym, refl, ap, ◌∙◌}
use lib.Ieee.{nan, binary64, to_bits}
use Rattle.rounding.proofs.Comparison.{is_nan_lem}
use Rattle.rounding.proofs.to_bits.Goals as goal

nan_bits : 9221120237041090560 ≡ to_bits binary64 nan
unfolding to_bits
nan_bits = refl

pub returns-then-is_nan : goal.returns-then-is_nan
returns-then-is_nan c =
    let x = c.args.x in
    nan_bits ∙ ap (to_bits binary64) (sym (is_nan_lem x (sym c.is_nan.ensures.value ∙ c.if-is_nan.true)))
