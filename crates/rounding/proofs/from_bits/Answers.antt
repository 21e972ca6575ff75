-- `rounding::from_bits` meets its contract: above the infinity's pattern, the sign taken off, a pattern is a NaN's. Assumes nothing.
use Rattle.std.proofs.Common.{◌≡◌, ◌%◌, sym, refl, ◌∙◌, le-ltb, lt-ltb}
use lib.Ieee.{nan, binary64, of_bits, div}
use lib.Ieee.Bits.{nan_bits_is, nan_bits_above}
use Rattle.rounding.proofs.Comparison.{failed, is_nan_lem}
use Rattle.rounding.proofs.from_bits.Goals as goal

zero_by_zero : div binary64 (of_bits binary64 0) (of_bits binary64 0) ≡ nan
unfolding div of_bits
zero_by_zero = refl

pub returns-then-bits-gt9218868437227405312 : goal.returns-then-bits-gt9218868437227405312
returns-then-bits-gt9218868437227405312 c =
    let bits = c.args.bits in
    zero_by_zero ∙ sym (is_nan_lem (of_bits binary64 bits) (sym (nan_bits_is binary64 bits) ∙ nan_bits_above binary64 bits ∙ lt-ltb 9218868437227405312 (bits % 9223372036854775808) c.if-bits-gt9218868437227405312.true))

pub float_from_bits-result : goal.float_from_bits-result
float_from_bits-result c =
    let bits = c.args.bits in
    failed (nan_bits_above binary64 bits ∙ le-ltb 9218868437227405312 (bits % 9223372036854775808) c.if-bits-gt9218868437227405312.false)
