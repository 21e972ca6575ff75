-- Constants of the code, which a check gives by their bits. Assumes nothing.
use Rattle.std.proofs.Common.{◌≡◌, false, pos, negsuc, refl}
use lib.Ieee.{fin, binary64, of_bits}

-- 0.0
pub zero_is : of_bits binary64 0 ≡ fin false 0 (pos 0)
unfolding of_bits
zero_is = refl

-- 4503599627370496.0, which is 2^52
pub limit_is : of_bits binary64 4841369599423283200 ≡ fin false 1 (pos 52)
unfolding of_bits
limit_is = refl

-- 1.0
pub one_is : of_bits binary64 4607182418800017408 ≡ fin false 1 (pos 0)
unfolding of_bits
one_is = refl

-- 2.220446049250313e-16, which is 2^-52
pub epsilon_is : of_bits binary64 4372995238176751616 ≡ fin false 1 (negsuc 51)
unfolding of_bits
epsilon_is = refl
