-- The text of a signed number from that of its magnitude. Assumes nothing.
use Rattle.std.proofs.Common.{◌≡◌, true, false, ◌++◌, ℤ, pos, negsuc, unsigned_abs, refl, true≢false, arith}
use borrow.Author.Tests.{ltb-true}
use lib.Signed.{lt_z}
use Rattle.definitions.specs.JobText.{text, decimal, signed_decimal}

pub not_negative : (z : ℤ) → lt_z z (pos 0) ≡ false → decimal (unsigned_abs z) ≡ signed_decimal z
unfolding signed_decimal
not_negative (pos n) h = refl
not_negative (negsuc n) h = absurd (true≢false h)

pub negative : (z : ℤ) → lt_z z (pos 0) ≡ true → text "-" ++ decimal (unsigned_abs z) ≡ signed_decimal z
unfolding signed_decimal text
negative (pos n) h = let below = ltb-true n 0 h in absurd (omega arith)
negative (negsuc n) h = refl
