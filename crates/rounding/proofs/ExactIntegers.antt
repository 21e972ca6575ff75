-- An integer from -2 ^ 53 to 2 ^ 53 is one that a double counts without a gap. Assumes nothing.
use Rattle.std.proofs.Common.{◌≡◌, ℕ, ◌-◌, ◌^◌, ◌≤◌, true, T, ℤ, pos, negsuc, sym, refl, subst, arith, lt→ltb, le-leb, leb-true}
use lib.Ieee.{binary64, in_float}
use lib.Signed.{le_z}

pub without_gap : (z : ℤ) → le_z (negsuc (2 ^ 53 - 1)) z ≡ true → le_z z (pos (2 ^ 53)) ≡ true → T (in_float binary64 z)
unfolding in_float
without_gap (pos n) low high = subst T (sym high) tt
without_gap (negsuc n) low high = let h : n ≤ 2 ^ 53 - 1 = leb-true n (2 ^ 53 - 1) low in lt→ltb n (2 ^ 53) (omega arith)

pub whole_without_gap : (k : ℕ) → k ≤ 2 ^ 53 → T (in_float binary64 (pos k))
whole_without_gap k h = without_gap (pos k) refl (le-leb k (2 ^ 53) h)
