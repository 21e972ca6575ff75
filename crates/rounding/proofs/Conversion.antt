-- The theorem of the conversion of an integer: its number is the exact one, rounded. So conversion keeps the order, gives a finite value for an i64, and is exact up to 2 ^ prec. Assumes nothing.
use Rattle.std.proofs.Common.{◌≡◌, ℕ, suc, ◌+◌, ◌-◌, ◌*◌, ◌^◌, ◌<◌, ◌≤◌, true, false, T, ℤ, pos, negsuc, sym, ap, ◌∙◌, suc-le-suc, le_trans, le_of_eq, lt_of_lt_of_le, lt_of_le_of_lt, le_of_lt, mul-le-mul_right, mul-pos, one-mul, mul-one, mul_right_comm, arith, lit≤, ltb→lt, leb→le, pow_pos, pow-add}
use native.Mathlib.Nat.{eq_of_mul-eq-mul_right}
use lib.Signed.{le_z}
use lib.Pow.{pow-lt}
use lib.Ieee.{Float, nan, inf, fin, Format, binary32, binary64, prec, emax, low, up, down, round, of_int, le, fits}
use lib.Ieee.Fits.{down_pos, round-fits}
use lib.Ieee.Exact.{HasValue}
use lib.Ieee.Back.{round_whole}
use lib.Ieee.Scale.{overflow}
use Rattle.rounding.specs.Integers.{is_i64}
use Rattle.rounding.proofs.Scaled.{scale, scaled, scale_pos, one_digit, scaled_exact}
use Rattle.rounding.specs.Kinds.{Number, Finite}
use Rattle.rounding.proofs.Value.{Weight, finite_of_lt, mid, ord, ord→le}
use Rattle.rounding.proofs.Rounding.{round_fraction, round_scaled, round_sign, round_number, scaled_round, ord_round, round_fraction_same, round_scaled_mono, round_scaled_exact}

pub of_int_number : (f : Format) (z : ℤ) → Number f (of_int f z)
of_int_number f (pos n) = unfold of_int in (round_number f false n 1)
of_int_number f (negsuc n) = unfold of_int in (round_number f true (suc n) 1)

-- ---- the theorem

-- the number of an integer
abbrev pub ord_int : Format → ℤ → ℕ
ord_int f (pos n) = mid f + round_scaled f (n * scale f)
ord_int f (negsuc n) = mid f - round_scaled f (suc n * scale f)

whole_fraction : (f : Format) (n : ℕ) → round_fraction f n 1 ≡ round_scaled f (n * scale f)
whole_fraction f n = round_fraction_same f n 1 (n * scale f) (scale f) (pow_pos 0) (scale_pos f) (sym (mul-one (n * scale f)))

pub ord_of_int : (f : Format) (z : ℤ) → ord f (of_int f z) ≡ ord_int f z
unfolding of_int
ord_of_int f (pos n) = ord_round f false n 1 ∙ ap (λ (k : ℕ). mid f + k) (whole_fraction f n)
ord_of_int f (negsuc n) = ord_round f true (suc n) 1 ∙ ap (λ (k : ℕ). mid f - k) (whole_fraction f (suc n))

-- ---- order

pub ord_int_mono : (f : Format) (a b : ℤ) → T (le_z a b) → ord_int f a ≤ ord_int f b
ord_int_mono f (pos a) (pos b) h = omega (arith, round_scaled_mono f (a * scale f) (b * scale f) (mul-le-mul_right (scale f) (leb→le a b h)))
ord_int_mono f (pos a) (negsuc b) h = absurd h
ord_int_mono f (negsuc a) (pos b) h = omega arith
ord_int_mono f (negsuc a) (negsuc b) h = omega (arith, round_scaled_mono f (suc b * scale f) (suc a * scale f) (mul-le-mul_right (scale f) (suc-le-suc (leb→le b a h))))

pub of_int_mono : (f : Format) (a b : ℤ) → T (le_z a b) → T (le (of_int f a) (of_int f b))
of_int_mono f a b h = ord→le f (of_int_number f a) (of_int_number f b) (rw (ord_of_int f a, ord_of_int f b) (ord_int_mono f a b h))

-- ---- exact whole numbers: up to 2 ^ prec, and powers of two below the overflow

pub round_scaled_whole : (f : Format) (n : ℕ) → n ≤ 2 ^ prec f → round_scaled f (n * scale f) ≡ n * scale f
round_scaled_whole f n h = sym (whole_fraction f n) ∙ go (round f false n 1) (round-fits f false n 1) (round_whole f false n h)
  where
    go : (x : Float) → T (fits f x) → HasValue x false n 1 → scaled f x ≡ n * scale f
    go nan t v = absurd v
    go (inf u) t v = absurd v
    go (fin u m e) t v = eq_of_mul-eq-mul_right (down e) (down_pos e) (scaled f (fin u m e)) (n * scale f) (scaled_exact f u m e t ∙ ap (λ (z : ℕ). z * scale f) (sym (mul-one (m * up e)) ∙ v.1) ∙ mul_right_comm n (down e) (scale f))

pub power_lt : (f : Format) (a : ℕ) → a ≤ emax f → 2 ^ a * scale f < overflow f
power_lt f a h = rw (← pow-add 2 a (low f)) (pow-lt (go a (low f) (emax f) h))
  where
    go : (a l e : ℕ) → a ≤ e → a + l < l + suc e
    go a l e h = omega arith

pub round_scaled_power : (f : Format) (a : ℕ) → a ≤ emax f → round_scaled f (2 ^ a * scale f) ≡ 2 ^ a * scale f
round_scaled_power f a h =
    let e : 1 * 2 ^ (a + low f) ≡ 2 ^ a * scale f = one-mul (2 ^ (a + low f)) ∙ pow-add 2 a (low f) in
    rw e at (round_scaled_exact f 1 (a + low f) (one_digit f) (rw e (power_lt f a h)))

-- ---- magnitude

pub scaled_whole : (f : Format) (n : ℕ) → n ≤ 2 ^ prec f → scaled f (of_int f (pos n)) ≡ n * scale f
unfolding of_int
scaled_whole f n h = whole_fraction f n ∙ round_scaled_whole f n h

emax_wide : (f : Format) → 63 ≤ emax f
emax_wide binary32 = lit≤ tt
emax_wide binary64 = lit≤ tt

prec_emax : (f : Format) → prec f ≤ emax f
prec_emax binary32 = lit≤ tt
prec_emax binary64 = lit≤ tt

pub scaled_of_int : (f : Format) (z : ℤ) → T (is_i64 z) → scaled f (of_int f z) ≤ 2 ^ 63 * scale f
unfolding of_int
scaled_of_int f z t = go z t
  where
    small : (n : ℕ) → n ≤ 2 ^ 63 → round_fraction f n 1 ≤ 2 ^ 63 * scale f
    small n h = le_trans (le_of_eq (whole_fraction f n)) (le_trans (round_scaled_mono f (n * scale f) (2 ^ 63 * scale f) (mul-le-mul_right (scale f) h)) (le_of_eq (round_scaled_power f 63 (emax_wide f))))

    go : (z : ℤ) → T (is_i64 z) → scaled f (of_int f z) ≤ 2 ^ 63 * scale f
    go (pos n) t = small n (le_of_lt (ltb→lt n (2 ^ 63) t))
    go (negsuc n) t = le_trans (le_of_eq (scaled_round f true (suc n) 1)) (small (suc n) (ltb→lt n (2 ^ 63) t))

pub of_int_finite : (f : Format) (z : ℤ) → T (is_i64 z) → Finite f (of_int f z)
of_int_finite f z t = finite_of_lt (of_int_number f z) (lt_of_le_of_lt (scaled_of_int f z t) (power_lt f 63 (emax_wide f)))

-- a whole number from 1 to 2 ^ prec
pub of_int_weight : (f : Format) (n : ℕ) → 0 < n → n ≤ 2 ^ prec f → Weight f (of_int f (pos n))
of_int_weight f n h k = record { fit = p.fit; fin = p.fin; plus = unfold of_int in (round_sign f false n 1); some = lt_of_lt_of_le (mul-pos h (scale_pos f)) (le_of_eq (sym (scaled_whole f n k))) }
  where
    p : Finite f (of_int f (pos n))
    p = finite_of_lt (of_int_number f (pos n)) (lt_of_le_of_lt (le_of_eq (scaled_whole f n k)) (lt_of_le_of_lt (mul-le-mul_right (scale f) k) (power_lt f (prec f) (prec_emax f))))
