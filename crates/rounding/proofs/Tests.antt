-- From the tests that a program makes to the kinds of values that the laws speak of: a magnitude not above 2^52 is `Within`, a number not below zero has its `ord` from `mid` up, and a finite value above zero is a `Weight`. Assumes nothing.
use Rattle.std.proofs.Common.{◌≡◌, ℕ, zero, suc, ◌+◌, ◌*◌, ◌^◌, ◌<◌, ◌≤◌, false, not, ◌&&◌, T, ◌⊎◌, pos, sym, refl, ap, ◌∙◌, inl, inr, le_trans, le_of_eq, le_of_lt, arith}
use lib.Ieee.{Float, nan, inf, fin, Format, binary32, binary64, le, lt, fits, is_nan}
use lib.Ieee.Fits.{and_i, and_l, and_r}
use lib.Ieee.Scale.{finite}
use Rattle.rounding.specs.Doubles.{negative, magnitude}
use Rattle.rounding.proofs.Scaled.{scale, scaled, scaled_power}
use Rattle.rounding.specs.Kinds.{Number, Finite, NonNegative}
use Rattle.rounding.proofs.Value.{Weight, number, zero_finite, mid, ord, ord_is, ord_zero, nonneg_ord, nonneg_mid, above_mid, mid_sign, le→ord, ord→le, lt→ord, not_lt→le, le→not_lt}
use Rattle.rounding.proofs.PowerBounds.{Within}

-- ---- `magnitude`

pub scaled_magnitude : (f : Format) (x : Float) → scaled f (magnitude x) ≡ scaled f x
scaled_magnitude f nan = refl
scaled_magnitude f (inf s) = refl
scaled_magnitude f (fin s m e) = refl

magnitude_fits : (f : Format) (x : Float) → T (fits f x) → T (fits f (magnitude x))
unfolding fits
magnitude_fits f nan t = tt
magnitude_fits f (inf s) t = tt
magnitude_fits f (fin s zero e) t = t
magnitude_fits f (fin s (suc m) e) t = t

magnitude_sign : (x : Float) → negative (magnitude x) ≡ false
magnitude_sign nan = refl
magnitude_sign (inf s) = refl
magnitude_sign (fin s m e) = refl

pub magnitude_nonneg : {f : Format} {x : Float} → Number f x → NonNegative f (magnitude x)
magnitude_nonneg {f} {x} p = record { num = record { fit = magnitude_fits f x p.fit; num = go x p.num }; plus = magnitude_sign x }
  where
    go : (x : Float) → T (not (is_nan x)) → T (not (is_nan (magnitude x)))
    go nan t = t
    go (inf s) t = unfold is_nan in tt
    go (fin s m e) t = unfold is_nan in tt

-- ---- the limit 2^52

abbrev pub limit : Float
limit = fin false 1 (pos 52)

limit_finite : (f : Format) → Finite f limit
limit_finite f = record { fit = go f; fin = tt }
  where
    go : (f : Format) → T (fits f limit)
    go binary32 = unfold fits in tt
    go binary64 = unfold fits in tt

limit_ord : (f : Format) → ord f limit ≡ mid f + 2 ^ 52 * scale f
limit_ord f = ord_is f limit ∙ ap (λ (z : ℕ). mid f + z) (scaled_power f false 52)

pub within_limit : (f : Format) (x : Float) → T (fits f x) → T (finite x && le (magnitude x) limit) → Within f 52 x
within_limit f x t h = record { fin = p; size = le_trans (le_of_eq (sym (scaled_magnitude f x))) (omega (arith, nonneg_ord m, limit_ord f, le→ord f m.num (number (limit_finite f)) (and_r (finite x) (le (magnitude x) limit) h))) }
  where
    p : Finite f x
    p = record { fit = t; fin = and_l (finite x) (le (magnitude x) limit) h }

    m : NonNegative f (magnitude x)
    m = magnitude_nonneg (number p)

-- the same from the test that it is above the limit, failed
pub within_not_above : (f : Format) (x : Float) → T (fits f x) → T (finite x) → T (not (lt limit (magnitude x))) → Within f 52 x
within_not_above f x t n h = within_limit f x t (and_i (finite x) (le (magnitude x) limit) n (not_lt→le f (number (limit_finite f)) (magnitude_nonneg (number {f = f} {x = x} (record { fit = t; fin = n }))).num h))

-- ---- not below zero, and above zero

pub mid_of_le : {f : Format} {x : Float} → Number f x → T (le (fin false 0 (pos 0)) x) → mid f ≤ ord f x
mid_of_le {f} p h = omega (arith, ord_zero f false (pos 0), le→ord f (number (zero_finite f)) p h)

pub mid_of_not_lt : {f : Format} {x : Float} → Number f x → T (not (lt x (fin false 0 (pos 0)))) → mid f ≤ ord f x
mid_of_not_lt {f} p h = mid_of_le p (not_lt→le f p (number (zero_finite f)) h)

pub not_lt_of_mid : {f : Format} {x : Float} → Number f x → mid f ≤ ord f x → T (not (lt x (fin false 0 (pos 0))))
not_lt_of_mid {f} p h = le→not_lt f (number (zero_finite f)) p (ord→le f (number (zero_finite f)) p (le_trans (le_of_eq (ord_zero f false (pos 0))) h))

pub nonneg_not_lt : {f : Format} {x : Float} → NonNegative f x → T (not (lt x (fin false 0 (pos 0))))
nonneg_not_lt p = not_lt_of_mid p.num (nonneg_mid p)

pub weight_of : (f : Format) (x : Float) → T (fits f x) → T (finite x) → T (lt (fin false 0 (pos 0)) x) → Weight f x
weight_of f x t n h = record { fit = t; fin = n; plus = sign (mid_sign f x t (le_of_lt above)); some = some }
  where
    above : mid f < ord f x
    above = omega (arith, ord_zero f false (pos 0), lt→ord f (number (zero_finite f)) (number {f = f} {x = x} (record { fit = t; fin = n })) h)

    some : 0 < scaled f x
    some = omega (arith, above, above_mid f x t (le_of_lt above))

    sign : (negative x ≡ false) ⊎ (scaled f x ≡ 0) → negative x ≡ false
    sign (inl e) = e
    sign (inr e) = absurd (omega (arith, some))
