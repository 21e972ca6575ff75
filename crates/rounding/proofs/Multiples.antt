-- Products by a whole number from 1 to 2 ^ prec: a number gives a number, they keep the order from zero up to infinity, zero gives zero, and 1 changes nothing. Assumes nothing.
use Rattle.std.proofs.Common.{◌≡◌, ℕ, ◌+◌, ◌*◌, ◌^◌, ◌<◌, ◌≤◌, Bool, true, false, not, T, pos, sym, refl, ap, ◌∙◌, add-zero, mul_assoc, mul_comm, one-mul, lit<}
use lib.Ieee.{Float, nan, inf, fin, Format, prec, unlike, mul, of_int, le, lt, is_nan}
use Rattle.rounding.specs.Doubles.{negative}
use Rattle.rounding.specs.Kinds.{Number, Finite}
use Rattle.rounding.proofs.Scaled.{scale, scaled, scale_pos, scale_scale_pos, scaled_zero}
use Rattle.rounding.proofs.Value.{Weight, number, weight_finite, weight_nonneg, zero_finite, zero_nonneg, nonneg_mid, offset, mid, ord, ord_is, ord_zero, ord→eq}
use Rattle.rounding.proofs.Rounding.{round_fraction_same, round_scaled_fix}
use Rattle.rounding.proofs.Conversion.{of_int_weight, scaled_whole}
use Rattle.rounding.proofs.Multiplication.{Product, product, product_of, product_zero, weight_mul_inf, weight_mul_number, weight_mul_nonneg, weight_mul_mono, ord_mul}
use Rattle.rounding.proofs.Equality.{eq_same, nonneg_same}
use Rattle.rounding.proofs.Tests.{mid_of_not_lt}

module _ (f : Format) (k : ℕ) (h : 0 < k) (l : k ≤ 2 ^ prec f) where
  abbrev factor : Float
  factor = of_int f (pos k)

  above : Weight f factor
  above = of_int_weight f k h l

  pub whole_times_number : {x : Float} → Number f x → Number f (mul f factor x)
  whole_times_number = weight_mul_number above

  pub whole_times_mono : {x x' : Float} → Number f x → Number f x' → T (not (lt x (fin false 0 (pos 0)))) → T (le x x') → T (le (mul f factor x) (mul f factor x'))
  whole_times_mono p q plus = weight_mul_mono above p q (mid_of_not_lt p plus)

  pub whole_times_zero : mul f factor (fin false 0 (pos 0)) ≡ fin false 0 (pos 0)
  whole_times_zero =
      nonneg_same f (mul f factor (fin false 0 (pos 0))) (fin false 0 (pos 0)) (weight_mul_nonneg above (zero_nonneg f)) (zero_nonneg f)
      (ord_mul f factor (fin false 0 (pos 0)) (weight_finite above) (zero_finite f) (nonneg_mid (weight_nonneg above)) (nonneg_mid (zero_nonneg f))
      ∙ ap (λ (z : ℕ). mid f + z) (ap (product f (scaled f factor)) (scaled_zero f false (pos 0)) ∙ product_zero f (scaled f factor))
      ∙ add-zero (mid f)
      ∙ sym (ord_zero f false (pos 0)))

-- 1·x
module _ (f : Format) (l : 1 ≤ 2 ^ prec f) where
  abbrev one : Float
  one = of_int f (pos 1)

  unit : Weight f one
  unit = of_int_weight f 1 (lit< tt) l

  plain : (s : Bool) → unlike false s ≡ s
  plain false = refl
  plain true = refl

  cross : (U X : ℕ) → 1 * U * X * U ≡ X * (U * U)
  cross U X = ap (λ (v : ℕ). v * X * U) (one-mul U) ∙ ap (λ (v : ℕ). v * U) (mul_comm U X) ∙ mul_assoc X U U

  finite_once : (x : Float) → Finite f x → mul f one x ≡ x
  finite_once x p = eq_same f (mul f one x) x r.num.fit p.fit sign (ord→eq f r.num (number p) same)
    where
      r : Product f one x
      r = product_of f one x (weight_finite unit) p

      sign : negative (mul f one x) ≡ negative x
      sign = r.sign ∙ ap (λ (s : Bool). unlike s (negative x)) unit.plus ∙ plain (negative x)

      size : scaled f (mul f one x) ≡ scaled f x
      size =
          r.size
          ∙ ap (λ (v : ℕ). product f v (scaled f x)) (scaled_whole f 1 l)
          ∙ round_fraction_same f (1 * scale f * scaled f x) (scale f * scale f) (scaled f x) (scale f) (scale_scale_pos f) (scale_pos f) (cross (scale f) (scaled f x))
          ∙ round_scaled_fix p

      same : ord f (mul f one x) ≡ ord f x
      same =
          ord_is f (mul f one x)
          ∙ ap (λ (s : Bool). offset (mid f) s (scaled f (mul f one x))) sign
          ∙ ap (offset (mid f) (negative x)) size
          ∙ sym (ord_is f x)

  pub whole_times_once : {x : Float} → Number f x → mul f one x ≡ x
  whole_times_once {x = nan} q = absurd (unfold is_nan in q.num)
  whole_times_once {x = inf t} q = weight_mul_inf unit t
  whole_times_once {x = fin s m e} q = finite_once (fin s m e) (record { fit = q.fit; fin = tt })
