-- Plus zero in place of minus zero: it gives the same result of its own result, which is never minus zero; the tests for what is not finite and what is below zero do not tell a zero from plus zero; and what passes them has the sign plus; and the value and the result are not below one another. Assumes nothing.
use Rattle.std.proofs.Common.{◌≡◌, ℕ, ◌+◌, ◌*◌, Bool, true, false, cond, not, ◌||◌, T, pos, sym, refl, ap, ◌∙◌, le_of_eq, arith, le-ltb}
use mathlib.Core.Bool.{false≢true}
use lib.Ieee.{Float, nan, inf, fin, Format, binary64, up, down, fits, le, lt, eq}
use lib.Ieee.Scale.{finite}
use Rattle.rounding.specs.Doubles.{negative}
use Rattle.rounding.specs.Kinds.{Number, Finite, NonNegative}
use Rattle.rounding.proofs.Value.{number, zero_finite, zero_nonneg, ord→le, eq→ord, float_le_refl}
use Rattle.rounding.proofs.Comparison.{nought, held, zero_digits, zero_magnitude, other_sign}

-- plus zero for a zero of either sign, else x
abbrev pub with_plus_zero : Float → Float
with_plus_zero x = cond (eq x nought) nought x

pub plus_is_zero : eq nought nought ≡ true
unfolding eq
plus_is_zero = refl

pub minus_is_zero : eq (fin true 0 (pos 0)) nought ≡ true
unfolding eq
minus_is_zero = refl

-- minus zero becomes plus zero
pub minus_to_plus : with_plus_zero (fin true 0 (pos 0)) ≡ nought
minus_to_plus = ap (λ (b : Bool). cond b nought (fin true 0 (pos 0))) minus_is_zero

-- and nothing becomes minus zero
pub never_minus : (x : Float) → with_plus_zero x ≡ fin true 0 (pos 0) → ⊥
never_minus x = go (eq x nought) refl
  where
    go : (b : Bool) → eq x nought ≡ b → cond b nought x ≡ fin true 0 (pos 0) → ⊥
    go true e q = false≢true (ap negative q)
    go false e q = false≢true (sym e ∙ ap (λ (y : Float). eq y nought) q ∙ minus_is_zero)

-- the result again
pub plus_zero_stays : (x : Float) → with_plus_zero (with_plus_zero x) ≡ with_plus_zero x
plus_zero_stays x = go (eq x nought) refl
  where
    go : (b : Bool) → eq x nought ≡ b → with_plus_zero (cond b nought x) ≡ cond b nought x
    go true e = ap (λ (b : Bool). cond b nought nought) plus_is_zero
    go false e = ap (λ (b : Bool). cond b nought x) e

-- of the format's values there are two zeros
pub zero_signed : (x : Float) → T (fits binary64 x) → eq x nought ≡ true → (s : Bool) × (x ≡ fin s 0 (pos 0))
unfolding eq
zero_signed nan t e = absurd (false≢true e)
zero_signed (inf s) t e = absurd (false≢true e)
zero_signed (fin s m d) t e = let same : nought ≡ fin false m d = zero_magnitude (fin s m d) t e in (s, sym (ap (signed s) same))
  where
    signed : Bool → Float → Float
    signed s nan = nan
    signed s (inf b) = inf s
    signed s (fin b m d) = fin s m d

-- what has the sign plus stays
pub plus_stays : (x : Float) → NonNegative binary64 x → with_plus_zero x ≡ x
plus_stays x p = go (eq x nought) refl
  where
    go : (b : Bool) → eq x nought ≡ b → cond b nought x ≡ x
    go true e =
        let (s, same) = zero_signed x p.num.fit e in
        let sign : s ≡ false = ap negative (sym same) ∙ p.plus in
        sym (same ∙ ap (λ (b : Bool). fin b 0 (pos 0)) sign)
    go false e = refl

-- a zero is finite and not below zero
pub zero_passes : (x : Float) → eq x nought ≡ true → not (finite x) || lt x nought ≡ false
unfolding eq lt
zero_passes nan e = absurd (false≢true e)
zero_passes (inf s) e = absurd (false≢true e)
zero_passes (fin false m d) e = le-ltb (m * up d * 1) (0 * 1 * down d) (omega (arith, ap (λ (k : ℕ). k * up d) (zero_digits false m d e)))
zero_passes (fin true m d) e = le-ltb 0 (m * up d * 1 + 0 * 1 * down d) (omega (arith, ap (λ (k : ℕ). k * up d) (zero_digits true m d e)))

-- the result and x are not below one another
pub plus_zero_above : {f : Format} (x : Float) → Number f x → T (le x (with_plus_zero x))
plus_zero_above {f} x p = go (eq x nought) refl
  where
    go : (b : Bool) → eq x nought ≡ b → T (le x (cond b nought x))
    go true e = ord→le f p (number (zero_finite f)) (le_of_eq (eq→ord f p (number (zero_finite f)) (held e)))
    go false e = float_le_refl f p

pub plus_zero_below : {f : Format} (x : Float) → Number f x → T (le (with_plus_zero x) x)
plus_zero_below {f} x p = go (eq x nought) refl
  where
    go : (b : Bool) → eq x nought ≡ b → T (le (cond b nought x) x)
    go true e = ord→le f (number (zero_finite f)) p (le_of_eq (sym (eq→ord f p (number (zero_finite f)) (held e))))
    go false e = float_le_refl f p

pub plus_zero_finite : {f : Format} (x : Float) → Finite f x → Finite f (with_plus_zero x)
plus_zero_finite {f} x p = go (eq x nought)
  where
    go : (b : Bool) → Finite f (cond b nought x)
    go true = zero_finite f
    go false = p

-- what is finite and not below zero has then the sign plus
pub plus_zero_nonneg : {f : Format} (x : Float) → Finite f x → lt x nought ≡ false → NonNegative f (with_plus_zero x)
plus_zero_nonneg {f} x p q = go (eq x nought) refl
  where
    go : (b : Bool) → eq x nought ≡ b → NonNegative f (cond b nought x)
    go true e = zero_nonneg f
    go false e = record { num = number p; plus = sym (other_sign x e) ∙ q }
