-- Values of magnitude at most a power of two, `Within f a x` for 2 ^ a: their sums, differences and products are finite, with bounds of the same kind; an i64 is within 2 ^ 63. Assumes nothing.
use Rattle.std.proofs.Common.{◌≡◌, ℕ, suc, ◌+◌, ◌*◌, ◌^◌, ◌≤◌, false, T, ℤ, pos, sym, refl, ap, ◌∙◌, subst, le_trans, le_of_eq, lt_of_le_of_lt, add-le-add, mul-le-mul_right, add-mul, mul-one, mul_right_comm, lit≤, pow_pos, pow_mono, pow-add}
use native.Mathlib.Nat.{mul-mul-mul_comm, two-pow-succ}
use lib.Ieee.{Float, fin, Format, binary64, emax, round, neg, add, sub, mul, of_int}
use Rattle.rounding.specs.Integers.{is_i64}
use Rattle.rounding.proofs.Scaled.{scale, scaled, scale_pos, scale_scale_pos, scaled_neg, scaled_power}
use Rattle.rounding.specs.Kinds.{Number, Finite}
use Rattle.rounding.proofs.Value.{finite_of_lt}
use Rattle.rounding.proofs.Rounding.{round_scaled, round_scaled_mono, round_fraction_same}
use Rattle.rounding.proofs.Negation.{neg_neg, sub_is, neg_finite}
use Rattle.rounding.proofs.Subtraction.{sub_number, scaled_sub_le}
use Rattle.rounding.proofs.Conversion.{power_lt, round_scaled_power, scaled_of_int, of_int_finite}
use Rattle.rounding.proofs.Multiplication.{Product, product_of, product_mono}

pub record Within (f : Format) (a : ℕ) (x : Float) : Type 0 where
  pub fin : Finite f x
  pub size : scaled f x ≤ 2 ^ a * scale f

pub within_more : {f : Format} {a b : ℕ} {x : Float} → a ≤ b → Within f a x → Within f b x
within_more {f} h p = record { fin = p.fin; size = le_trans p.size (mul-le-mul_right (scale f) (pow_mono h)) }

of_size : {f : Format} {a : ℕ} {x : Float} → a ≤ emax f → Number f x → scaled f x ≤ 2 ^ a * scale f → Within f a x
of_size {f} {a} h p k = record { fin = finite_of_lt p (lt_of_le_of_lt k (power_lt f a h)); size = k }

pub within_neg : {f : Format} {a : ℕ} {x : Float} → Within f a x → Within f a (neg x)
within_neg {f} {a} {x} p = record { fin = neg_finite p.fin; size = le_trans (le_of_eq (scaled_neg f x)) p.size }

-- ---- sums and differences: what 2 ^ a + 2 ^ b rounds to is their bound

abbrev Rounds : Format → ℕ → ℕ → ℕ → Type 0
Rounds f a b c = round_scaled f (2 ^ a * scale f + 2 ^ b * scale f) ≡ 2 ^ c * scale f

sub_bound : (f : Format) (a b c : ℕ) → c ≤ emax f → Rounds f a b c → (x y : Float) → Within f a x → Within f b y → Within f c (sub f x y)
sub_bound f a b c h e x y p q =
    of_size h (sub_number p.fin q.fin)
    (le_trans (scaled_sub_le f x y p.fin q.fin)
    (le_trans (round_scaled_mono f (scaled f x + scaled f y) (2 ^ a * scale f + 2 ^ b * scale f) (add-le-add p.size q.size)) (le_of_eq e)))

add_bound : (f : Format) (a b c : ℕ) → c ≤ emax f → Rounds f a b c → (x y : Float) → Within f a x → Within f b y → Within f c (add f x y)
add_bound f a b c h e x y p q = subst (Within f c) (sub_is f x (neg y) ∙ ap (add f x) (neg_neg y)) (sub_bound f a b c h e x (neg y) p (within_neg q))

-- 2 ^ a twice is exact
twice : (f : Format) (a : ℕ) → suc a ≤ emax f → Rounds f a a (suc a)
twice f a h = ap (round_scaled f) (sym (add-mul (2 ^ a) (2 ^ a) (scale f)) ∙ ap (λ (z : ℕ). z * scale f) (sym (two-pow-succ a))) ∙ round_scaled_power f (suc a) h

pub within_sub : (f : Format) (a : ℕ) (x y : Float) → suc a ≤ emax f → Within f a x → Within f a y → Within f (suc a) (sub f x y)
within_sub f a x y h p q = sub_bound f a a (suc a) h (twice f a h) x y p q

pub within_add : (f : Format) (a : ℕ) (x y : Float) → suc a ≤ emax f → Within f a x → Within f a y → Within f (suc a) (add f x y)
within_add f a x y h p q = add_bound f a a (suc a) h (twice f a h) x y p q

-- 2 ^ 116 is less than half of the last place of 2 ^ 200, so it is lost: a bound that any number of additions keeps
lost : round binary64 false (2 ^ 200 + 2 ^ 116) 1 ≡ fin false 1 (pos 200)
unfolding round
lost = refl

absorbs : (f : Format) (a b : ℕ) → round f false (2 ^ a + 2 ^ b) 1 ≡ fin false 1 (pos a) → Rounds f a b a
absorbs f a b e =
    round_fraction_same f (2 ^ a * scale f + 2 ^ b * scale f) (scale f) (2 ^ a + 2 ^ b) 1 (scale_pos f) (pow_pos 0) (mul-one (2 ^ a * scale f + 2 ^ b * scale f) ∙ sym (add-mul (2 ^ a) (2 ^ b) (scale f)))
    ∙ ap (scaled f) e
    ∙ scaled_power f false a

pub within_absorb : (x y : Float) → Within binary64 200 x → Within binary64 116 y → Within binary64 200 (add binary64 x y)
within_absorb = add_bound binary64 200 116 200 (lit≤ tt) (absorbs binary64 200 116 lost)

-- ---- products and integers

pub within_mul : (f : Format) (a b : ℕ) (x y : Float) → a + b ≤ emax f → Within f a x → Within f b y → Within f (a + b) (mul f x y)
within_mul f a b x y h p q =
    of_size h r.num
    (le_trans (le_of_eq r.size)
    (le_trans (product_mono f (scaled f x) (scaled f y) (2 ^ a * scale f) (2 ^ b * scale f) p.size q.size)
    (le_of_eq (round_fraction_same f (2 ^ a * scale f * (2 ^ b * scale f)) (scale f * scale f) (2 ^ (a + b) * scale f) (scale f) (scale_scale_pos f) (scale_pos f) flat ∙ round_scaled_power f (a + b) h))))
  where
    r : Product f x y
    r = product_of f x y p.fin q.fin

    flat : 2 ^ a * scale f * (2 ^ b * scale f) * scale f ≡ 2 ^ (a + b) * scale f * (scale f * scale f)
    flat = ap (λ (z : ℕ). z * scale f) (mul-mul-mul_comm (2 ^ a) (scale f) (2 ^ b) (scale f) ∙ ap (λ (z : ℕ). z * (scale f * scale f)) (sym (pow-add 2 a b))) ∙ mul_right_comm (2 ^ (a + b)) (scale f * scale f) (scale f)

pub within_of_int : (f : Format) (z : ℤ) → T (is_i64 z) → Within f 63 (of_int f z)
within_of_int f z t = record { fin = of_int_finite f z t; size = scaled_of_int f z t }
