-- The magnitude of a value as one natural number: `scaled f x` counts it in the format's smallest positive value, 2 ^ -low. Of a finite value that fits, the count is exact; an infinity counts as the first magnitude that overflows. Assumes nothing.
use Rattle.std.proofs.Common.{◌≡◌, ℕ, zero, suc, ◌+◌, ◌-◌, ◌*◌, ◌/◌, ◌%◌, ◌^◌, ◌<◌, ◌≤◌, Bool, true, false, not, ◌&&◌, T, eqb, ltb, leb, ◌⊎◌, ℤ, pos, negsuc, sym, refl, ap, ◌∙◌, inl, inr, zero-le, le_trans, le_of_eq, le_refl, le_of_suc-le-suc, le_of_lt, mul-le-mul_right, mul_assoc, mul_comm, lt_of_mul-lt-mul_right, mul-lt-mul_of_pos_right, mul-pos, one-mul, lt_of_not-le, zero-mul, mul-one, sub-add_cancel, mul_right_comm, not-le_of_lt, div-one, mul-div_cancel, lit<, eqb→eq, ltb→lt, leb→le, pow_pos, pow-add}
use native.Mathlib.Nat.{zero-div, mul-sub}
use lib.Dec.{nleb→lt}
use lib.Pow.{pow-lt}
use lib.Ieee.{Float, nan, inf, fin, Format, binary32, binary64, prec, emax, low, up, down, neg, fits}
use lib.Ieee.Fits.{up_pos, down_pos}
use lib.Ieee.Scale.{overflow}

-- how many of the smallest positive value make one
abbrev pub scale : Format → ℕ
scale f = 2 ^ low f

abbrev pub scaled : Format → Float → ℕ
scaled f nan = 0
scaled f (inf s) = overflow f
scaled f (fin s m e) = m * up e * scale f / down e

pub scale_pos : (f : Format) → 0 < scale f
scale_pos f = pow_pos (low f)

pub scale_scale_pos : (f : Format) → 0 < scale f * scale f
scale_scale_pos f = mul-pos (scale_pos f) (scale_pos f)

pub overflow_pos : (f : Format) → 0 < overflow f
overflow_pos f = pow_pos (low f + suc (emax f))

pub one_digit : (f : Format) → 1 < 2 ^ prec f
one_digit binary32 = lit< tt
one_digit binary64 = lit< tt

-- ---- arithmetic of natural numbers that several laws use

pub split : (a b : ℕ) → (a ≤ b) ⊎ (b < a)
split a b = go (leb a b) (leb→le a b) (nleb→lt a b)
  where
    go : (t : Bool) → (T t → a ≤ b) → (T (not t) → b < a) → (a ≤ b) ⊎ (b < a)
    go true h k = inl (h tt)
    go false h k = inr (k tt)

pub sub_mul : (a b c : ℕ) → (a - b) * c ≡ a * c - b * c
sub_mul a b c = rw (mul_comm (a - b) c, mul-sub, mul_comm c a, mul_comm c b)

-- a significand, shifted by an exponent and by j more places
pub shift : (m : ℕ) (e : ℤ) (j : ℕ) → (i : ℕ) × (m * up e * 2 ^ j ≡ m * 2 ^ i)
shift m (pos k) j = (k + j, mul_assoc m (2 ^ k) (2 ^ j) ∙ ap (λ (x : ℕ). m * x) (sym (pow-add 2 k j)))
shift m (negsuc k) j = (j, ap (λ (x : ℕ). x * 2 ^ j) (mul-one m))

-- ---- what `fits` says of m * 2 ^ e

-- the last three of four tests
three : (a b c d : Bool) → T (a && b && c && d) → T b × T c × T d
three true true true d t = (tt, tt, t)
three true true false d t = absurd t
three true false c d t = absurd t
three false b c d t = absurd t

-- m has few digits, e is not too small, and m * 2 ^ e is not too large
record Fitting (f : Format) (m : ℕ) (e : ℤ) : Type 0 where
  digits : m < 2 ^ prec f
  fraction : down e ≤ scale f
  top : m * up e < 2 ^ suc (emax f) * down e

fitting : (f : Format) (s : Bool) (m : ℕ) (e : ℤ) → T (fits f (fin s m e)) → Fitting f m e
unfolding fits
fitting f s zero e t = record {
  digits = pow_pos (prec f);
  fraction = le_trans (second (up e) (down e) (up_pos e) (eqb→eq (up e * down e) 1 t)) (pow_pos (low f));
  top = rw (zero-mul (up e)) (mul-pos (pow_pos (suc (emax f))) (down_pos e));
}
  where
    second : (a b : ℕ) → 0 < a → a * b ≡ 1 → b ≤ 1
    second a b h p = le_trans (le_of_eq (sym (one-mul b))) (le_trans (mul-le-mul_right b h) (le_of_eq p))
fitting f s (suc m) e t =
    let r = three (eqb (suc m % 2) 1) (ltb (suc m) (2 ^ prec f)) (leb (down e) (2 ^ low f)) (ltb (suc m * up e) (2 ^ suc (emax f) * down e)) t in
    record {
      digits = ltb→lt (suc m) (2 ^ prec f) r.0;
      fraction = leb→le (down e) (2 ^ low f) r.1;
      top = ltb→lt (suc m * up e) (2 ^ suc (emax f) * down e) r.2;
    }

pub fits_digits : (f : Format) (s : Bool) (m : ℕ) (e : ℤ) → T (fits f (fin s m e)) → m < 2 ^ prec f
fits_digits f s m e t = (fitting f s m e t).digits

-- ---- the count is exact

pow_le : (a b : ℕ) → 2 ^ a ≤ 2 ^ b → a ≤ b
pow_le a b h = le_of_suc-le-suc (lt_of_not-le (λ (g : suc b ≤ a). not-le_of_lt (pow-lt g) h))

-- 2 ^ l is a multiple of `down e`
multiple : (e : ℤ) (l : ℕ) → down e ≤ 2 ^ l → (j : ℕ) × (2 ^ j * down e ≡ 2 ^ l)
multiple (pos k) l h = (l, mul-one (2 ^ l))
multiple (negsuc k) l h = (l - suc k, sym (pow-add 2 (l - suc k) (suc k)) ∙ ap (λ (x : ℕ). 2 ^ x) (sub-add_cancel (pow_le (suc k) l h)))

module _ (f : Format) (s : Bool) (m : ℕ) (e : ℤ) (t : T (fits f (fin s m e))) where
  pub scaled_shape : (j : ℕ) × (scaled f (fin s m e) ≡ m * up e * 2 ^ j) × (2 ^ j * down e ≡ scale f)
  scaled_shape =
      let r = multiple e (low f) (fitting f s m e t).fraction in
      (r.0, ap (λ (x : ℕ). m * up e * x / down e) (sym r.1) ∙ ap (λ (x : ℕ). x / down e) (sym (mul_assoc (m * up e) (2 ^ r.0) (down e))) ∙ mul-div_cancel (m * up e * 2 ^ r.0) (down_pos e), r.1)

  pub scaled_exact : scaled f (fin s m e) * down e ≡ m * up e * scale f
  scaled_exact =
      let r = scaled_shape in
      ap (λ (x : ℕ). x * down e) r.1 ∙ mul_assoc (m * up e) (2 ^ r.0) (down e) ∙ ap (λ (x : ℕ). m * up e * x) r.2

  pub scaled_lt : scaled f (fin s m e) < overflow f
  scaled_lt = lt_of_mul-lt-mul_right (down e) (rw (scaled_exact) (rw (← reorder) (mul-lt-mul_of_pos_right (fitting f s m e t).top (scale_pos f))))
    where
      reorder : 2 ^ suc (emax f) * down e * scale f ≡ overflow f * down e
      reorder = mul_right_comm (2 ^ suc (emax f)) (down e) (scale f) ∙ ap (λ (x : ℕ). x * down e) (mul_comm (2 ^ suc (emax f)) (scale f) ∙ sym (pow-add 2 (low f) (suc (emax f))))

pub scaled_le : (f : Format) (x : Float) → T (fits f x) → scaled f x ≤ overflow f
scaled_le f nan t = zero-le
scaled_le f (inf s) t = le_refl (overflow f)
scaled_le f (fin s m e) t = le_of_lt (scaled_lt f s m e t)

pub scaled_neg : (f : Format) (x : Float) → scaled f (neg x) ≡ scaled f x
unfolding neg
scaled_neg f nan = refl
scaled_neg f (inf s) = refl
scaled_neg f (fin s m e) = refl

pub scaled_zero : (f : Format) (s : Bool) (e : ℤ) → scaled f (fin s zero e) ≡ 0
scaled_zero f s e = ap (λ (k : ℕ). k * scale f / down e) (zero-mul (up e)) ∙ ap (λ (k : ℕ). k / down e) (zero-mul (scale f)) ∙ zero-div (down e)

pub scaled_power : (f : Format) (s : Bool) (k : ℕ) → scaled f (fin s 1 (pos k)) ≡ 2 ^ k * scale f
scaled_power f s k = div-one (1 * 2 ^ k * scale f) ∙ ap (λ (z : ℕ). z * scale f) (one-mul (2 ^ k))
