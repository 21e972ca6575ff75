-- The theorem of multiplication: the scaled magnitude of a product is the exact product, rounded, and its sign is the product of the signs. So a product of values that are not below zero keeps the order in both factors, and a positive finite factor does so up to infinity. Assumes nothing.
use Rattle.std.proofs.Common.{◌≡◌, ℕ, zero, suc, ◌+◌, ◌*◌, ◌≤◌, Bool, true, false, cond, T, ◌⊎◌, ℤ, sym, refl, ap, ◌∙◌, subst, inl, inr, true≢false, le_trans, le_of_eq, lt_of_lt_of_le, lt_irrefl, mul-le-mul_right, mul_comm, mul-le-mul, mul-pos, mul-zero, zero-mul, arith}
use native.Mathlib.Nat.{mul-mul-mul_comm}
use lib.Dec.{eqb-suc-zero}
use lib.Ieee.{Float, nan, inf, fin, Format, up, down, unlike, round, mul, le, is_nan}
use lib.Ieee.Fits.{down_pos}
use Rattle.rounding.specs.Doubles.{negative}
use Rattle.rounding.proofs.Scaled.{scale, scaled, scale_pos, scale_scale_pos, overflow_pos, scaled_exact, scaled_zero}
use Rattle.rounding.specs.Kinds.{Number, Finite, NonNegative}
use Rattle.rounding.proofs.Value.{Weight, number, weight_finite, weight_nonneg, inf_number, finite_lt, offset, mid, ord, ord_is, ord_inf, nonneg_mid, above_mid, mid_sign, le→ord, ord→le, float_le_refl, float_le_inf}
use Rattle.rounding.proofs.Rounding.{round_fraction, round_sign, round_number, scaled_round, round_fraction_mono, round_fraction_same, round_scaled_zero}

-- ---- the theorem

-- of two scaled magnitudes
abbrev pub product : Format → ℕ → ℕ → ℕ
product f a b = round_fraction f (a * b) (scale f * scale f)

pub record Product (f : Format) (x y : Float) : Type 0 where
  pub num : Number f (mul f x y)
  pub sign : negative (mul f x y) ≡ unlike (negative x) (negative y)
  pub size : scaled f (mul f x y) ≡ product f (scaled f x) (scaled f y)

mul_fin : (f : Format) (s : Bool) (m : ℕ) (e : ℤ) (t : Bool) (n : ℕ) (d : ℤ) → mul f (fin s m e) (fin t n d) ≡ round f (unlike s t) (m * up e * (n * up d)) (down e * down d)
unfolding mul
mul_fin f s m e t n d = refl

pub product_of : (f : Format) (x y : Float) → Finite f x → Finite f y → Product f x y
product_of f nan y p q = absurd p.fin
product_of f (inf s) y p q = absurd p.fin
product_of f (fin s m e) nan p q = absurd q.fin
product_of f (fin s m e) (inf t) p q = absurd q.fin
product_of f (fin s m e) (fin t n d) p q =
    let o = mul_fin f s m e t n d in
    let X = scaled f (fin s m e) in
    let Y = scaled f (fin t n d) in
    record {
      num = subst (Number f) (sym o) (round_number f (unlike s t) (m * up e * (n * up d)) (down e * down d));
      sign = ap negative o ∙ round_sign f (unlike s t) (m * up e * (n * up d)) (down e * down d);
      size = ap (scaled f) o ∙ scaled_round f (unlike s t) (m * up e * (n * up d)) (down e * down d)
          ∙ round_fraction_same f (m * up e * (n * up d)) (down e * down d) (X * Y) (scale f * scale f) (mul-pos (down_pos e) (down_pos d)) (scale_scale_pos f)
          (cross (m * up e) (n * up d) (scale f) X (down e) Y (down d) (scaled_exact f s m e p.fit) (scaled_exact f t n d q.fit));
    }
  where
    cross : (a b U x d y c : ℕ) → x * d ≡ a * U → y * c ≡ b * U → a * b * (U * U) ≡ x * y * (d * c)
    cross a b U x d y c h k = mul-mul-mul_comm a b U U ∙ ap (λ (z : ℕ). z * (b * U)) (sym h) ∙ ap (λ (z : ℕ). x * d * z) (sym k) ∙ mul-mul-mul_comm x d y c

pub product_mono : (f : Format) (a b a' b' : ℕ) → a ≤ a' → b ≤ b' → product f a b ≤ product f a' b'
product_mono f a b a' b' h k = round_fraction_mono f (a * b) (scale f * scale f) (a' * b') (scale f * scale f) (scale_scale_pos f) (scale_scale_pos f) (mul-le-mul_right (scale f * scale f) (mul-le-mul h k))

pub product_zero : (f : Format) (a : ℕ) → product f a 0 ≡ 0
product_zero f a = round_fraction_same f (a * 0) (scale f * scale f) 0 (scale f) (scale_scale_pos f) (scale_pos f) (ap (λ (z : ℕ). z * scale f) (mul-zero a) ∙ zero-mul (scale f) ∙ sym (zero-mul (scale f * scale f))) ∙ round_scaled_zero f

-- ---- factors that are not below zero

pub ord_mul : (f : Format) (x y : Float) → Finite f x → Finite f y → mid f ≤ ord f x → mid f ≤ ord f y → ord f (mul f x y) ≡ mid f + product f (scaled f x) (scaled f y)
ord_mul f x y p q h k = ord_is f (mul f x y) ∙ ap (offset (mid f) (negative (mul f x y))) r.size ∙ go (mid_sign f x p.fit h) (mid_sign f y q.fit k)
  where
    r : Product f x y
    r = product_of f x y p q

    P : ℕ
    P = product f (scaled f x) (scaled f y)

    flat : (s : Bool) → P ≡ 0 → offset (mid f) s P ≡ mid f + P
    flat false e = refl
    flat true e = omega arith

    go : (negative x ≡ false) ⊎ (scaled f x ≡ 0) → (negative y ≡ false) ⊎ (scaled f y ≡ 0) → offset (mid f) (negative (mul f x y)) P ≡ mid f + P
    go (inl a) (inl b) = ap (λ (s : Bool). offset (mid f) s P) (r.sign ∙ ap (λ (s : Bool). unlike s (negative y)) a ∙ ap (unlike false) b)
    go (inr a) b = flat (negative (mul f x y)) (ap (λ (z : ℕ). product f z (scaled f y)) a ∙ ap (λ (z : ℕ). round_fraction f z (scale f * scale f)) (mul_comm 0 (scaled f y)) ∙ product_zero f (scaled f y))
    go (inl a) (inr b) = flat (negative (mul f x y)) (ap (product f (scaled f x)) b ∙ product_zero f (scaled f x))

pub mul_mono : {f : Format} {x y x' y' : Float} → Finite f x → Finite f y → Finite f x' → Finite f y' → mid f ≤ ord f x → mid f ≤ ord f y → T (le x x') → T (le y y') → T (le (mul f x y) (mul f x' y'))
mul_mono {f} {x} {y} {x'} {y'} p q p' q' a b h k =
    let h' : ord f x ≤ ord f x' = le→ord f (number p) (number p') h in
    let k' : ord f y ≤ ord f y' = le→ord f (number q) (number q') k in
    let a' : mid f ≤ ord f x' = le_trans a h' in
    let b' : mid f ≤ ord f y' = le_trans b k' in
    let l : scaled f x ≤ scaled f x' = omega (arith, above_mid f x p.fit a, above_mid f x' p'.fit a') in
    let m : scaled f y ≤ scaled f y' = omega (arith, above_mid f y q.fit b, above_mid f y' q'.fit b') in
    ord→le f (product_of f x y p q).num (product_of f x' y' p' q').num
    (rw (ord_mul f x y p q a b, ord_mul f x' y' p' q' a' b') (omega (arith, product_mono f (scaled f x) (scaled f y) (scaled f x') (scaled f y') l m)))

-- ---- infinite factors

pub inf_mul_inf : (f : Format) (s t : Bool) → mul f (inf s) (inf t) ≡ inf (unlike s t)
unfolding mul
inf_mul_inf f s t = refl

pub inf_mul : (f : Format) (s t : Bool) (n : ℕ) (d : ℤ) → mul f (inf s) (fin t (suc n) d) ≡ inf (unlike s t)
unfolding mul
inf_mul f s t n d = ap (λ (b : Bool). cond b nan (inf (unlike s t))) (eqb-suc-zero n)

pub weight_mul_inf : {f : Format} {w : Float} → Weight f w → (t : Bool) → mul f w (inf t) ≡ inf t
weight_mul_inf {f} {w = nan} p t = absurd p.fin
weight_mul_inf {f} {w = inf s} p t = absurd p.fin
weight_mul_inf {f} {w = fin s zero e} p t = absurd (lt_irrefl 0 (lt_of_lt_of_le p.some (le_of_eq (scaled_zero f s e))))
weight_mul_inf {f} {w = fin true (suc m) e} p t = absurd (true≢false p.plus)
weight_mul_inf {f} {w = fin false (suc m) e} p t = unfold mul in (ap (λ (b : Bool). cond b nan (inf (unlike false t))) (eqb-suc-zero m) ∙ ap inf (plain t))
  where
    plain : (t : Bool) → unlike false t ≡ t
    plain false = refl
    plain true = refl

module _ {f : Format} {w : Float} (p : Weight f w) where
  pub weight_mul_number : {x : Float} → Number f x → Number f (mul f w x)
  weight_mul_number {x = nan} q = absurd (unfold is_nan in q.num)
  weight_mul_number {x = inf t} q = rw (weight_mul_inf p t) (inf_number f t)
  weight_mul_number {x = fin t n d} q = (product_of f w (fin t n d) (weight_finite p) (record { fit = q.fit; fin = tt })).num

  pub weight_mul_nonneg : {x : Float} → NonNegative f x → NonNegative f (mul f w x)
  weight_mul_nonneg {x} q = record { num = weight_mul_number q.num; plus = go x q }
    where
      go : (x : Float) → NonNegative f x → negative (mul f w x) ≡ false
      go nan q = absurd (unfold is_nan in q.num.num)
      go (inf t) q = ap negative (weight_mul_inf p t) ∙ q.plus
      go (fin t n d) q = (product_of f w (fin t n d) (weight_finite p) (record { fit = q.num.fit; fin = tt })).sign ∙ ap (λ (s : Bool). unlike s t) p.plus ∙ ap (unlike false) q.plus

  pub weight_mul_mono : {x x' : Float} → Number f x → Number f x' → mid f ≤ ord f x → T (le x x') → T (le (mul f w x) (mul f w x'))
  weight_mul_mono {x} {x'} q q' h k = go x x' q q' h (le→ord f q q' k) k
    where
      go : (x x' : Float) → Number f x → Number f x' → mid f ≤ ord f x → ord f x ≤ ord f x' → T (le x x') → T (le (mul f w x) (mul f w x'))
      go x nan q q' h k l = absurd (unfold is_nan in q'.num)
      go x (inf true) q q' h k l = absurd (omega (arith, ord_is f (inf true), overflow_pos f))
      go x (inf false) q q' h k l = rw (weight_mul_inf p false) (float_le_inf f (weight_mul_number q))
      go nan (fin t n d) q q' h k l = absurd (unfold is_nan in q.num)
      go (inf true) (fin t n d) q q' h k l = absurd (omega (arith, ord_is f (inf true), overflow_pos f))
      go (inf false) (fin t n d) q q' h k l = absurd (omega (arith, ord_inf f, above_mid f (fin t n d) q'.fit (le_trans h k), finite_lt {x = fin t n d} (record { fit = q'.fit; fin = tt })))
      go (fin s m e) (fin t n d) q q' h k l = mul_mono (weight_finite p) (record { fit = q.fit; fin = tt }) (weight_finite p) (record { fit = q'.fit; fin = tt }) (nonneg_mid (weight_nonneg p)) h (float_le_refl f (number (weight_finite p))) l
