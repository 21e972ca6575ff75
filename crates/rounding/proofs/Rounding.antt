-- What rounding does to the number of a value: `rnd` rounds to a number that the format holds. It keeps the order, it is odd about `mid`, and it leaves alone the number of a value that fits. Assumes nothing.
use Rattle.std.proofs.Common.{◌≡◌, ℕ, zero, suc, ◌+◌, ◌-◌, ◌*◌, ◌/◌, ◌%◌, ◌^◌, ◌<◌, ◌≤◌, Bool, true, false, cond, not, T, ltb, leb, ◌⊎◌, sym, refl, ap, ◌∙◌, subst, inl, inr, mul-le-mul_right, arith, le→leb, leb→le, pow_pos}
use Prim.Native.Nat.{compare}
use native.Mathlib.Nat.{eq_of_mul-eq-mul_right}
use lib.Ieee.{Float, nan, inf, fin, Format, prec, low, down, size, nearest, odd, units, round, neg, fits, is_nan}
use lib.Ieee.Fits.{down_pos, round_is, round-fits}
use lib.Ieee.Exact.{HasValue, round_exact}
use lib.Ieee.Order.{round_mono}
use lib.Ieee.Scale.{round_same, overflow}
use Rattle.rounding.specs.Doubles.{negative}
use Rattle.rounding.proofs.Scaled.{scale, scaled, scale_pos, overflow_pos, split, shift, fits_digits, scaled_shape, scaled_exact, scaled_lt, scaled_neg}
use Rattle.rounding.specs.Kinds.{Number, Finite}
use Rattle.rounding.proofs.Value.{offset, mid, ord, ord_is, scaled_mid, le→ord}

-- ---- the sign of a rounded value

odd_neg : (d : ℕ) (s : Bool) (q k l : ℕ) → odd d (not s) q k l ≡ neg (odd d s q k l)
unfolding odd neg
odd_neg d s zero k l = refl
odd_neg d s (suc q) k l = refl

units_neg : (f : Format) (s : Bool) (q k : ℕ) → units f (not s) q k ≡ neg (units f s q k)
unfolding units neg
units_neg f s q k = go (ltb (q * 2 ^ k) (overflow f))
  where
    go : (b : Bool) → cond b (odd (suc (prec f)) (not s) q k (low f)) (inf (not s)) ≡ neg (cond b (odd (suc (prec f)) s q k (low f)) (inf s))
    go true = odd_neg (suc (prec f)) s q k (low f)
    go false = refl

pub round_neg : (f : Format) (s : Bool) (a c : ℕ) → round f (not s) a c ≡ neg (round f s a c)
round_neg f s a c =
    let n = a * 2 ^ low f in
    let k = size (n / c) - prec f in
    let u = c * 2 ^ k in
    round_is f (not s) a c ∙ units_neg f s (nearest (n / u) (compare (n % u * 2) u)) k ∙ ap neg (sym (round_is f s a c))

-- the sign is s, and it is no NaN
record Signed (s : Bool) (x : Float) : Type 0 where
  sign : negative x ≡ s
  num : T (not (is_nan x))

odd_signed : (d : ℕ) (s : Bool) (q k l : ℕ) → Signed s (odd d s q k l)
unfolding odd is_nan
odd_signed d s zero k l = record { sign = refl; num = tt }
odd_signed d s (suc q) k l = record { sign = refl; num = tt }

units_signed : (f : Format) (s : Bool) (q k : ℕ) → Signed s (units f s q k)
unfolding units is_nan
units_signed f s q k = go (ltb (q * 2 ^ k) (overflow f))
  where
    go : (b : Bool) → Signed s (cond b (odd (suc (prec f)) s q k (low f)) (inf s))
    go true = odd_signed (suc (prec f)) s q k (low f)
    go false = record { sign = refl; num = tt }

round_signed : (f : Format) (s : Bool) (a c : ℕ) → Signed s (round f s a c)
round_signed f s a c =
    let n = a * 2 ^ low f in
    let k = size (n / c) - prec f in
    let u = c * 2 ^ k in
    rw (round_is f s a c) (units_signed f s (nearest (n / u) (compare (n % u * 2) u)) k)

pub round_sign : (f : Format) (s : Bool) (a c : ℕ) → negative (round f s a c) ≡ s
round_sign f s a c = (round_signed f s a c).sign

pub round_number : (f : Format) (s : Bool) (a c : ℕ) → Number f (round f s a c)
round_number f s a c = record { fit = round-fits f s a c; num = (round_signed f s a c).num }

-- ---- a rounded fraction, scaled

abbrev pub round_fraction : Format → ℕ → ℕ → ℕ
round_fraction f a c = scaled f (round f false a c)

pub scaled_round : (f : Format) (s : Bool) (a c : ℕ) → scaled f (round f s a c) ≡ round_fraction f a c
scaled_round f false a c = refl
scaled_round f true a c = ap (scaled f) (round_neg f false a c) ∙ scaled_neg f (round f false a c)

pub ord_round : (f : Format) (s : Bool) (a c : ℕ) → ord f (round f s a c) ≡ offset (mid f) s (round_fraction f a c)
ord_round f s a c = ord_is f (round f s a c) ∙ ap (λ (t : Bool). offset (mid f) t (scaled f (round f s a c))) (round_sign f s a c) ∙ ap (offset (mid f) s) (scaled_round f s a c)

pub round_fraction_mono : (f : Format) (a b c d : ℕ) → 0 < b → 0 < d → a * d ≤ c * b → round_fraction f a b ≤ round_fraction f c d
round_fraction_mono f a b c d B D h = omega (arith, ord_round f false a b, ord_round f false c d, le→ord f (round_number f false a b) (round_number f false c d) (round_mono f a b c d B D h))

pub round_fraction_same : (f : Format) (a b c d : ℕ) → 0 < b → 0 < d → a * d ≡ c * b → round_fraction f a b ≡ round_fraction f c d
round_fraction_same f a b c d B D e = ap (scaled f) (round_same f false a b c d B D e)

-- ---- a whole number of the smallest values, rounded to one that the format holds

abbrev pub round_scaled : Format → ℕ → ℕ
round_scaled f k = round_fraction f k (scale f)

pub round_scaled_mono : (f : Format) (j k : ℕ) → j ≤ k → round_scaled f j ≤ round_scaled f k
round_scaled_mono f j k h = round_fraction_mono f j (scale f) k (scale f) (scale_pos f) (scale_pos f) (mul-le-mul_right (scale f) h)

pub round_scaled_mid : (f : Format) (k : ℕ) → round_scaled f k ≤ mid f
round_scaled_mid f k = scaled_mid f (round f false k (scale f)) (round-fits f false k (scale f))

-- at most `prec` digits: exact
pub round_scaled_exact : (f : Format) (q j : ℕ) → q < 2 ^ prec f → q * 2 ^ j < overflow f → round_scaled f (q * 2 ^ j) ≡ q * 2 ^ j
round_scaled_exact f q j a b = go (round f false (q * 2 ^ j) (scale f)) (round-fits f false (q * 2 ^ j) (scale f)) (round_exact f false (q * 2 ^ j) (scale f) q j (scale_pos f) a b refl)
  where
    go : (x : Float) → T (fits f x) → HasValue x false (q * 2 ^ j) (scale f) → scaled f x ≡ q * 2 ^ j
    go nan t h = absurd h
    go (inf u) t h = absurd h
    go (fin u m e) t h = eq_of_mul-eq-mul_right (down e) (down_pos e) (scaled f (fin u m e)) (q * 2 ^ j) (scaled_exact f u m e t ∙ h.1)

pub round_scaled_zero : (f : Format) → round_scaled f 0 ≡ 0
round_scaled_zero f = round_scaled_exact f 0 0 (pow_pos (prec f)) (overflow_pos f)

-- a value that fits: exact
pub round_scaled_fix : {f : Format} {x : Float} → Finite f x → round_scaled f (scaled f x) ≡ scaled f x
round_scaled_fix {f} {x = nan} p = absurd p.fin
round_scaled_fix {f} {x = inf s} p = absurd p.fin
round_scaled_fix {f} {x = fin s m e} p =
    let r = scaled_shape f s m e p.fit in
    let u = shift m e r.0 in
    let w : scaled f (fin s m e) ≡ m * 2 ^ u.0 = r.1 ∙ u.1 in
    subst (λ (k : ℕ). round_scaled f k ≡ k) (sym w) (round_scaled_exact f m u.0 (fits_digits f s m e p.fit) (subst (λ (k : ℕ). k < overflow f) w (scaled_lt f s m e p.fit)))

-- ---- `rnd`

unfoldable pub rnd : Format → ℕ → ℕ
rnd f n = cond (leb (mid f) n) (mid f + round_scaled f (n - mid f)) (mid f - round_scaled f (mid f - n))

pub rnd_up : (f : Format) (k : ℕ) → rnd f (mid f + k) ≡ mid f + round_scaled f k
unfolding rnd
rnd_up f k = go (leb (mid f) (mid f + k)) (le→leb (mid f) (mid f + k) (omega arith)) ∙ ap (λ (z : ℕ). mid f + round_scaled f z) (cut (mid f))
  where
    cut : (M : ℕ) → M + k - M ≡ k
    cut M = omega arith

    go : (b : Bool) → T b → cond b (mid f + round_scaled f (mid f + k - mid f)) (mid f - round_scaled f (mid f - (mid f + k))) ≡ mid f + round_scaled f (mid f + k - mid f)
    go true t = refl
    go false t = absurd t

pub rnd_down : (f : Format) (k : ℕ) → k ≤ mid f → rnd f (mid f - k) ≡ mid f - round_scaled f k
unfolding rnd
rnd_down f k h = go (leb (mid f) (mid f - k)) (leb→le (mid f) (mid f - k))
  where
    cut : (M : ℕ) → k ≤ M → M - (M - k) ≡ k
    cut M l = omega arith

    flat : (M : ℕ) → k ≡ 0 → M - k - M ≡ 0
    flat M e = omega arith

    go : (b : Bool) → (T b → mid f ≤ mid f - k) → cond b (mid f + round_scaled f (mid f - k - mid f)) (mid f - round_scaled f (mid f - (mid f - k))) ≡ mid f - round_scaled f k
    go true t =
        let z : k ≡ 0 = let l : mid f ≤ mid f - k = t tt in omega (arith, overflow_pos f) in
        let a : round_scaled f (mid f - k - mid f) ≡ 0 = ap (round_scaled f) (flat (mid f) z) ∙ round_scaled_zero f in
        let b : round_scaled f k ≡ 0 = ap (round_scaled f) z ∙ round_scaled_zero f in
        omega arith
    go false t = ap (λ (z : ℕ). mid f - round_scaled f z) (cut (mid f) h)

-- n is k above or below `mid`
abbrev Side : Format → ℕ → Type 0
Side f n = ((k : ℕ) × (n ≡ mid f + k)) ⊎ ((k : ℕ) × (n ≡ mid f - k) × (k ≤ mid f))

side : (f : Format) (n : ℕ) → Side f n
side f n = elim (split (mid f) n) [ inl h ↦ inl (n - mid f, up (mid f) h) | inr h ↦ inr (mid f - n, down (mid f) h, under (mid f)) ]
  where
    up : (M : ℕ) → M ≤ n → n ≡ M + (n - M)
    up M h = omega arith

    down : (M : ℕ) → n < M → n ≡ M - (M - n)
    down M h = omega arith

    under : (M : ℕ) → M - n ≤ M
    under M = omega arith

pub rnd_mono : (f : Format) (a b : ℕ) → a ≤ b → rnd f a ≤ rnd f b
rnd_mono f a b h = go (side f a) (side f b)
  where
    go : Side f a → Side f b → rnd f a ≤ rnd f b
    go (inl (j, p)) (inl (k, q)) = rw (p, q, rnd_up f j, rnd_up f k) (omega (arith, round_scaled_mono f j k (omega arith)))
    go (inl (j, p)) (inr (k, q, l)) = rw (p, q, rnd_up f j, rnd_down f k l) (omega (arith, round_scaled_mono f j 0 (omega arith), round_scaled_mono f k 0 (omega arith), round_scaled_zero f))
    go (inr (j, p, l)) (inl (k, q)) = rw (p, q, rnd_down f j l, rnd_up f k) (omega arith)
    go (inr (j, p, l)) (inr (k, q, l')) = rw (p, q, rnd_down f j l, rnd_down f k l') (omega (arith, round_scaled_mono f k j (omega arith)))

-- odd about `mid`
pub rnd_odd : (f : Format) (n : ℕ) → n ≤ mid f + mid f → rnd f (mid f + mid f - n) ≡ mid f + mid f - rnd f n
rnd_odd f n h = go (side f n)
  where
    up : (M k : ℕ) → k ≤ M → M + M - (M + k) ≡ M - k
    up M k l = omega arith

    down : (M k : ℕ) → k ≤ M → M + M - (M - k) ≡ M + k
    down M k l = omega arith

    go : Side f n → rnd f (mid f + mid f - n) ≡ mid f + mid f - rnd f n
    go (inl (k, p)) =
        let l : k ≤ mid f = omega arith in
        ap (λ (z : ℕ). rnd f (mid f + mid f - z)) p ∙ ap (rnd f) (up (mid f) k l) ∙ rnd_down f k l ∙ sym (up (mid f) (round_scaled f k) (round_scaled_mid f k)) ∙ ap (λ (z : ℕ). mid f + mid f - z) (sym (ap (rnd f) p ∙ rnd_up f k))
    go (inr (k, p, l)) = ap (λ (z : ℕ). rnd f (mid f + mid f - z)) p ∙ ap (rnd f) (down (mid f) k l) ∙ rnd_up f k ∙ sym (down (mid f) (round_scaled f k) (round_scaled_mid f k)) ∙ ap (λ (z : ℕ). mid f + mid f - z) (sym (ap (rnd f) p ∙ rnd_down f k l))

-- exact on what fits
pub rnd_fix : {f : Format} {x : Float} → Finite f x → rnd f (ord f x) ≡ ord f x
rnd_fix {f} {x} p = subst (λ (k : ℕ). rnd f k ≡ k) (sym (ord_is f x)) (go (negative x))
  where
    go : (s : Bool) → rnd f (offset (mid f) s (scaled f x)) ≡ offset (mid f) s (scaled f x)
    go false = rnd_up f (scaled f x) ∙ ap (λ (z : ℕ). mid f + z) (round_scaled_fix p)
    go true = rnd_down f (scaled f x) (scaled_mid f x p.fit) ∙ ap (λ (z : ℕ). mid f - z) (round_scaled_fix p)
