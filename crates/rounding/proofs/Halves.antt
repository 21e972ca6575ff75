-- A finite value lies between two neighbouring whole numbers h and h + 1. Where it is not above h + 1/2, twice its magnitude is no more than the two converted to floats together, and where it is not below, no less: also above 2 ^ prec, where conversion loses bits. Assumes nothing.
use Rattle.std.proofs.Common.{◌≡◌, ℕ, zero, suc, ◌+◌, ◌-◌, ◌*◌, ◌^◌, ◌<◌, ◌≤◌, Bool, T, ℤ, pos, neg_ℤ, sym, ap, ◌∙◌, subst, inl, inr, le_trans, lt_trans, le_of_eq, lt_of_lt_of_le, lt_of_le_of_lt, le_of_lt, mul-le-mul_right, mul_assoc, suc-mul, mul_comm, add-mul, lt_of_mul-lt-mul_right, mul-le-mul_left, mul-lt-mul_of_pos_right, zero-mul, sub-add_cancel, mul_right_comm, div-mul-le_self, le_of_mul-le-mul_right, mul_left_comm, arith, pow_pos, pow_mono, pow-add}
use native.Mathlib.Nat.{le-suc, lt-div-mul-add}
use lib.IntN.{suc_ℤ, pred_ℤ}
use lib.Ieee.{Float, nan, inf, fin, Format, prec, low, up, down, fits}
use lib.Ieee.Fits.{down_pos}
use Rattle.rounding.specs.Integers.{nearest_whole}
use Rattle.rounding.proofs.Scaled.{scale, scaled, scale_pos, split, shift, fits_digits, scaled_shape, scaled_exact}
use Rattle.rounding.specs.Kinds.{Finite}
use Rattle.rounding.proofs.Value.{mid, scaled_mid}
use Rattle.rounding.proofs.Rounding.{round_scaled, round_scaled_mono, round_scaled_mid, round_scaled_zero, round_scaled_fix}
use Rattle.rounding.proofs.Conversion.{ord_int, round_scaled_whole}

-- ---- a value that is not whole is below 2 ^ prec

-- m * 2 ^ i with m < 2 ^ p, strictly between a and a + 1 times 2 ^ l
between : (p l m i a : ℕ) → m < 2 ^ p → a * 2 ^ l < m * 2 ^ i → m * 2 ^ i < suc a * 2 ^ l → m * 2 ^ i < 2 ^ p * 2 ^ l
between p l m i a h x y = elim (split l i) [
  | inl k ↦
      let e : m * 2 ^ i ≡ m * 2 ^ (i - l) * 2 ^ l = ap (λ (z : ℕ). m * 2 ^ z) (sym (sub-add_cancel k)) ∙ ap (λ (z : ℕ). m * z) (pow-add 2 (i - l) l) ∙ sym (mul_assoc m (2 ^ (i - l)) (2 ^ l)) in
      let u : a < m * 2 ^ (i - l) = lt_of_mul-lt-mul_right (2 ^ l) (subst (λ (z : ℕ). a * 2 ^ l < z) e x) in
      let v : m * 2 ^ (i - l) < suc a = lt_of_mul-lt-mul_right (2 ^ l) (subst (λ (z : ℕ). z < suc a * 2 ^ l) e y) in
      absurd (omega arith)
  | inr k ↦ lt_of_lt_of_le (mul-lt-mul_of_pos_right h (pow_pos i)) (mul-le-mul_left (2 ^ p) (pow_mono (le_of_lt k)))
]

not_whole : (f : Format) (x : Float) (a : ℕ) → Finite f x → a * scale f < scaled f x → scaled f x < suc a * scale f → scaled f x < 2 ^ prec f * scale f
not_whole f nan a p h k = absurd p.fin
not_whole f (inf s) a p h k = absurd p.fin
not_whole f (fin s m e) a p h k =
    let r = scaled_shape f s m e p.fit in
    let u = shift m e r.0 in
    let q : scaled f (fin s m e) ≡ m * 2 ^ u.0 = r.1 ∙ u.1 in
    subst (λ (z : ℕ). z < 2 ^ prec f * scale f) (sym q) (between (prec f) (low f) m u.0 a (fits_digits f s m e p.fit) (subst (λ (z : ℕ). a * scale f < z) q h) (subst (λ (z : ℕ). z < suc a * scale f) q k))

-- ---- the two whole numbers next to a value

module _ (f : Format) (x : Float) (p : Finite f x) where
  -- x ≤ h + 1/2
  upper : (h : ℕ) → scaled f x * 2 < h * scale f * 2 + scale f → scaled f x + scaled f x ≤ round_scaled f (h * scale f) + round_scaled f (suc h * scale f)
  upper h k = elim (split (scaled f x) (h * scale f)) [
    | inl a ↦ omega (arith, round_scaled_fix p, round_scaled_mono f (scaled f x) (h * scale f) a, round_scaled_mono f (h * scale f) (suc h * scale f) (mul-le-mul_right (scale f) (le-suc h)))
    | inr a ↦
        let s : suc h * scale f ≡ h * scale f + scale f = suc-mul h (scale f) in
        let b : scaled f x < 2 ^ prec f * scale f = not_whole f x h p a (rw s (omega arith)) in
        let c : h < 2 ^ prec f = lt_of_mul-lt-mul_right (scale f) (lt_trans a b) in
        let e : round_scaled f (h * scale f) ≡ h * scale f = round_scaled_whole f h (le_of_lt c) in
        let d : round_scaled f (suc h * scale f) ≡ h * scale f + scale f = round_scaled_whole f (suc h) c ∙ s in
        omega arith
  ]

  -- x ≥ h + 1/2
  lower : (h : ℕ) → suc h * scale f * 2 ≤ scaled f x * 2 + scale f → round_scaled f (h * scale f) + round_scaled f (suc h * scale f) ≤ scaled f x + scaled f x
  lower h k = elim (split (suc h * scale f) (scaled f x)) [
    | inl a ↦ omega (arith, round_scaled_fix p, round_scaled_mono f (suc h * scale f) (scaled f x) a, round_scaled_mono f (h * scale f) (suc h * scale f) (mul-le-mul_right (scale f) (le-suc h)))
    | inr a ↦
        let s : suc h * scale f ≡ h * scale f + scale f = suc-mul h (scale f) in
        let l : h * scale f < scaled f x = omega (arith, scale_pos f) in
        let b : scaled f x < 2 ^ prec f * scale f = not_whole f x h p l a in
        let c : h < 2 ^ prec f = lt_of_mul-lt-mul_right (scale f) (lt_trans l b) in
        let e : round_scaled f (h * scale f) ≡ h * scale f = round_scaled_whole f h (le_of_lt c) in
        let d : round_scaled f (suc h * scale f) ≡ suc h * scale f = round_scaled_whole f (suc h) c in
        omega arith
  ]

-- ---- what `nearest_whole` says in smallest values

halves : (a d X U : ℕ) → X * d ≡ a * U → (a * 2 + d) * U ≡ (X * 2 + U) * d
halves a d X U e = add-mul (a * 2) d U ∙ ap (λ (z : ℕ). z + d * U) (mul_right_comm a 2 U ∙ ap (λ (z : ℕ). z * 2) (sym e) ∙ mul_right_comm X d 2) ∙ ap (λ (z : ℕ). X * 2 * d + z) (mul_comm d U) ∙ sym (add-mul (X * 2) U d)

pub nearest_low : (f : Format) (s : Bool) (m : ℕ) (e : ℤ) → T (fits f (fin s m e)) → nearest_whole m e * scale f * 2 ≤ scaled f (fin s m e) * 2 + scale f
nearest_low f s m e t = go (nearest_whole m e) (m * up e) (down e) (scaled f (fin s m e)) (scale f) (down_pos e) (scaled_exact f s m e t) (div-mul-le_self (m * up e * 2 + down e) (down e * 2))
  where
    go : (h a d X U : ℕ) → 0 < d → X * d ≡ a * U → h * (d * 2) ≤ a * 2 + d → h * U * 2 ≤ X * 2 + U
    go h a d X U D e k = le_of_mul-le-mul_right (le_trans (le_of_eq left) (le_trans (mul-le-mul_right U k) (le_of_eq (halves a d X U e)))) D
      where
        left : h * U * 2 * d ≡ h * (d * 2) * U
        left = simp (mul_assoc, mul_comm, mul_left_comm)

pub nearest_high : (f : Format) (s : Bool) (m : ℕ) (e : ℤ) → T (fits f (fin s m e)) → scaled f (fin s m e) * 2 < nearest_whole m e * scale f * 2 + scale f
nearest_high f s m e t = go (nearest_whole m e) (m * up e) (down e) (scaled f (fin s m e)) (scale f) (scaled_exact f s m e t) (scale_pos f) (lt-div-mul-add (let d : 0 < down e = down_pos e in omega arith))
  where
    go : (h a d X U : ℕ) → X * d ≡ a * U → 0 < U → a * 2 + d < h * (d * 2) + d * 2 → X * 2 < h * U * 2 + U
    go h a d X U e P k =
        let r : X * 2 + U < h * U * 2 + U * 2 = lt_of_mul-lt-mul_right d (lt_of_le_of_lt (le_of_eq (sym (halves a d X U e))) (lt_of_lt_of_le (mul-lt-mul_of_pos_right k P) (le_of_eq left))) in
        omega arith
      where
        left : (h * (d * 2) + d * 2) * U ≡ (h * U * 2 + U * 2) * d
        left = add-mul (h * (d * 2)) (d * 2) U ∙ ap (λ (z : ℕ). z + d * 2 * U) (simp (mul_assoc, mul_comm, mul_left_comm)) ∙ ap (λ (z : ℕ). h * U * 2 * d + z) (simp (mul_assoc, mul_comm)) ∙ sym (add-mul (h * U * 2) (U * 2) d)

-- ---- the same for a signed value and its neighbours: k is not above |x| + 1/2, or |x| is below k + 1/2

module _ (f : Format) (x : Float) (p : Finite f x) where
  none : round_scaled f (0 * scale f) ≡ 0
  none = ap (round_scaled f) (zero-mul (scale f)) ∙ round_scaled_zero f

  x_mid : scaled f x ≤ mid f
  x_mid = scaled_mid f x p.fit

  pub plus_above : (k : ℕ) → scaled f x * 2 < k * scale f * 2 + scale f → mid f + scaled f x + (mid f + scaled f x) ≤ ord_int f (pos k) + ord_int f (suc_ℤ (pos k))
  plus_above k h = omega (arith, upper f x p k h)

  pub plus_below : (k : ℕ) → k * scale f * 2 ≤ scaled f x * 2 + scale f → ord_int f (pred_ℤ (pos k)) + ord_int f (pos k) ≤ mid f + scaled f x + (mid f + scaled f x)
  plus_below zero h = omega (arith, round_scaled_mid f (1 * scale f), none)
  plus_below (suc j) h = omega (arith, lower f x p j h)

  pub minus_above : (k : ℕ) → k * scale f * 2 ≤ scaled f x * 2 + scale f → mid f - scaled f x + (mid f - scaled f x) ≤ ord_int f (neg_ℤ (pos k)) + ord_int f (suc_ℤ (neg_ℤ (pos k)))
  minus_above zero h = omega arith
  minus_above (suc zero) h = omega (arith, lower f x p 0 h, x_mid, round_scaled_mid f (1 * scale f))
  minus_above (suc (suc j)) h = omega (arith, lower f x p (suc j) h, x_mid, round_scaled_mid f (suc (suc j) * scale f), round_scaled_mid f (suc j * scale f))

  pub minus_below : (k : ℕ) → scaled f x * 2 < k * scale f * 2 + scale f → ord_int f (pred_ℤ (neg_ℤ (pos k))) + ord_int f (neg_ℤ (pos k)) ≤ mid f - scaled f x + (mid f - scaled f x)
  minus_below zero h = omega (arith, upper f x p 0 h, x_mid, none, round_scaled_mid f (1 * scale f))
  minus_below (suc j) h = omega (arith, upper f x p (suc j) h, x_mid, round_scaled_mid f (suc (suc j) * scale f), round_scaled_mid f (suc j * scale f))
