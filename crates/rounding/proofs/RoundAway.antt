-- `round_away c` is an i64, and for a finite c, m = `round_away c`, and Z for conversion: Z(m - 1) + Z(m) ≤ 2c ≤ Z(m) + Z(m + 1), wherever the neighbour is an i64. So how far an i64 is from c, as computed, is least at m and grows weakly on both sides. Assumes nothing.
use Rattle.std.proofs.Common.{◌≡◌, ℕ, zero, suc, ◌+◌, ◌-◌, ◌*◌, ◌^◌, ◌<◌, ◌≤◌, min, true, false, T, ℤ, pos, neg_ℤ, sym, ap, ◌∙◌, inl, inr, le_trans, le_of_eq, add-le-add, mul-le-mul_right, arith, lit<, ltb→lt, lt→ltb}
use native.Mathlib.Nat.{min-le_left, min-le_right}
use lib.IntN.{suc_ℤ, pred_ℤ}
use lib.Signed.{le_z, lt_z}
use lib.Ieee.{Float, nan, inf, fin, Format, sub, of_int}
use Rattle.rounding.specs.Integers.{is_i64, nearest_whole, round_away}
use Rattle.rounding.proofs.Scaled.{scale, scaled}
use Rattle.rounding.specs.Kinds.{Finite}
use Rattle.rounding.proofs.Value.{ord}
use Rattle.rounding.proofs.Rounding.{round_scaled, round_scaled_mono}
use Rattle.rounding.proofs.Subtraction.{gap, scaled_sub}
use Rattle.rounding.proofs.Integers.{le_z_refl, le_z_total, le_z_cases, le_z_lt_z_trans, lt_z_le_z_trans, lt_z→suc_le_z, lt_z→le_z_pred, is_i64_suc, is_i64_pred}
use Rattle.rounding.proofs.Conversion.{ord_int, ord_of_int, ord_int_mono, of_int_finite}
use Rattle.rounding.proofs.Halves.{nearest_low, nearest_high, plus_above, plus_below, minus_above, minus_below}

pub round_away_is_i64 : (c : Float) → T (is_i64 (round_away c))
unfolding round_away
round_away_is_i64 nan = tt
round_away_is_i64 (inf true) = tt
round_away_is_i64 (inf false) = tt
round_away_is_i64 (fin false m e) = lt→ltb (min (nearest_whole m e) (2 ^ 63 - 1)) (2 ^ 63) (cap (nearest_whole m e))
  where
    cap : (h : ℕ) → min h (2 ^ 63 - 1) < 2 ^ 63
    cap h = omega arith
round_away_is_i64 (fin true m e) = go (min (nearest_whole m e) (2 ^ 63)) (min-le_right (nearest_whole m e) (2 ^ 63))
  where
    go : (k : ℕ) → k ≤ 2 ^ 63 → T (is_i64 (neg_ℤ (pos k)))
    go zero h = tt
    go (suc k) h = lt→ltb k (2 ^ 63) h

-- ---- its neighbours

scaled_down : (k h U B : ℕ) → k ≤ h → h * U * 2 ≤ B → k * U * 2 ≤ B
scaled_down k h U B a b = le_trans (mul-le-mul_right 2 (mul-le-mul_right U a)) b

pub round_away_above : (f : Format) (c : Float) → Finite f c → T (is_i64 (suc_ℤ (round_away c))) → ord f c + ord f c ≤ ord_int f (round_away c) + ord_int f (suc_ℤ (round_away c))
unfolding round_away ord
round_away_above f nan p t = absurd p.fin
round_away_above f (inf s) p t = absurd p.fin
round_away_above f (fin false m e) p t =
    let h = nearest_whole m e in
    let k = min h (2 ^ 63 - 1) in
    plus_above f (fin false m e) p k (rw (uncut h (ltb→lt (suc k) (2 ^ 63) t)) (nearest_high f false m e p.fit))
  where
    uncut : (h : ℕ) → suc (min h (2 ^ 63 - 1)) < 2 ^ 63 → min h (2 ^ 63 - 1) ≡ h
    uncut h l = omega arith
round_away_above f (fin true m e) p t =
    let h = nearest_whole m e in
    let k = min h (2 ^ 63) in
    minus_above f (fin true m e) p k (scaled_down k h (scale f) (scaled f (fin true m e) * 2 + scale f) (min-le_left h (2 ^ 63)) (nearest_low f true m e p.fit))

pub round_away_below : (f : Format) (c : Float) → Finite f c → T (is_i64 (pred_ℤ (round_away c))) → ord_int f (pred_ℤ (round_away c)) + ord_int f (round_away c) ≤ ord f c + ord f c
unfolding round_away ord
round_away_below f nan p t = absurd p.fin
round_away_below f (inf s) p t = absurd p.fin
round_away_below f (fin false m e) p t =
    let h = nearest_whole m e in
    let k = min h (2 ^ 63 - 1) in
    plus_below f (fin false m e) p k (scaled_down k h (scale f) (scaled f (fin false m e) * 2 + scale f) (min-le_left h (2 ^ 63 - 1)) (nearest_low f false m e p.fit))
round_away_below f (fin true m e) p t =
    let h = nearest_whole m e in
    let k = min h (2 ^ 63) in
    minus_below f (fin true m e) p k (rw (uncut h (low_end k t)) (nearest_high f true m e p.fit))
  where
    low_end : (k : ℕ) → T (is_i64 (pred_ℤ (neg_ℤ (pos k)))) → k < 2 ^ 63
    low_end zero u = lit< tt
    low_end (suc j) u = ltb→lt (suc j) (2 ^ 63) u

    uncut : (h : ℕ) → min h (2 ^ 63) < 2 ^ 63 → min h (2 ^ 63) ≡ h
    uncut h l = omega arith

-- ---- how far z is from c, as computed

abbrev pub gap_from : Format → Float → ℤ → ℕ
gap_from f c z = scaled f (sub f c (of_int f z))

wider_up : (C Z Z' : ℕ) → Z ≤ Z' → C + C ≤ Z + Z' → gap C Z ≤ gap C Z'
wider_up C Z Z' h k = omega arith

wider_down : (C Z Z' : ℕ) → Z' ≤ Z → Z' + Z ≤ C + C → gap C Z ≤ gap C Z'
wider_down C Z Z' h k = omega arith

module _ (f : Format) (c : Float) (p : Finite f c) where
  gap_from_is : (z : ℤ) → T (is_i64 z) → gap_from f c z ≡ round_scaled f (gap (ord f c) (ord_int f z))
  gap_from_is z t = scaled_sub f c (of_int f z) p (of_int_finite f z t) ∙ ap (λ (k : ℕ). round_scaled f (gap (ord f c) k)) (ord_of_int f z)

  by_gap : (z z' : ℤ) → T (is_i64 z) → T (is_i64 z') → gap (ord f c) (ord_int f z) ≤ gap (ord f c) (ord_int f z') → gap_from f c z ≤ gap_from f c z'
  by_gap z z' t t' h = le_trans (le_of_eq (gap_from_is z t)) (le_trans (round_scaled_mono f (gap (ord f c) (ord_int f z)) (gap (ord f c) (ord_int f z')) h) (le_of_eq (sym (gap_from_is z' t'))))

  pub gap_from_up : (z z' : ℤ) → T (is_i64 z) → T (is_i64 z') → T (le_z (round_away c) z) → T (le_z z z') → gap_from f c z ≤ gap_from f c z'
  gap_from_up z z' t t' h k = elim (le_z_cases z z' k) [
    | inl e ↦ le_of_eq (ap (gap_from f c) e)
    | inr l ↦
        let m = round_away c in
        let u : T (lt_z m z') = le_z_lt_z_trans m z z' h l in
        let a : ord f c + ord f c ≤ ord_int f m + ord_int f (suc_ℤ m) = round_away_above f c p (is_i64_suc m z' (round_away_is_i64 c) t' u) in
        let b : ord_int f m ≤ ord_int f z = ord_int_mono f m z h in
        let d : ord_int f (suc_ℤ m) ≤ ord_int f z' = ord_int_mono f (suc_ℤ m) z' (lt_z→suc_le_z m z' u) in
        by_gap z z' t t' (wider_up (ord f c) (ord_int f z) (ord_int f z') (ord_int_mono f z z' k) (le_trans a (add-le-add b d)))
  ]

  pub gap_from_down : (z z' : ℤ) → T (is_i64 z) → T (is_i64 z') → T (le_z z (round_away c)) → T (le_z z' z) → gap_from f c z ≤ gap_from f c z'
  gap_from_down z z' t t' h k = elim (le_z_cases z' z k) [
    | inl e ↦ le_of_eq (ap (gap_from f c) (sym e))
    | inr l ↦
        let m = round_away c in
        let u : T (lt_z z' m) = lt_z_le_z_trans z' z m l h in
        let a : ord_int f (pred_ℤ m) + ord_int f m ≤ ord f c + ord f c = round_away_below f c p (is_i64_pred z' m t' (round_away_is_i64 c) u) in
        let b : ord_int f z ≤ ord_int f m = ord_int_mono f z m h in
        let d : ord_int f z' ≤ ord_int f (pred_ℤ m) = ord_int_mono f z' (pred_ℤ m) (lt_z→le_z_pred z' m u) in
        by_gap z z' t t' (wider_down (ord f c) (ord_int f z) (ord_int f z') (ord_int_mono f z' z k) (le_trans (add-le-add d b) a))
  ]

  pub gap_from_least : (z : ℤ) → T (is_i64 z) → gap_from f c (round_away c) ≤ gap_from f c z
  gap_from_least z t = elim (le_z_total (round_away c) z) [
    | inl h ↦ gap_from_up (round_away c) z (round_away_is_i64 c) t (le_z_refl (round_away c)) h
    | inr h ↦ gap_from_down (round_away c) z (round_away_is_i64 c) t (le_z_refl (round_away c)) h
  ]
