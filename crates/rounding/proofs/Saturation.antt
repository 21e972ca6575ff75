-- `round_away` at the ends of its range, at zero, and of a negated value. Assumes nothing.
use Rattle.std.proofs.Common.{◌≡◌, ℕ, zero, suc, ◌+◌, ◌-◌, ◌*◌, ◌^◌, ◌<◌, ◌≤◌, min, true, false, not, T, ℤ, pos, negsuc, ◌-ℤ◌, neg_ℤ, sym, refl, ap, ◌∙◌, mul-pos, le-div_iff_mul-le, arith, lit<, ltb→lt, lt→ltb, nltb→le, w64, SFits, to_z}
use native.Mathlib.Nat.{div-eq_of_lt, min-eq_right}
use lib.IntN.{+ℤ_idl}
use lib.Signed.{mag}
use lib.Ieee.{Float, nan, inf, fin, up, down, lt, neg}
use lib.Ieee.Fits.{down_pos}
use mir.Facts.{to_z_pos}
use Rattle.rounding.specs.Integers.{nearest_whole, round_away}
use Rattle.rounding.proofs.Comparison.{nought}

abbrev limit : Float
limit = fin false 1 (pos 63)

-- ---- from 2 ^ 63 up, and from -2 ^ 63 down
large : (m : ℕ) (e : ℤ) → T (not (lt (fin false m e) limit)) → 2 ^ 63 ≤ nearest_whole m e
unfolding lt
large m e h =
    let g : 1 * 2 ^ 63 * down e ≤ m * up e * 1 = nltb→le (m * up e * 1) (1 * 2 ^ 63 * down e) h in
    (le-div_iff_mul-le (mul-pos (down_pos e) (lit< tt))).1 (omega arith)

-- a positive sign is not below zero
not_below : (m : ℕ) (e : ℤ) → T (lt (fin false m e) nought) → ⊥
unfolding lt
not_below m e a = let g : m * up e * 1 < 0 * 1 * down e = ltb→lt (m * up e * 1) (0 * 1 * down e) a in omega arith

pub at_top : (v : Float) → T (lt nought v) → T (not (lt v limit)) → pos (2 ^ 63 - 1) ≡ round_away v
unfolding lt round_away
at_top nan a b = absurd a
at_top (inf true) a b = absurd a
at_top (inf false) a b = refl
at_top (fin true m e) a b = absurd a
at_top (fin false m e) a b = let h : 2 ^ 63 ≤ nearest_whole m e = large m e b in ap pos (sym (min-eq_right (omega arith)))

pub at_bottom : (v : Float) → T (lt v nought) → T (not (lt (neg v) limit)) → negsuc (2 ^ 63 - 1) ≡ round_away v
unfolding lt neg round_away
at_bottom nan a b = absurd a
at_bottom (inf true) a b = refl
at_bottom (inf false) a b = absurd a
at_bottom (fin true m e) a b = ap (λ (y : ℕ). neg_ℤ (pos y)) (sym (min-eq_right {n = 2 ^ 63} {m = nearest_whole m e} (large m e b)))
at_bottom (fin false m e) a b = absurd (not_below m e a)

-- ---- a zero, and a NaN
rounds_to_zero : (m : ℕ) (e : ℤ) → m * up e ≡ 0 → nearest_whole m e ≡ 0
rounds_to_zero m e h = div-eq_of_lt (omega (arith, down_pos e))

pub at_zero : (v : Float) → T (not (lt nought v)) → T (not (lt v nought)) → pos 0 ≡ round_away v
unfolding lt round_away
at_zero nan a b = refl
at_zero (inf true) a b = absurd b
at_zero (inf false) a b = absurd a
at_zero (fin true m e) a b =
    let g : m * up e * 1 + 0 * 1 * down e ≤ 0 = nltb→le 0 (m * up e * 1 + 0 * 1 * down e) b in
    ap (λ (y : ℕ). neg_ℤ (pos (min y (2 ^ 63)))) (sym (rounds_to_zero m e (omega arith)))
at_zero (fin false m e) a b =
    let g : m * up e * 1 ≤ 0 * 1 * down e = nltb→le (0 * 1 * down e) (m * up e * 1) a in
    ap (λ (y : ℕ). pos (min y (2 ^ 63 - 1))) (sym (rounds_to_zero m e (omega arith)))

-- ---- a negated value
pub above_zero : (v : Float) → T (lt v nought) → T (lt nought (neg v))
unfolding lt neg
above_zero nan a = a
above_zero (inf true) a = tt
above_zero (inf false) a = absurd a
above_zero (fin true m e) a =
    let g : 0 < m * up e * 1 + 0 * 1 * down e = ltb→lt 0 (m * up e * 1 + 0 * 1 * down e) a in
    lt→ltb (0 * 1 * down e) (m * up e * 1) (omega arith)
above_zero (fin false m e) a = absurd (not_below m e a)

pub neg_twice : (v : Float) → neg (neg v) ≡ v
unfolding neg
neg_twice nan = refl
neg_twice (inf true) = refl
neg_twice (inf false) = refl
neg_twice (fin true m e) = refl
neg_twice (fin false m e) = refl

-- ---- 0 less a number below 2 ^ 63, as the machine takes it
negated_size : (n : ℕ) → n < 2 ^ 63 → mag (neg_ℤ (pos n)) < 2 ^ 63
negated_size zero h = lit< tt
negated_size (suc n) h = omega arith

pub negated_fits : (n : ℕ) → n < 2 ^ 63 → SFits w64 (pos 0 -ℤ to_z w64 n)
negated_fits n h = rw (to_z_pos w64 h, +ℤ_idl) (record { sfits = negated_size n h })

pub negated_is : (n : ℕ) → n < 2 ^ 63 → pos 0 -ℤ to_z w64 n ≡ neg_ℤ (pos n)
negated_is n h = ap (λ (z : ℤ). pos 0 -ℤ z) (to_z_pos w64 h) ∙ +ℤ_idl (neg_ℤ (pos n))
