-- Twice a double above 0 and below 2 ^ 63 is exact, and half of its whole part, a half upward, is the nearest integer. Assumes nothing.
use Rattle.std.proofs.Common.{◌≡◌, ℕ, zero, suc, ◌+◌, ◌-◌, ◌*◌, ◌/◌, ◌%◌, ◌^◌, ◌<◌, ◌≤◌, min, true, false, ◌&&◌, T, eqb, ltb, leb, ℤ, pos, negsuc, neg_ℤ, sym, ap, ◌∙◌, subst, lt_of_lt_of_le, lt_irrefl, mul_assoc, mul_comm, div-lt_iff_lt-mul, add-mul, lt_of_mul-lt-mul_right, mul-lt-mul_of_pos_right, mul-pos, mul-one, mul-add, mul_right_comm, arith, lit<, lit≤, ltb→lt, lt→ltb, leb→le, pow_pos, pow_mono, pow-add, shl_lt}
use mathlib.Core.Path.{subst⁻¹}
use native.Mathlib.Nat.{add-div_right, div-div-eq-div-mul, min-eq_left}
use native.Mathlib.Decide.{dec_le}
use lib.Pow.{pow-lt}
use lib.Ieee.{Float, nan, inf, fin, binary64, up, down, fits, lt, neg, add, sum, round, to_unsigned}
use lib.Ieee.Fits.{down_pos, and_l, and_r}
use lib.Ieee.Exact.{HasValue, round_exact}
use lib.Ieee.Nearest.{div_same}
use Rattle.rounding.specs.Integers.{nearest_whole, round_away}
use Rattle.rounding.specs.Rounded.{Rounds}

-- half of a whole part, a half upward
abbrev half : ℕ → ℕ
half n = n / 2 + n % 2

half_of_whole : (X D : ℕ) → 0 < D → half (X / D) ≡ (X + D) / (D * 2)
half_of_whole X D p =
    let h : half (X / D) ≡ (X / D + 1) / 2 = omega arith in
    h ∙ ap (λ (q : ℕ). q / 2) (sym (add-div_right X p)) ∙ div-div-eq-div-mul (X + D) D 2

-- ---- what a value N / C above 0 and below 2 ^ 64 gives
value_above : (d : Float) (N C : ℕ) → HasValue d false N C → T (lt (fin true 1 (pos 0)) d)
unfolding lt
value_above (fin true m e) N C v = absurd (subst T v.0 tt)
value_above (fin false m e) N C v = lt→ltb 0 (1 * 1 * down e + m * up e * 1) (omega (arith, down_pos e))
value_above nan N C v = elim v [ ]
value_above (inf _) N C v = elim v [ ]

value_below : (d : Float) (N C : ℕ) → N < 2 ^ 64 * C → HasValue d false N C → T (lt d (fin false 1 (pos 64)))
unfolding lt
value_below (fin true m e) N C h v = absurd (subst T v.0 tt)
value_below (fin false m e) N C h v =
    let l : N * down e < 2 ^ 64 * C * down e = mul-lt-mul_of_pos_right h (down_pos e) in
    let k : m * up e * C < 2 ^ 64 * down e * C = subst (λ (x : ℕ). x < 2 ^ 64 * down e * C) (sym v.1) (subst (λ (x : ℕ). N * down e < x) (mul_right_comm (2 ^ 64) C (down e)) l) in
    let r : m * up e < 2 ^ 64 * down e = lt_of_mul-lt-mul_right C k in
    lt→ltb (m * up e * 1) (1 * 2 ^ 64 * down e) (omega arith)
value_below nan N C h v = elim v [ ]
value_below (inf _) N C h v = elim v [ ]

value_whole : (d : Float) (N C : ℕ) → 0 < C → N < 2 ^ 64 * C → HasValue d false N C → to_unsigned 64 d ≡ N / C
unfolding to_unsigned
value_whole (fin true m e) N C p h v = absurd (subst T v.0 tt)
value_whole (fin false m e) N C p h v =
    let q : m * up e / down e ≡ N / C = div_same (m * up e) (down e) N C (down_pos e) p v.1 in
    let b : N / C < 2 ^ 64 = (div-lt_iff_lt-mul p).1 h in
    ap (λ (x : ℕ). min x (2 ^ 64 - 1)) q ∙ min-eq_left (omega arith)
value_whole nan N C p h v = elim v [ ]
value_whole (inf _) N C p h v = elim v [ ]

-- ---- twice a value of the format is exact
not_past : (k : ℕ) → 2 ^ suc k ≤ 2 ^ 1074 → suc k ≤ 1074
not_past k h = go (dec_le (suc k) 1074)
  where
    go : Dec (suc k ≤ 1074) → suc k ≤ 1074
    go (yes p) = p
    go (no n) = absurd (lt_irrefl (2 ^ 1074) (lt_of_lt_of_le (pow-lt {i = 1074} {j = suc k} (omega (arith, n))) h))

twice : (x P : ℕ) → (x + x) * P ≡ x * (P + P)
twice x P = add-mul x x P ∙ sym (mul-add x P P)

-- (u + u) / C, with u and C as `add` has them
exact : (m : ℕ) (e : ℤ) → m < 2 ^ 53 → down e ≤ 2 ^ 1074 → m * up e < 2 ^ 63 * down e
    → HasValue (round binary64 false (m * up e * down e + m * up e * down e) (down e * down e)) false (m * up e * down e + m * up e * down e) (down e * down e)
exact m (pos k) small low under =
    let x = m * 2 ^ k in
    let u : x < 2 ^ 63 = omega arith in
    let e1 : m * 2 ^ (k + 1075) ≡ x * 2 ^ 1075 = ap (λ (y : ℕ). m * y) (pow-add 2 k 1075) ∙ sym (mul_assoc m (2 ^ k) (2 ^ 1075)) in
    let o : x * 1 ≡ x = mul-one x in
    round_exact binary64 false (x * 1 + x * 1) (1 * 1) m (k + 1075) (lit< tt) small
    (subst⁻¹ (λ (y : ℕ). y < 2 ^ 2098) e1 (lt_of_lt_of_le (shl_lt 63 1075 u) (pow_mono {i = 1138} {j = 2098} (lit≤ tt))))
    (subst⁻¹ (λ (y : ℕ). (y + y) * 2 ^ 1074 ≡ m * 2 ^ (k + 1075) * 1) o (twice x (2 ^ 1074) ∙ sym e1 ∙ sym (mul-one (m * 2 ^ (k + 1075)))))
exact m (negsuc k) small low under =
    let D = 2 ^ suc k in
    let J = 2 ^ (1075 - suc k) in
    let j : suc k ≤ 1074 = not_past k low in
    let z : 1075 - suc k + suc k ≡ 1075 = omega arith in
    let e1 : J * D ≡ 2 ^ 1075 = sym (pow-add 2 (1075 - suc k) (suc k)) ∙ ap (λ (y : ℕ). 2 ^ y) z in
    let e2 : m * J * (D * D) ≡ m * D * 2 ^ 1075 = mul_assoc m J (D * D) ∙ ap (λ (y : ℕ). m * y) (sym (mul_assoc J D D) ∙ ap (λ (y : ℕ). y * D) e1 ∙ mul_comm (2 ^ 1075) D) ∙ sym (mul_assoc m D (2 ^ 1075)) in
    let b : m * J < 2 ^ 2098 = lt_of_lt_of_le (shl_lt 53 (1075 - suc k) small) (pow_mono {i = 53 + (1075 - suc k)} {j = 2098} (omega arith)) in
    let o : m * 1 * D ≡ m * D = ap (λ (y : ℕ). y * D) (mul-one m) in
    round_exact binary64 false (m * 1 * D + m * 1 * D) (D * D) m (1075 - suc k) (mul-pos (pow_pos (suc k)) (pow_pos (suc k))) small b
    (subst⁻¹ (λ (y : ℕ). (y + y) * 2 ^ 1074 ≡ m * J * (D * D)) o (twice (m * D) (2 ^ 1074) ∙ sym e2))

-- ---- rounding does not reach 2 ^ 63: a double with a fraction is below 2 ^ 53
stays_below : (m : ℕ) (e : ℤ) → m < 2 ^ 53 → m * up e < 2 ^ 63 * down e → nearest_whole m e < 2 ^ 63
stays_below m (pos k) small under = omega arith
stays_below m (negsuc k) small under =
    (div-lt_iff_lt-mul (mul-pos (pow_pos (suc k)) (lit< tt))).1 (room m (2 ^ suc k) small (pow_pos (suc k)))
  where
    room : (m D : ℕ) → m < 2 ^ 53 → 0 < D → m * 1 * 2 + D < 2 ^ 63 * (D * 2)
    room m D h p = omega arith

-- ---- the sum of a value above 0 and below 2 ^ 63 with itself
pub record Doubled (x : Float) : Type 0 where
  pub above : T (lt (fin true 1 (pos 0)) (add binary64 x x))
  pub below : T (lt (add binary64 x x) (fin false 1 (pos 64)))
  pub rounds : Rounds x (half (to_unsigned 64 (add binary64 x x)))

rounds_to : (m : ℕ) (e : ℤ) (r : ℕ) → nearest_whole m e < 2 ^ 63 → r ≡ nearest_whole m e → Rounds (fin false m e) r
unfolding round_away neg
rounds_to m e r h q =
    record {
      under = omega arith;
      own = ap pos (q ∙ sym (min-eq_left (omega arith)));
      negated = ap (λ (y : ℕ). neg_ℤ (pos y)) (q ∙ sym (min-eq_left (omega arith)));
    }

-- from what `exact` gives
of_exact : (m : ℕ) (e : ℤ) → m < 2 ^ 53 → m * up e < 2 ^ 63 * down e
    → HasValue (add binary64 (fin false m e) (fin false m e)) false (m * up e * down e + m * up e * down e) (down e * down e)
    → Doubled (fin false m e)
of_exact m e small under v =
    let d = add binary64 (fin false m e) (fin false m e) in
    let u = m * up e in
    let D = down e in
    let C = D * D in
    let N = u * D + u * D in
    let p : 0 < D = down_pos e in
    let q : 0 < C = mul-pos p p in
    let a : u * D < 2 ^ 63 * D * D = mul-lt-mul_of_pos_right under p in
    let b : u * D < 2 ^ 63 * C = subst (λ (y : ℕ). u * D < y) (mul_assoc (2 ^ 63) D D) a in
    let h : N < 2 ^ 64 * C = omega arith in
    let n : N / C ≡ u * 2 / D = div_same N C (u * 2) D q p (same u D) in
    let w : to_unsigned 64 d ≡ u * 2 / D = value_whole d N C q h v ∙ n in
    record {
      above = value_above d N C v;
      below = value_below d N C h v;
      rounds = rounds_to m e (half (to_unsigned 64 d)) (stays_below m e small under) (ap half w ∙ half_of_whole (u * 2) D p);
    }
  where
    same : (u D : ℕ) → (u * D + u * D) * D ≡ u * 2 * (D * D)
    same u D = ap (λ (y : ℕ). y * D) (sym (add-mul u u D)) ∙ mul_assoc (u + u) D D ∙ ap (λ (y : ℕ). y * (D * D)) (omega arith)

pub doubled : (x : Float) → T (fits binary64 x) → T (lt (fin false 0 (pos 0)) x) → T (lt x (fin false 1 (pos 63))) → Doubled x
unfolding lt fits add sum
doubled nan f a b = absurd a
doubled (inf true) f a b = absurd a
doubled (inf false) f a b = absurd b
doubled (fin true m e) f a b = absurd a
doubled (fin false zero e) f a b = let h : 0 * 1 * down e < 0 * up e * 1 = ltb→lt (0 * 1 * down e) (0 * up e * 1) a in absurd (omega arith)
doubled (fin false (suc n) e) f a b =
    let h : suc n * up e * 1 < 1 * 2 ^ 63 * down e = ltb→lt (suc n * up e * 1) (1 * 2 ^ 63 * down e) b in
    let u : suc n * up e < 2 ^ 63 * down e = omega arith in
    let odd = eqb (suc n % 2) 1 in
    let short = ltb (suc n) (2 ^ 53) in
    let deep = leb (down e) (2 ^ 1074) in
    let big = ltb (suc n * up e) (2 ^ 1024 * down e) in
    let osd : T (odd && short && deep) = and_l (odd && short && deep) big f in
    let p : suc n < 2 ^ 53 = ltb→lt (suc n) (2 ^ 53) (and_r odd short (and_l (odd && short) deep osd)) in
    let l : down e ≤ 2 ^ 1074 = leb→le (down e) (2 ^ 1074) (and_r (odd && short) deep osd) in
    of_exact (suc n) e p u (exact (suc n) e p l u)
