-- A small integer that is nearer than a half to a double, as computed, is what the double is rounded to; and the integer that the code guesses is small. Assumes nothing.
use Rattle.std.proofs.Common.{◌≡◌, ℕ, zero, suc, ◌+◌, ◌-◌, ◌*◌, ◌^◌, ◌<◌, ◌≤◌, true, false, T, ℤ, pos, negsuc, ◌-ℤ◌, sym, ap, ◌∙◌, inl, inr, le_trans, le_of_eq, lt_of_lt_of_le, lt_of_le_of_lt, lt_irrefl, suc-mul, one-mul, zero-mul, arith, lt→ltb, le-ltb, lt-ltb}
use lib.IntN.{suc_ℤ, pred_ℤ, suc-pred}
use lib.Signed.{mag, lt_z}
use lib.Ieee.{Float, nan, inf, fin, Format, binary64, prec, fits, lt, sub, add, neg, of_int}
use lib.Ieee.Scale.{finite}
use Rattle.rounding.specs.Integers.{is_i64, round_away}
use Rattle.rounding.proofs.Scaled.{scale, scaled, split, scaled_exact}
use Rattle.rounding.specs.Kinds.{Finite}
use Rattle.rounding.proofs.Value.{number, mid, ord, ord_is, lt→ord}
use Rattle.rounding.proofs.Rounding.{round_scaled, round_scaled_mid, round_scaled_zero, rnd, rnd_mono, rnd_fix}
use Rattle.rounding.proofs.Subtraction.{ord_sub, sub_number}
use Rattle.rounding.proofs.Integers.{le_z_total, le_z_cases, lt_z→suc_le_z, lt_z→le_z_pred, is_i64_suc, is_i64_pred}
use Rattle.rounding.proofs.Conversion.{ord_int, ord_of_int, ord_int_mono, of_int_finite, round_scaled_whole}
use Rattle.rounding.proofs.RoundAway.{round_away_is_i64, round_away_above, round_away_below}

-- ---- a small number less a small one
pub less_size : (n k : ℕ) → n < 2 ^ 52 → k < 2 ^ 52 → mag (pos n -ℤ pos (suc k)) < 2 ^ 52
less_size n k h l = elim (split (suc k) n) [
  | inl a ↦ rw (le-ltb n (suc k) a) (omega arith)
  | inr a ↦ rw (lt-ltb n (suc k) a) (omega arith)
]

-- ---- a half, and minus a half
abbrev pub half : Float
half = fin false 1 (negsuc 0)

abbrev pub minus_half : Float
minus_half = fin true 1 (negsuc 0)

half_finite : Finite binary64 half
half_finite = record { fit = unfold fits in tt; fin = tt }

minus_half_finite : Finite binary64 minus_half
minus_half_finite = record { fit = unfold fits in tt; fin = tt }

half_twice : scaled binary64 half * 2 ≡ 1 * 1 * scale binary64
half_twice = scaled_exact binary64 false 1 (negsuc 0) half_finite.fit

minus_half_twice : scaled binary64 minus_half * 2 ≡ 1 * 1 * scale binary64
minus_half_twice = scaled_exact binary64 true 1 (negsuc 0) minus_half_finite.fit

-- ---- the numbers of neighbouring small integers are a whole apart
step : (f : Format) (z : ℤ) → suc (suc (mag z)) ≤ 2 ^ prec f → ord_int f (suc_ℤ z) ≡ ord_int f z + scale f
step f (pos n) h = up (mid f) (scale f) (round_scaled_whole f n (omega arith)) (round_scaled_whole f (suc n) (omega arith) ∙ suc-mul n (scale f))
  where
    up : (M U : ℕ) {R S k : ℕ} → R ≡ k → S ≡ k + U → M + S ≡ M + R + U
    up M U a b = omega arith
step f (negsuc zero) h = down (mid f) (scale f) (ap (round_scaled f) (zero-mul (scale f)) ∙ round_scaled_zero f) (round_scaled_whole f 1 (omega arith) ∙ one-mul (scale f)) (round_scaled_mid f (1 * scale f))
  where
    down : (M U : ℕ) {R S : ℕ} → R ≡ 0 → S ≡ U → S ≤ M → M + R ≡ M - S + U
    down M U a b l = omega arith
step f (negsuc (suc n)) h = down (mid f) (scale f) (round_scaled_whole f (suc n) (omega arith)) (round_scaled_whole f (suc (suc n)) (omega arith) ∙ suc-mul (suc n) (scale f)) (round_scaled_mid f (suc (suc n) * scale f))
  where
    down : (M U : ℕ) {R S k : ℕ} → R ≡ k → S ≡ k + U → S ≤ M → M - R ≡ M - S + U
    down M U a b l = omega arith

step_back : (f : Format) (z : ℤ) → suc (suc (suc (mag z))) ≤ 2 ^ prec f → ord_int f z ≡ ord_int f (pred_ℤ z) + scale f
step_back f z h = ap (ord_int f) (sym (suc-pred z)) ∙ step f (pred_ℤ z) (size z h)
  where
    size : (z : ℤ) → suc (suc (suc (mag z))) ≤ 2 ^ prec f → suc (suc (mag (pred_ℤ z))) ≤ 2 ^ prec f
    size (pos zero) h = omega arith
    size (pos (suc n)) h = omega arith
    size (negsuc n) h = h

-- ---- what is within a half of a finite value is finite
finite_near : (v x : Float) → T (finite x) → T (lt (sub binary64 v x) half) → T (lt minus_half (sub binary64 v x)) → T (finite v)
unfolding sub add neg lt
finite_near v nan t a b = absurd t
finite_near v (inf s) t a b = absurd t
finite_near nan (fin s m e) t a b = absurd a
finite_near (inf false) (fin s m e) t a b = absurd a
finite_near (inf true) (fin s m e) t a b = absurd b
finite_near (fin u n d) (fin s m e) t a b = tt

-- ---- the law
module _ (v : Float) (fit : T (fits binary64 v)) (z : ℤ) (small : mag z < 2 ^ 52) (a : T (lt (sub binary64 v (of_int binary64 z)) half)) (b : T (lt minus_half (sub binary64 v (of_int binary64 z)))) where
  abbrev C : ℕ
  C = ord binary64 v

  abbrev Z : ℕ
  Z = ord_int binary64 z

  whole : T (is_i64 z)
  whole = lt→ltb (mag z) (2 ^ 63) (omega arith)

  x_finite : Finite binary64 (of_int binary64 z)
  x_finite = of_int_finite binary64 z whole

  v_finite : Finite binary64 v
  v_finite = record { fit = fit; fin = finite_near v (of_int binary64 z) x_finite.fin a b }

  abbrev off : ℕ
  off = ord binary64 (sub binary64 v (of_int binary64 z))

  off_is : off ≡ rnd binary64 (mid binary64 + C - Z)
  off_is = ord_sub binary64 v (of_int binary64 z) v_finite x_finite ∙ ap (λ (k : ℕ). rnd binary64 (mid binary64 + C - k)) (ord_of_int binary64 z)

  below_half : mid binary64 + C - Z < ord binary64 half
  below_half = elim (split (ord binary64 half) (mid binary64 + C - Z)) [
    | inl h ↦
        let k = lt→ord binary64 (sub_number v_finite x_finite) (number half_finite) a in
        let l = le_trans (le_of_eq (sym (rnd_fix half_finite))) (le_trans (rnd_mono binary64 (ord binary64 half) (mid binary64 + C - Z) h) (le_of_eq (sym off_is))) in
        absurd (lt_irrefl off (lt_of_lt_of_le k l))
    | inr h ↦ h
  ]

  above_half : ord binary64 minus_half < mid binary64 + C - Z
  above_half = elim (split (mid binary64 + C - Z) (ord binary64 minus_half)) [
    | inl h ↦
        let k = lt→ord binary64 (number minus_half_finite) (sub_number v_finite x_finite) b in
        let l = le_trans (le_of_eq off_is) (le_trans (rnd_mono binary64 (mid binary64 + C - Z) (ord binary64 minus_half) h) (le_of_eq (rnd_fix minus_half_finite))) in
        absurd (lt_irrefl off (lt_of_le_of_lt l k))
    | inr h ↦ h
  ]

  under : C + C < Z + Z + scale binary64
  under = go C Z (mid binary64) (scaled binary64 half) (scale binary64) half_twice (lt_of_lt_of_le below_half (le_of_eq (ord_is binary64 half)))
    where
      go : (c z m h u : ℕ) → h * 2 ≡ 1 * 1 * u → m + c - z < m + h → c + c < z + z + u
      go c z m h u e l = omega arith

  over : Z + Z < C + C + scale binary64
  over = go C Z (mid binary64) (scaled binary64 minus_half) (scale binary64) minus_half_twice (lt_of_le_of_lt (le_of_eq (sym (ord_is binary64 minus_half))) above_half)
    where
      go : (c z m h u : ℕ) → h * 2 ≡ 1 * 1 * u → m - h < m + c - z → z + z < c + c + u
      go c z m h u e l = omega arith

  not_less : T (lt_z (round_away v) z) → ⊥
  not_less l =
      let m = round_away v in
      let p = round_away_above binary64 v v_finite (is_i64_suc m z (round_away_is_i64 v) whole l) in
      let q = ord_int_mono binary64 (suc_ℤ m) z (lt_z→suc_le_z m z l) in
      let r = ord_int_mono binary64 m (pred_ℤ z) (lt_z→le_z_pred m z l) in
      go C Z (ord_int binary64 (pred_ℤ z)) (ord_int binary64 m) (ord_int binary64 (suc_ℤ m)) (scale binary64) p q r (step_back binary64 z (omega arith)) over
    where
      go : (c z y m n u : ℕ) → c + c ≤ m + n → n ≤ z → m ≤ y → z ≡ y + u → z + z < c + c + u → ⊥
      go c z y m n u p q r e h = omega arith

  not_more : T (lt_z z (round_away v)) → ⊥
  not_more l =
      let m = round_away v in
      let p = round_away_below binary64 v v_finite (is_i64_pred z m whole (round_away_is_i64 v) l) in
      let q = ord_int_mono binary64 z (pred_ℤ m) (lt_z→le_z_pred z m l) in
      let r = ord_int_mono binary64 (suc_ℤ z) m (lt_z→suc_le_z z m l) in
      go C Z (ord_int binary64 (suc_ℤ z)) (ord_int binary64 (pred_ℤ m)) (ord_int binary64 m) (scale binary64) p q r (step binary64 z (omega arith)) under
    where
      go : (c z y n m u : ℕ) → n + m ≤ c + c → z ≤ n → y ≤ m → y ≡ z + u → c + c < z + z + u → ⊥
      go c z y n m u p q r e h = omega arith

  pub near_is : z ≡ round_away v
  near_is = elim (le_z_total z (round_away v)) [
    | inl h ↦ elim (le_z_cases z (round_away v) h) [ inl e ↦ e | inr l ↦ absurd (not_more l) ]
    | inr h ↦ elim (le_z_cases (round_away v) z h) [ inl e ↦ sym e | inr l ↦ absurd (not_less l) ]
  ]
