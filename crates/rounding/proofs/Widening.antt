-- A radius r, widened to r + (2^-52·max(r, 1))·k and rounded after each operation, is strictly above r, for a finite r that is not below zero and a whole k from 4 up; and it has the sign plus if r has it, for k = 0 too. Both zeros are widened to the same value. Assumes nothing.
use Rattle.std.proofs.Common.{◌≡◌, ℕ, zero, suc, ◌+◌, ◌-◌, ◌*◌, ◌/◌, ◌^◌, ◌<◌, ◌≤◌, Bool, true, false, cond, not, ◌||◌, T, ltb, ◌⊎◌, pos, negsuc, sym, refl, ap, ◌∙◌, inl, inr, true≢false, le_trans, le_of_eq, le_refl, lt_of_lt_of_le, lt_of_le_of_lt, add-le-add, mul-le-mul_right, mul_assoc, mul_comm, div-lt_iff_lt-mul, add-mul, mul-le-mul, mul-le-mul_left, one-mul, lt_of_not-le, zero-mul, mul-one, sub-add_cancel, mul_right_comm, not-le_of_lt, div-mul-le_self, mul_left_comm, sub-le, add-one, arith, lit<, lit≤, T_not, pow_pos, pow_mono, pow-add, lt-ltb}
use native.Mathlib.Nat.{lt-div-mul-add}
use lib.Pow.{pow-lt}
use lib.Ieee.{Float, nan, inf, fin, Format, binary32, binary64, prec, low, up, down, unlike, size, round, sum, add, mul, lt, eq, of_int, fits, is_nan}
use lib.Ieee.Digits.{size-lt, size_reaches}
use lib.Ieee.Fits.{add-fits}
use lib.Ieee.Scale.{overflow}
use Rattle.rounding.specs.Doubles.{negative, larger}
use Rattle.rounding.proofs.Scaled.{scale, scaled, scale_pos, scale_scale_pos, one_digit, split, scaled_exact, scaled_power}
use Rattle.rounding.specs.Kinds.{Number, Finite, NonNegative}
use Rattle.rounding.proofs.Value.{Weight, number, weight_finite, zero_finite, zero_nonneg, finite_lt, finite_of_lt, mid, ord, ord_is, ord_inf, nonneg_ord, above_mid, mid_sign, lt→ord, ord→lt}
use Rattle.rounding.proofs.Rounding.{round_scaled, round_fraction_mono, round_fraction_same, round_scaled_mono, round_scaled_exact, round_scaled_fix, rnd, rnd_up}
use Rattle.rounding.proofs.Addition.{add_inf, ord_add, add_number}
use Rattle.rounding.proofs.NonNegative.{add_nonneg}
use Rattle.rounding.proofs.Conversion.{scaled_whole, of_int_weight}
use Rattle.rounding.proofs.Multiplication.{product, Product, product_of, product_mono}
use Rattle.rounding.proofs.Tests.{mid_of_not_lt, nonneg_not_lt}
use Rattle.rounding.proofs.Zeros.{with_plus_zero, zero_signed}

-- ---- a sum that is strictly above its first part

-- the first magnitude that overflows does so
round_scaled_overflow : (f : Format) → round_scaled f (overflow f) ≡ overflow f
unfolding round
round_scaled_overflow binary32 = refl
round_scaled_overflow binary64 = refl

-- X has few digits in the unit 2 ^ i, and the part added reaches that unit
strict : (f : Format) (X i D : ℕ) → X < overflow f → X / 2 ^ i + 1 < 2 ^ prec f → 2 ^ i ≤ D → X < round_scaled f (X + D)
strict f X i D o d h = lt_of_lt_of_le (go (split (overflow f) next)) (round_scaled_mono f next (X + D) (le_trans near (add-le-add (le_refl X) h)))
  where
    next : ℕ
    next = (X / 2 ^ i + 1) * 2 ^ i

    is : next ≡ X / 2 ^ i * 2 ^ i + 2 ^ i
    is = add-mul (X / 2 ^ i) 1 (2 ^ i) ∙ ap (λ (z : ℕ). X / 2 ^ i * 2 ^ i + z) (one-mul (2 ^ i))

    near : next ≤ X + 2 ^ i
    near = le_trans (le_of_eq is) (add-le-add (div-mul-le_self X (2 ^ i)) (le_refl (2 ^ i)))

    go : (overflow f ≤ next) ⊎ (next < overflow f) → X < round_scaled f next
    go (inl k) = lt_of_lt_of_le o (le_trans (le_of_eq (sym (round_scaled_overflow f))) (round_scaled_mono f (overflow f) next k))
    go (inr k) = lt_of_lt_of_le (lt_of_lt_of_le (lt-div-mul-add (pow_pos i)) (le_of_eq (sym is))) (le_of_eq (sym (round_scaled_exact f (X / 2 ^ i + 1) i d k)))

grows_strictly : (f : Format) (r e : Float) (i : ℕ) → Finite f r → mid f ≤ ord f r → NonNegative f e → scaled f r / 2 ^ i + 1 < 2 ^ prec f → 2 ^ i ≤ scaled f e → ord f r < ord f (add f r e)
grows_strictly f nan e i p h q d k = absurd p.fin
grows_strictly f (inf s) e i p h q d k = absurd p.fin
grows_strictly f (fin s m x) nan i p h q d k = absurd (unfold is_nan in q.num.num)
grows_strictly f (fin s m x) (inf true) i p h q d k = absurd (true≢false q.plus)
grows_strictly f (fin s m x) (inf false) i p h q d k = rw (add_inf f s m x false, ord_inf f) (omega (arith, above_mid f (fin s m x) p.fit h, finite_lt p))
grows_strictly f (fin s m x) (fin t n y) i p h q d k =
    let r = fin s m x in
    let e = fin t n y in
    let a : ord f r ≡ mid f + scaled f r = above_mid f r p.fit h in
    let b : ord f e ≡ mid f + scaled f e = nonneg_ord q in
    let c : ord f (add f r e) ≡ mid f + round_scaled f (scaled f r + scaled f e) = ord_add f r e p (record { fit = q.num.fit; fin = tt }) ∙ ap (rnd f) (flat (mid f) (scaled f r) (scaled f e) a b) ∙ rnd_up f (scaled f r + scaled f e) in
    omega (arith, strict f (scaled f r) i (scaled f e) (finite_lt p) d k)
  where
    flat : (M x y : ℕ) {a b : ℕ} → a ≡ M + x → b ≡ M + y → a + b - M ≡ M + (x + y)
    flat M x y h k = omega arith

-- ---- the part added: (2^-52·L)·k for an L of scaled magnitude from 2 ^ j up, and a k from 4 up

-- the distance from 1 to the next double
abbrev pub eps : Float
eps = fin false 1 (negsuc 51)

eps_finite : (f : Format) → Finite f eps
eps_finite f = record { fit = go f; fin = tt }
  where
    go : (f : Format) → T (fits f eps)
    go binary32 = unfold fits in tt
    go binary64 = unfold fits in tt

eps_scaled : (f : Format) → scaled f eps * 2 ^ 52 ≡ scale f
eps_scaled f = scaled_exact f false 1 (negsuc 51) (eps_finite f).fit ∙ ap (λ (z : ℕ). z * scale f) (mul-one 1) ∙ one-mul (scale f)

low_deep : (f : Format) → 52 ≤ low f
low_deep binary32 = lit≤ tt
low_deep binary64 = lit≤ tt

power_exact : (f : Format) (j : ℕ) → 2 ^ j < overflow f → round_scaled f (2 ^ j) ≡ 2 ^ j
power_exact f j o = let e : 1 * 2 ^ j ≡ 2 ^ j = one-mul (2 ^ j) in rw e at (round_scaled_exact f 1 j (one_digit f) (rw e o))

eps_times_low : (f : Format) (j L : ℕ) → 52 ≤ j → 2 ^ j ≤ L → 2 ^ j < overflow f → 2 ^ (j - 52) ≤ product f (scaled f eps) L
eps_times_low f j L h k o = le_trans (le_of_eq (sym (power_exact f (j - 52) (lt_of_le_of_lt (pow_mono (sub-le j 52)) o)))) (round_fraction_mono f (2 ^ (j - 52)) (scale f) (scaled f eps * L) (scale f * scale f) (scale_pos f) (scale_scale_pos f) cross)
  where
    I : ℕ
    I = 2 ^ (j - 52)

    shifted : I * scale f ≡ scaled f eps * 2 ^ j
    shifted = ap (λ (z : ℕ). I * z) (sym (eps_scaled f)) ∙ mul_left_comm I (scaled f eps) (2 ^ 52) ∙ ap (λ (z : ℕ). scaled f eps * z) (sym (pow-add 2 (j - 52) 52) ∙ ap (λ (z : ℕ). 2 ^ z) (sub-add_cancel h))

    cross : 2 ^ (j - 52) * (scale f * scale f) ≤ scaled f eps * L * scale f
    cross = le_trans (le_of_eq (sym (mul_assoc I (scale f) (scale f)) ∙ ap (λ (z : ℕ). z * scale f) shifted)) (mul-le-mul_right (scale f) (mul-le-mul_left (scaled f eps) k))

times_low : (f : Format) (i x k : ℕ) → 2 ^ i ≤ x → 4 ≤ k → 2 ^ (i + 2) < overflow f → 2 ^ (i + 2) ≤ product f x (k * scale f)
times_low f i x k h q o =
    le_trans (le_of_eq (sym (power_exact f (i + 2) o)))
    (le_trans (round_scaled_mono f (2 ^ (i + 2)) (x * k) (le_trans (le_of_eq (pow-add 2 i 2)) (mul-le-mul h q)))
    (le_of_eq (round_fraction_same f (x * k) (scale f) (x * (k * scale f)) (scale f * scale f) (scale_pos f) (scale_scale_pos f) (sym (mul_assoc (x * k) (scale f) (scale f)) ∙ ap (λ (z : ℕ). z * scale f) (mul_assoc x k (scale f))))))

eps_times_finite : (f : Format) (L : Float) → Finite f L → Finite f (mul f eps L)
eps_times_finite f L p = finite_of_lt r.num (lt_of_le_of_lt (le_trans (le_of_eq r.size) (le_trans (product_mono f (scaled f eps) (scaled f L) (scale f) (scaled f L) small (le_refl (scaled f L))) (le_of_eq flat))) (finite_lt p))
  where
    r : Product f eps L
    r = product_of f eps L (eps_finite f) p

    small : scaled f eps ≤ scale f
    small = le_trans (le_of_eq (sym (mul-one (scaled f eps)))) (le_trans (mul-le-mul_left (scaled f eps) (pow_pos 52)) (le_of_eq (eps_scaled f)))

    flat : product f (scale f) (scaled f L) ≡ scaled f L
    flat = round_fraction_same f (scale f * scaled f L) (scale f * scale f) (scaled f L) (scale f) (scale_scale_pos f) (scale_pos f) (mul_right_comm (scale f) (scaled f L) (scale f) ∙ mul_comm (scale f * scale f) (scaled f L)) ∙ round_scaled_fix p

-- ---- the widening, for an L that is not below r and not below 1

record AtLeast (f : Format) (r L : Float) : Type 0 where
  fin : Finite f L
  plus : negative L ≡ false
  one : scale f ≤ scaled f L
  over : scaled f r ≤ scaled f L

-- a part (2^-52·L)·k is not negative if k is not
part_sign : (f : Format) (r L k : Float) → AtLeast f r L → Finite f k → negative k ≡ false → NonNegative f (mul f (mul f eps L) k)
part_sign f r L k v q s =
    let inner = product_of f eps L (eps_finite f) v.fin in
    let outer = product_of f (mul f eps L) k (eps_times_finite f L v.fin) q in
    record { num = outer.num; plus = outer.sign ∙ ap (λ (b : Bool). unlike b (negative k)) (inner.sign ∙ ap (unlike false) v.plus) ∙ ap (unlike false) s }

-- the leading binary digit of X, which is not below 2 ^ l
leading : (l X : ℕ) → 2 ^ l ≤ X → (j : ℕ) × (l ≤ j) × (2 ^ j ≤ X) × (X < 2 ^ suc j)
leading l X h = go (size X) (size-lt X) (size_reaches X) (lt_of_not-le (λ (k : size X ≤ l). not-le_of_lt (lt_of_lt_of_le (size-lt X) (pow_mono k)) h))
  where
    go : (s : ℕ) → X < 2 ^ s → ((i : ℕ) → i < s → 2 ^ i ≤ X) → l < s → (j : ℕ) × (l ≤ j) × (2 ^ j ≤ X) × (X < 2 ^ suc j)
    go zero a b c = absurd (omega arith)
    go (suc s) a b c = (s, omega arith, b s (omega arith), a)

module _ (f : Format) (r L : Float) (k : ℕ) (p : Finite f r) (v : AtLeast f r L) (q : 4 ≤ k) (q' : k ≤ 2 ^ prec f) where
  weight : Weight f (of_int f (pos k))
  weight = of_int_weight f k (lt_of_lt_of_le (lit< tt) q) q'

  inner : Product f eps L
  inner = product_of f eps L (eps_finite f) v.fin

  outer : Product f (mul f eps L) (of_int f (pos k))
  outer = product_of f (mul f eps L) (of_int f (pos k)) (eps_times_finite f L v.fin) (weight_finite weight)

  part_nonneg : NonNegative f (mul f (mul f eps L) (of_int f (pos k)))
  part_nonneg = part_sign f r L (of_int f (pos k)) v (weight_finite weight) weight.plus

  -- with 2 ^ j the leading digit of L: r has at most 51 digits in the unit 2 ^ (j - 50)
  digits : (j : ℕ) → 51 < prec f → 52 ≤ j → scaled f L < 2 ^ suc j → scaled f r / 2 ^ (j - 50) + 1 < 2 ^ prec f
  digits j w h l = let d : scaled f r / 2 ^ (j - 50) < 2 ^ 51 = (div-lt_iff_lt-mul (pow_pos (j - 50))).1 (lt_of_le_of_lt v.over (lt_of_lt_of_le l (le_of_eq parts))) in lt_of_le_of_lt (le_trans (le_of_eq (add-one (scaled f r / 2 ^ (j - 50)))) d) (pow-lt w)
    where
      parts : 2 ^ suc j ≡ 2 ^ 51 * 2 ^ (j - 50)
      parts = ap (λ (z : ℕ). 2 ^ z) (split_suc j h) ∙ pow-add 2 51 (j - 50)
        where
          split_suc : (j : ℕ) → 52 ≤ j → suc j ≡ 51 + (j - 50)
          split_suc j h = omega arith

  -- and the part added reaches that unit
  reaches : (j : ℕ) → 52 ≤ j → 2 ^ j ≤ scaled f L → 2 ^ (j - 50) ≤ scaled f (mul f (mul f eps L) (of_int f (pos k)))
  reaches j h l =
      le_trans (le_of_eq (ap (λ (z : ℕ). 2 ^ z) (two_more j h)))
      (le_trans (times_low f (j - 52) (scaled f (mul f eps L)) k (le_trans (eps_times_low f j (scaled f L) h l o) (le_of_eq (sym inner.size))) q (lt_of_le_of_lt (pow_mono (less j h)) o))
      (le_of_eq (sym (outer.size ∙ ap (product f (scaled f (mul f eps L))) (scaled_whole f k q')))))
    where
      o : 2 ^ j < overflow f
      o = lt_of_le_of_lt l (finite_lt v.fin)

      two_more : (j : ℕ) → 52 ≤ j → j - 50 ≡ j - 52 + 2
      two_more j h = omega arith

      less : (j : ℕ) → 52 ≤ j → j - 52 + 2 ≤ j
      less j h = omega arith

  widen : 51 < prec f → mid f ≤ ord f r → ord f r < ord f (add f r (mul f (mul f eps L) (of_int f (pos k))))
  widen w h =
      let d = leading (low f) (scaled f L) v.one in
      let e : 52 ≤ d.0 = le_trans (low_deep f) d.1 in
      grows_strictly f r (mul f (mul f eps L) (of_int f (pos k))) (d.0 - 50) p h part_nonneg (digits d.0 w e d.3) (reaches d.0 e d.2)

-- ---- the larger of r and 1

abbrev pub one : Float
one = fin false 1 (pos 0)

one_finite : (f : Format) → Finite f one
one_finite f = record { fit = go f; fin = tt }
  where
    go : (f : Format) → T (fits f one)
    go binary32 = unfold fits in tt
    go binary64 = unfold fits in tt

one_scaled : (f : Format) → scaled f one ≡ scale f
one_scaled f = scaled_power f false 0 ∙ one-mul (scale f)

larger_one : (f : Format) (r : Float) → Finite f r → mid f ≤ ord f r → AtLeast f r (larger r one)
unfolding larger
larger_one f r p h = go (lt r one) (is_nan r) (lt→ord f (number p) (number (one_finite f))) high (number p).num
  where
    a : ord f r ≡ mid f + scaled f r
    a = above_mid f r p.fit h

    b : ord f one ≡ mid f + scale f
    b = ord_is f one ∙ ap (λ (z : ℕ). mid f + z) (one_scaled f)

    high : T (not (lt r one)) → ord f one ≤ ord f r
    high t = elim (split (ord f one) (ord f r)) [ inl k ↦ k | inr k ↦ absurd (T_not (lt r one) t (ord→lt f (number p) (number (one_finite f)) k)) ]

    go : (s n : Bool) → (T s → ord f r < ord f one) → (T (not s) → ord f one ≤ ord f r) → T (not n) → AtLeast f r (cond (s || n) one r)
    go true n lo hi t = record { fin = one_finite f; plus = refl; one = le_of_eq (sym (one_scaled f)); over = le_trans (let l : ord f r < ord f one = lo tt in omega (arith, a, b)) (le_of_eq (sym (one_scaled f))) }
    go false true lo hi t = absurd t
    go false false lo hi t =
        let k : scale f ≤ scaled f r = let l : ord f one ≤ ord f r = hi tt in omega (arith, a, b) in
        record { fin = p; plus = sign (mid_sign f r p.fit h) k; one = k; over = le_refl (scaled f r) }
      where
        sign : (negative r ≡ false) ⊎ (scaled f r ≡ 0) → scale f ≤ scaled f r → negative r ≡ false
        sign (inl e) k = e
        sign (inr e) k = absurd (omega (arith, scale_pos f))

-- ---- the law, for the widening by 4·n at dimension n

-- (2^-52·max(r, 1))·4n
abbrev part : ℕ → Float → Float
part n r = mul binary64 (mul binary64 eps (larger r one)) (of_int binary64 (pos (4 * n)))

-- r + (2^-52·max(r, 1))·4n
abbrev pub widened : ℕ → Float → Float
widened n r = add binary64 r (part n r)

-- a double, whatever the radius
pub widening_fits : (n : ℕ) (r : Float) → T (fits binary64 (widened n r))
widening_fits n r = add-fits binary64 r _

bounds : (n b : ℕ) → 0 < n → n ≤ 64 → 256 ≤ b → (4 ≤ 4 * n) × (4 * n ≤ b)
bounds n b h k l = (omega arith, omega arith)

module _ (n : ℕ) (r : Float) (k : n ≤ 64) (p : Finite binary64 r) (plus : T (not (lt r (fin false 0 (pos 0))))) where
  l : mid binary64 ≤ ord binary64 r
  l = mid_of_not_lt (number p) plus

  module _ (h : 0 < n) where
    four : (4 ≤ 4 * n) × (4 * n ≤ 2 ^ prec binary64)
    four = bounds n (2 ^ prec binary64) h k (lit≤ tt)

    above : ord binary64 r < ord binary64 (widened n r)
    above = widen binary64 r (larger r one) (4 * n) p (larger_one binary64 r p l) four.0 four.1 (lit< tt) l

    widening_number : Number binary64 (widened n r)
    widening_number = add_number p (part_nonneg binary64 r (larger r one) (4 * n) p (larger_one binary64 r p l) four.0 four.1).num

    pub widening_lt : T (lt r (widened n r))
    widening_lt = ord→lt binary64 (number p) widening_number above

  -- for n = 0 too
  part_plus : NonNegative binary64 (part n r)
  part_plus = go n k
    where
      at : AtLeast binary64 r (larger r one)
      at = larger_one binary64 r p l

      go : (n : ℕ) → n ≤ 64 → NonNegative binary64 (part n r)
      go zero h = unfold of_int in (part_sign binary64 r (larger r one) (fin false 0 (pos 0)) at (zero_finite binary64) refl)
      go (suc n) h = let b = bounds (suc n) (2 ^ prec binary64) (omega arith) h (lit≤ tt) in part_nonneg binary64 r (larger r one) (4 * suc n) p at b.0 b.1

  -- it has the sign plus if r has it
  pub widening_nonneg : NonNegative binary64 r → NonNegative binary64 (widened n r)
  widening_nonneg q = (add_nonneg binary64 r (part n r) q part_plus).sum

-- ---- both zeros are widened alike

-- a sum with a zero, whose sign does not show beside a plus
zero_sum_lem : (f : Format) (B C : ℕ) → sum f true 0 false B C ≡ sum f false 0 false B C
unfolding sum
zero_sum_lem f zero C = refl
zero_sum_lem f (suc B) C =
    let other = round f (ltb (suc B) 0) (0 - suc B) C in
    let same : suc B - 0 ≡ 0 + suc B = omega arith in
    ap (λ (b : Bool). cond b (round f false (suc B - 0) C) other) (lt-ltb 0 (suc B) (omega arith)) ∙ ap (λ (k : ℕ). round f false k C) same

zeros_alike : (f : Format) (y : Float) → negative y ≡ false → add f (fin true 0 (pos 0)) y ≡ add f (fin false 0 (pos 0)) y
unfolding add
zeros_alike f nan q = refl
zeros_alike f (inf t) q = refl
zeros_alike f (fin true m e) q = absurd (true≢false q)
zeros_alike f (fin false m e) q =
    let none : 0 * up (pos 0) * down e ≡ 0 = zero-mul (down e) in
    ap (λ (A : ℕ). sum f true A false (m * up e * down (pos 0)) (down (pos 0) * down e)) none
    ∙ zero_sum_lem f (m * up e * down (pos 0)) (down (pos 0) * down e)
    ∙ ap (λ (A : ℕ). sum f false A false (m * up e * down (pos 0)) (down (pos 0) * down e)) (sym none)

pub widening_same : (n : ℕ) (r : Float) → n ≤ 64 → T (fits binary64 r) → widened n r ≡ widened n (with_plus_zero r)
widening_same n r k t = go (eq r (fin false 0 (pos 0))) refl
  where
    alike : (s : Bool) → widened n (fin s 0 (pos 0)) ≡ widened n (fin false 0 (pos 0))
    alike false = refl
    alike true = unfold larger in (zeros_alike binary64 (part n (fin false 0 (pos 0))) (part_plus n (fin false 0 (pos 0)) k (zero_finite binary64) (nonneg_not_lt (zero_nonneg binary64))).plus)

    go : (b : Bool) → eq r (fin false 0 (pos 0)) ≡ b → widened n r ≡ widened n (cond b (fin false 0 (pos 0)) r)
    go true e = let z = zero_signed r t e in ap (widened n) z.1 ∙ alike z.0
    go false e = refl
