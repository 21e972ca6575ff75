-- A number is written in one way: two values that fit, with the same sign and equal as numbers, are the same value. Assumes nothing.
use Rattle.std.proofs.Common.{◌≡◌, ℕ, zero, suc, ◌+◌, ◌*◌, ◌%◌, ◌^◌, ◌<◌, Bool, true, false, ◌&&◌, ◌||◌, T, eqb, ltb, leb, ℤ, pos, negsuc, sym, refl, ap, ◌∙◌, true≢false, zero-lt-suc, mul_assoc, mul-pos, one-mul, pow-suc, zero-mul, mul-one, mul_left_comm, arith, eqb→eq, pow_pos, pow-add}
use mathlib.Core.Bool.{beq, false≢true}
use native.Mathlib.Nat.{pow-succ', eq_of_mul-eq-mul_right}
use lib.Ieee.{Float, nan, inf, fin, Format, prec, emax, low, up, down, fits, eq}
use lib.Ieee.Fits.{up_pos, down_pos, and_l}
use Rattle.rounding.specs.Doubles.{negative}
use Rattle.rounding.specs.Kinds.{NonNegative}
use Rattle.rounding.proofs.Value.{ord, ord→eq}

-- ---- the exponent

-- 2 ^ e is 2 ^ above e over 2 ^ under e
abbrev above : ℤ → ℕ
above (pos k) = k
above (negsuc k) = 0

abbrev under : ℤ → ℕ
under (pos k) = 0
under (negsuc k) = suc k

up_is : (e : ℤ) → up e ≡ 2 ^ above e
up_is (pos k) = refl
up_is (negsuc k) = refl

down_is : (e : ℤ) → down e ≡ 2 ^ under e
down_is (pos k) = refl
down_is (negsuc k) = refl

same_exponent : (e d : ℤ) → above e + under d ≡ above d + under e → e ≡ d
same_exponent (pos a) (pos b) h = let k : a ≡ b = omega arith in ap pos k
same_exponent (pos a) (negsuc b) h = absurd (omega arith)
same_exponent (negsuc a) (pos b) h = absurd (omega arith)
same_exponent (negsuc a) (negsuc b) h = let k : a ≡ b = omega arith in ap negsuc k

crossed : (m : ℕ) (e d : ℤ) → m * up e * down d ≡ m * 2 ^ (above e + under d)
crossed m e d =
    ap (λ (z : ℕ). m * z * down d) (up_is e) ∙ ap (λ (z : ℕ). m * 2 ^ above e * z) (down_is d)
    ∙ mul_assoc m (2 ^ above e) (2 ^ under d) ∙ ap (λ (z : ℕ). m * z) (sym (pow-add 2 (above e) (under d)))

-- ---- the significand

even_odd : (m t : ℕ) → m % 2 ≡ 1 → m ≡ 2 * t → ⊥
even_odd m t o h = omega arith

odd_pow : (m n a b : ℕ) → m % 2 ≡ 1 → n % 2 ≡ 1 → m * 2 ^ a ≡ n * 2 ^ b → (m ≡ n) × (a ≡ b)
odd_pow m n zero zero o p h = (sym (mul-one m) ∙ h ∙ mul-one n, refl)
odd_pow m n zero (suc b) o p h = absurd (even_odd m (n * 2 ^ b) o (sym (mul-one m) ∙ h ∙ ap (λ (x : ℕ). n * x) (pow-succ' 2 b) ∙ mul_left_comm n 2 (2 ^ b)))
odd_pow m n (suc a) zero o p h = absurd (even_odd n (m * 2 ^ a) p (sym (mul-one n) ∙ sym h ∙ ap (λ (x : ℕ). m * x) (pow-succ' 2 a) ∙ mul_left_comm m 2 (2 ^ a)))
odd_pow m n (suc a) (suc b) o p h =
    let r = odd_pow m n a b o p (eq_of_mul-eq-mul_right 2 (zero-lt-suc 1) (m * 2 ^ a) (n * 2 ^ b)
    (mul_assoc m (2 ^ a) 2 ∙ ap (λ (x : ℕ). m * x) (sym (pow-suc 2 a)) ∙ h ∙ ap (λ (x : ℕ). n * x) (pow-suc 2 b) ∙ sym (mul_assoc n (2 ^ b) 2))) in
    (r.0, ap suc r.1)

-- of a value that fits: m is odd, or it is 0 with the exponent 0
is_odd : (f : Format) (s : Bool) (m : ℕ) (e : ℤ) → T (fits f (fin s (suc m) e)) → suc m % 2 ≡ 1
unfolding fits
is_odd f s m e t =
    eqb→eq (suc m % 2) 1 (and_l (eqb (suc m % 2) 1) (ltb (suc m) (2 ^ prec f)) (and_l (eqb (suc m % 2) 1 && ltb (suc m) (2 ^ prec f)) (leb (down e) (2 ^ low f))
    (and_l (eqb (suc m % 2) 1 && ltb (suc m) (2 ^ prec f) && leb (down e) (2 ^ low f)) (ltb (suc m * up e) (2 ^ suc (emax f) * down e)) t)))

two_up : (p : ℕ) → 0 < p → 2 * p ≡ 1 → ⊥
two_up p h e = omega arith

flat : (e : ℤ) → up e * down e ≡ 1 → e ≡ pos 0
flat (pos zero) h = refl
flat (pos (suc k)) h = absurd (two_up (2 ^ k) (pow_pos k) (sym (pow-succ' 2 k) ∙ sym (mul-one (2 ^ suc k)) ∙ h))
flat (negsuc k) h = absurd (two_up (2 ^ k) (pow_pos k) (sym (pow-succ' 2 k) ∙ sym (one-mul (2 ^ suc k)) ∙ h))

zero_exponent : (f : Format) (s : Bool) (e : ℤ) → T (fits f (fin s zero e)) → e ≡ pos 0
unfolding fits
zero_exponent f s e t = flat e (eqb→eq (up e * down e) 1 t)

no_zero : (n : ℕ) (e d : ℤ) → zero * up e * down d ≡ suc n * up d * down e → ⊥
no_zero n e d h =
    let z : zero * up e * down d ≡ 0 = ap (λ (x : ℕ). x * down d) (zero-mul (up e)) ∙ zero-mul (down d) in
    let k : 0 < suc n * up d * down e = mul-pos (mul-pos (zero-lt-suc n) (up_pos d)) (down_pos e) in
    omega arith

-- ---- the value

fin_same : (f : Format) (s : Bool) (m : ℕ) (e : ℤ) (n : ℕ) (d : ℤ) → T (fits f (fin s m e)) → T (fits f (fin s n d)) → m * up e * down d ≡ n * up d * down e → fin s m e ≡ fin s n d
fin_same f s zero e zero d p q h = ap (fin s zero) (zero_exponent f s e p ∙ sym (zero_exponent f s d q))
fin_same f s zero e (suc n) d p q h = absurd (no_zero n e d h)
fin_same f s (suc m) e zero d p q h = absurd (no_zero m d e (sym h))
fin_same f s (suc m) e (suc n) d p q h =
    let r = odd_pow (suc m) (suc n) (above e + under d) (above d + under e) (is_odd f s m e p) (is_odd f s n d q) (sym (crossed (suc m) e d) ∙ h ∙ crossed (suc n) d e) in
    ap (λ (k : ℕ). fin s k e) r.0 ∙ ap (fin s (suc n)) (same_exponent e d r.1)

-- numbers with one sign that are equal are the same value
pub eq_same : (f : Format) (x y : Float) → T (fits f x) → T (fits f y) → negative x ≡ negative y → T (eq x y) → x ≡ y
unfolding eq
eq_same f nan y p q s h = absurd h
eq_same f (inf t) nan p q s h = absurd h
eq_same f (inf t) (inf u) p q s h = ap inf s
eq_same f (inf t) (fin u n d) p q s h = absurd h
eq_same f (fin t m e) nan p q s h = absurd h
eq_same f (fin t m e) (inf u) p q s h = absurd h
eq_same f (fin t m e) (fin u n d) p q s h = go t u s p q (eqb→eq (m * up e * down d) (n * up d * down e) (and_l (eqb (m * up e * down d) (n * up d * down e)) (beq t u || eqb (m * up e * down d) 0) h))
  where
    go : (t u : Bool) → t ≡ u → T (fits f (fin t m e)) → T (fits f (fin u n d)) → m * up e * down d ≡ n * up d * down e → fin t m e ≡ fin u n d
    go false false s p q h = fin_same f false m e n d p q h
    go true true s p q h = fin_same f true m e n d p q h
    go false true s p q h = absurd (false≢true s)
    go true false s p q h = absurd (true≢false s)

-- so two values that are not negative are the same if they have the same number
pub nonneg_same : (f : Format) (x y : Float) → NonNegative f x → NonNegative f y → ord f x ≡ ord f y → x ≡ y
nonneg_same f x y p q e = eq_same f x y p.num.fit q.num.fit (p.plus ∙ sym q.plus) (ord→eq f p.num q.num e)
