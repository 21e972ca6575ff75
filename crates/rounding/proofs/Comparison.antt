-- What the code's comparisons tell of a double: whether it is NaN, a zero, finite, and its sign. Assumes nothing.
use Rattle.std.proofs.Common.{◌≡◌, ℕ, zero, suc, ◌+◌, ◌*◌, ◌^◌, ◌<◌, Bool, true, false, not, ◌&&◌, ◌||◌, T, eqb, ℤ, pos, negsuc, sym, refl, ap, ◌∙◌, subst, zero-lt-suc, mul-pos, one-mul, mul-one, arith, eqb→eq, le-ltb, lt-ltb, eq-eqb, eqb-true}
use mathlib.Core.Bool.{beq, false≢true}
use lib.Pow.{pow-lt}
use lib.Ieee.{Float, nan, inf, fin, binary64, up, down, fits, lt, eq, ne, is_nan}
use lib.Ieee.Fits.{up_pos}
use Rattle.rounding.specs.Doubles.{negative, magnitude}

-- the code's 0.0
abbrev pub nought : Float
nought = fin false 0 (pos 0)

-- ---- a test that held, and one that did not
pub held : {b : Bool} → b ≡ true → T b
held e = subst T (sym e) tt

pub failed : {b : Bool} → b ≡ false → T (not b)
failed e = subst (λ (t : Bool). T (not t)) (sym e) tt

-- ---- a NaN is what differs from itself, and equals nothing
same : (s : Bool) (a : ℕ) → (eqb a a && (beq s s || eqb a 0)) ≡ true
same true a = simp (eq-eqb a a refl)
same false a = simp (eq-eqb a a refl)

pub equals_itself : (x : Float) → eq x x ≡ not (is_nan x)
unfolding eq is_nan
equals_itself nan = refl
equals_itself (inf true) = refl
equals_itself (inf false) = refl
equals_itself (fin s m e) = same s (m * up e * down e)

pub differs : (x : Float) → ne x x ≡ is_nan x
unfolding ne is_nan
differs nan = refl
differs (inf true) = refl
differs (inf false) = refl
differs (fin s m e) = ap not (same s (m * up e * down e))

pub is_nan_lem : (x : Float) → is_nan x ≡ true → x ≡ nan
unfolding is_nan
is_nan_lem nan q = refl
is_nan_lem (inf s) q = absurd (false≢true q)
is_nan_lem (fin s m e) q = absurd (false≢true q)

-- ---- a zero is what equals 0.0
first : (a b : Bool) → (a && b) ≡ true → a ≡ true
first true b h = refl
first false b h = h

product_zero : (m : ℕ) (e : ℤ) → m * up e * 1 ≡ 0 → m ≡ 0
product_zero zero e h = refl
product_zero (suc m) e h = let p : 0 < suc m * up e = mul-pos (zero-lt-suc m) (up_pos e) in absurd (omega arith)

pub zero_digits : (s : Bool) (m : ℕ) (e : ℤ) → eq (fin s m e) nought ≡ true → m ≡ 0
unfolding eq
zero_digits s m e h =
    let a = m * up e * 1 in
    let b = 0 * 1 * down e in
    let g : a ≡ b = eqb-true a b (first (eqb a b) (beq s false || eqb a 0) h) in
    product_zero m e (omega arith)

-- and a zero is written in one way
power_one : (k : ℕ) → 2 ^ suc k ≡ 1 → ⊥
power_one k h = let p : 2 ^ 0 < 2 ^ suc k = pow-lt {i = 0} {j = suc k} (zero-lt-suc k) in omega arith

zero_exponent : (e : ℤ) → up e * down e ≡ 1 → e ≡ pos 0
zero_exponent (pos zero) h = refl
zero_exponent (pos (suc k)) h = absurd (power_one k (sym (mul-one (2 ^ suc k)) ∙ h))
zero_exponent (negsuc k) h = absurd (power_one k (sym (one-mul (2 ^ suc k)) ∙ h))

pub zero_magnitude : (x : Float) → T (fits binary64 x) → eq x nought ≡ true → nought ≡ magnitude x
unfolding eq fits
zero_magnitude nan f h = absurd (false≢true h)
zero_magnitude (inf s) f h = absurd (false≢true h)
zero_magnitude (fin s zero e) f h = ap (λ (z : ℤ). fin false 0 z) (sym (zero_exponent e (eqb→eq (up e * down e) 1 f)))
zero_magnitude (fin s (suc m) e) f h = absurd (none m (zero_digits s (suc m) e h))
  where
    none : (n : ℕ) → suc n ≡ 0 → ⊥
    none n q = omega arith

-- ---- the sign of what is no zero is told by 0.0
pub other_sign : (x : Float) → eq x nought ≡ false → lt x nought ≡ negative x
unfolding eq lt
other_sign nan h = refl
other_sign (inf s) h = refl
other_sign (fin false m e) h = le-ltb (m * up e * 1) (0 * 1 * down e) (omega arith)
other_sign (fin true m e) h = lt-ltb 0 (m * up e * 1 + 0 * 1 * down e) (omega (arith, above))
  where
    above : m * up e * 1 ≡ 0 → ⊥
    above z = false≢true (sym h ∙ simp (eq-eqb (m * up e * 1) (0 * 1 * down e) (omega arith), eq-eqb (m * up e * 1) 0 z))
