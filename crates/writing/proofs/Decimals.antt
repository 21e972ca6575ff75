-- The decimal text of a number, digit by digit from its last. Assumes nothing.
use Rattle.std.proofs.Common.{◌≡◌, ℕ, zero, suc, ◌+◌, ◌/◌, ◌%◌, ◌^◌, ◌<◌, ◌≤◌, Bool, true, false, not, T, ltb, List, [], ◌∷◌, sym, refl, ap, ◌∙◌, subst, arith, nltb→le, pow-add, le-ltb, lt-ltb}
use Rattle.definitions.specs.JobText.{digit, decimal_before, decimal}

-- n in decimal before what follows
abbrev pub before : ℕ → List ℕ → List ℕ
before n rest = decimal_before n (ltb n 10) n rest

pub decimal_before_lem : (n : ℕ) → before n [] ≡ decimal n
unfolding decimal
decimal_before_lem n = refl

big : (n : ℕ) → ltb n 10 ≡ false → 10 ≤ n
big n e = nltb→le n 10 (subst (λ (b : Bool). T (not b)) (sym e) tt)

-- steps beyond those needed change nothing
any_steps : (f g : ℕ) (short : Bool) (n : ℕ) (rest : List ℕ) → ltb n 10 ≡ short → n ≤ f → n ≤ g → decimal_before f short n rest ≡ decimal_before g short n rest
unfolding decimal_before
any_steps zero zero short n rest e h k = refl
any_steps zero (suc g) true n rest e h k = refl
any_steps zero (suc g) false n rest e h k = let b = big n e in absurd (omega arith)
any_steps (suc f) zero true n rest e h k = refl
any_steps (suc f) zero false n rest e h k = let b = big n e in absurd (omega arith)
any_steps (suc f) (suc g) true n rest e h k = refl
any_steps (suc f) (suc g) false n rest e h k =
    let b = big n e in
    any_steps f g (ltb (n / 10) 10) (n / 10) (digit (n % 10) ∷ rest) refl (omega arith) (omega arith)

pub last_digit : (n : ℕ) (rest : List ℕ) → n < 10 → before n rest ≡ digit n ∷ rest
unfolding decimal_before
last_digit n rest h = ap (λ (b : Bool). decimal_before n b n rest) (lt-ltb n 10 h) ∙ any_steps n (suc n) true n rest (lt-ltb n 10 h) (omega arith) (omega arith)

pub more_digits : (n : ℕ) (rest : List ℕ) → 10 ≤ n → before n rest ≡ before (n / 10) (digit (n % 10) ∷ rest)
unfolding decimal_before
more_digits zero rest h = absurd (omega arith)
more_digits (suc m) rest h =
    ap (λ (b : Bool). decimal_before (suc m) b (suc m) rest) (le-ltb (suc m) 10 h)
    ∙ any_steps m (suc m / 10) (ltb (suc m / 10) 10) (suc m / 10) (digit (suc m % 10) ∷ rest) refl (omega arith) (omega arith)

pub fewer : (start n : ℕ) → n < 10 ^ (start + 1) → n / 10 < 10 ^ start
fewer start n h = let p = pow-add 10 start 1 in omega arith
