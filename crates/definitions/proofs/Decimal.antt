-- The decimal text of a number reads back as the number, so its recursion is never cut short. Assumes nothing.
use mathlib.Core.Path.{◌≡◌, refl, sym, ap, ◌∙◌, subst}
use Prim.Native.Nat.{ℕ, zero, suc, ◌+◌, ◌-◌, ◌*◌, ◌/◌, ◌%◌, ◌≤◌, ◌<◌}
use native.Mathlib.Nat.{le_refl}
use native.Mathlib.Omega.{arith}
use mathlib.Core.Bool.{Bool, true, false, not, cond}
use mathlib.Core.List.{List, [], ◌∷◌}
use lib.Dec.{T, ltb, ltb→lt, lt→ltb, nltb→le}
use Rattle.definitions.specs.JobText.{digit, decimal_before, decimal}

-- the number that decimal digits stand for, after a
abbrev pub read_decimal : ℕ → List ℕ → ℕ
read_decimal a [] = a
read_decimal a (c ∷ cs) = read_decimal (a * 10 + (c - 48)) cs

digit_value : (d : ℕ) → d < 10 → digit d - 48 ≡ d
digit_value d h = go (ltb d 10) (lt→ltb d 10 h)
  where
    go : (b : Bool) → T b → cond b (48 + d) (55 + d) - 48 ≡ d
    go true t = omega arith
    go false t = absurd t

one_digit : (n : ℕ) (rest : List ℕ) → n < 10 → read_decimal 0 (digit n ∷ rest) ≡ read_decimal n rest
one_digit n rest h = ap (λ (a : ℕ). read_decimal a rest) (let e = digit_value n h in omega arith)

reads_back : (fuel : ℕ) (short : Bool) (n : ℕ) (rest : List ℕ) → ltb n 10 ≡ short → n ≤ fuel → read_decimal 0 (decimal_before fuel short n rest) ≡ read_decimal n rest
unfolding decimal_before
reads_back zero short n rest e h = one_digit n rest (omega arith)
reads_back (suc fuel) true n rest e h = one_digit n rest (ltb→lt n 10 (subst T (sym e) tt))
reads_back (suc fuel) false n rest e h =
    let big : 10 ≤ n = nltb→le n 10 (subst (λ (b : Bool). T (not b)) (sym e) tt) in
    reads_back fuel (ltb (n / 10) 10) (n / 10) (digit (n % 10) ∷ rest) refl (omega arith)
    ∙ ap (λ (a : ℕ). read_decimal a rest) (let d = digit_value (n % 10) (omega arith) in omega arith)

pub decimal_value : (n : ℕ) → read_decimal 0 (decimal n) ≡ n
unfolding decimal
decimal_value n = reads_back n (ltb n 10) n [] refl (le_refl n)
