-- Negated operands give the negated result: exactly for a product, and for a sum or a difference of finite values up to the sign of a zero, which `ord` does not see. Assumes nothing.
use Rattle.std.proofs.Common.{◌≡◌, ℕ, ◌+◌, ◌-◌, ◌*◌, ◌≤◌, Bool, true, false, cond, not, eqb, sym, refl, ap, ◌∙◌, arith}
use lib.Ieee.{Float, nan, inf, fin, Format, up, down, unlike, round, neg, add, sub, mul}
use lib.Ieee.Scale.{overflow}
use Rattle.rounding.specs.Kinds.{Finite}
use Rattle.rounding.proofs.Value.{number, mid, ord, ord_high, ord_low}
use Rattle.rounding.proofs.Rounding.{round_neg, rnd, rnd_odd}
use Rattle.rounding.proofs.Negation.{ord_neg, neg_finite}
use Rattle.rounding.proofs.Addition.{ord_add, add_number}
use Rattle.rounding.proofs.Subtraction.{ord_sub, sub_number}

pub ord_add_neg : (f : Format) (x y : Float) → Finite f x → Finite f y → ord f (add f (neg x) (neg y)) ≡ ord f (neg (add f x y))
ord_add_neg f x y p q =
    ord_add f (neg x) (neg y) (neg_finite p) (neg_finite q)
    ∙ ap (λ (z : ℕ). rnd f (z + ord f (neg y) - mid f)) (ord_neg f x (number p))
    ∙ ap (λ (z : ℕ). rnd f (mid f + mid f - ord f x + z - mid f)) (ord_neg f y (number q))
    ∙ ap (rnd f) (turn (overflow f) (ord_high f x (number p)) (ord_high f y (number q)) (ord_low f x (number p)) (ord_low f y (number q)))
    ∙ rnd_odd f (ord f x + ord f y - mid f) (omega (arith, ord_high f x (number p), ord_high f y (number q)))
    ∙ ap (λ (z : ℕ). mid f + mid f - z) (sym (ord_add f x y p q))
    ∙ sym (ord_neg f (add f x y) (add_number p (number q)))
  where
    turn : (o : ℕ) {a b : ℕ} → a ≤ o * 4 + o → b ≤ o * 4 + o → o * 4 ≤ a + o → o * 4 ≤ b + o → o * 4 + o * 4 - a + (o * 4 + o * 4 - b) - o * 4 ≡ o * 4 + o * 4 - (a + b - o * 4)
    turn o h k l m = omega arith

-- the difference the other way round
pub ord_sub_swap : (f : Format) (x y : Float) → Finite f x → Finite f y → ord f (sub f y x) ≡ ord f (neg (sub f x y))
ord_sub_swap f x y p q =
    ord_sub f y x q p
    ∙ ap (rnd f) (turn (overflow f) (ord_high f x (number p)) (ord_high f y (number q)) (ord_low f x (number p)) (ord_low f y (number q)))
    ∙ rnd_odd f (mid f + ord f x - ord f y) (omega (arith, ord_high f x (number p), ord_low f y (number q)))
    ∙ ap (λ (z : ℕ). mid f + mid f - z) (sym (ord_sub f x y p q))
    ∙ sym (ord_neg f (sub f x y) (sub_number p q))
  where
    turn : (o : ℕ) {a b : ℕ} → a ≤ o * 4 + o → b ≤ o * 4 + o → o * 4 ≤ a + o → o * 4 ≤ b + o → o * 4 + b - a ≡ o * 4 + o * 4 - (o * 4 + a - b)
    turn o h k l m = omega arith

pub ord_sub_neg : (f : Format) (x y : Float) → Finite f x → Finite f y → ord f (sub f (neg x) (neg y)) ≡ ord f (neg (sub f x y))
ord_sub_neg f x y p q =
    ord_sub f (neg x) (neg y) (neg_finite p) (neg_finite q)
    ∙ ap (λ (z : ℕ). rnd f (mid f + z - ord f (neg y))) (ord_neg f x (number p))
    ∙ ap (λ (z : ℕ). rnd f (mid f + (mid f + mid f - ord f x) - z)) (ord_neg f y (number q))
    ∙ ap (rnd f) (turn (overflow f) (ord_high f x (number p)) (ord_high f y (number q)))
    ∙ sym (ord_sub f y x q p)
    ∙ ord_sub_swap f x y p q
  where
    turn : (o : ℕ) {a b : ℕ} → a ≤ o * 4 + o → b ≤ o * 4 + o → o * 4 + (o * 4 + o * 4 - a) - (o * 4 + o * 4 - b) ≡ o * 4 + b - a
    turn o h k = omega arith

-- ---- a product

unlike_not : (s t : Bool) → unlike (not s) t ≡ not (unlike s t)
unlike_not false false = refl
unlike_not false true = refl
unlike_not true false = refl
unlike_not true true = refl

not_unlike : (s t : Bool) → unlike s (not t) ≡ not (unlike s t)
not_unlike false false = refl
not_unlike false true = refl
not_unlike true false = refl
not_unlike true true = refl

either : (b s : Bool) → cond b nan (inf (not s)) ≡ neg (cond b nan (inf s))
unfolding neg
either true s = refl
either false s = refl

pub mul_neg_left : (f : Format) (x y : Float) → mul f (neg x) y ≡ neg (mul f x y)
unfolding mul neg
mul_neg_left f nan y = refl
mul_neg_left f (inf s) nan = refl
mul_neg_left f (inf s) (inf t) = ap inf (unlike_not s t)
mul_neg_left f (inf s) (fin t n d) = ap (λ (u : Bool). cond (eqb n 0) nan (inf u)) (unlike_not s t) ∙ either (eqb n 0) (unlike s t)
mul_neg_left f (fin s m e) nan = refl
mul_neg_left f (fin s m e) (inf t) = ap (λ (u : Bool). cond (eqb m 0) nan (inf u)) (unlike_not s t) ∙ either (eqb m 0) (unlike s t)
mul_neg_left f (fin s m e) (fin t n d) = ap (λ (u : Bool). round f u (m * up e * (n * up d)) (down e * down d)) (unlike_not s t) ∙ round_neg f (unlike s t) (m * up e * (n * up d)) (down e * down d)

pub mul_neg_right : (f : Format) (x y : Float) → mul f x (neg y) ≡ neg (mul f x y)
unfolding mul neg
mul_neg_right f nan y = refl
mul_neg_right f (inf s) nan = refl
mul_neg_right f (inf s) (inf t) = ap inf (not_unlike s t)
mul_neg_right f (inf s) (fin t n d) = ap (λ (u : Bool). cond (eqb n 0) nan (inf u)) (not_unlike s t) ∙ either (eqb n 0) (unlike s t)
mul_neg_right f (fin s m e) nan = refl
mul_neg_right f (fin s m e) (inf t) = ap (λ (u : Bool). cond (eqb m 0) nan (inf u)) (not_unlike s t) ∙ either (eqb m 0) (unlike s t)
mul_neg_right f (fin s m e) (fin t n d) = ap (λ (u : Bool). round f u (m * up e * (n * up d)) (down e * down d)) (not_unlike s t) ∙ round_neg f (unlike s t) (m * up e * (n * up d)) (down e * down d)
