-- The order of all doubles is std's where neither is a NaN, and else that of whether they are. Assumes nothing.
use Rattle.std.proofs.Common.{◌≡◌, Bool, true, false, not, ◌&&◌, ◌||◌, cond, T, sym, refl, ap, ◌∙◌, subst, inl, inr}
use Prim.Native.Nat.{Ordering as Order}
use mathlib.Core.Bool.{false≢true}
use lib.Ieee.{Float, nan, inf, fin, lt, eq, is_nan}
use Rattle.std.proofs.lemmas.Float.{eq-not_lt, lt-or-eq, le_of_not-lt, eq_flip}
use Rattle.std.specs.declared.cmp.Ordering.TheVariants.{Less, Equal, Greater}
use Rattle.std.specs.Ordering.{is_lt, bool_cmp}
use Rattle.std.specs.Float.{is_sign_negative}
use Rattle.std.specs.Float as F
use Rattle.rounding.specs.Doubles.{negative, precedes, total_cmp}
use Rattle.rounding.specs.Ordering.{ordering_of}
use Rattle.rounding.proofs.Comparison.{held, failed}

same_sign : (x : Float) → is_sign_negative x ≡ negative x
unfolding is_sign_negative
same_sign nan = refl
same_sign (inf s) = refl
same_sign (fin s m e) = refl

precedes_is : (x y : Float) → precedes x y ≡ (lt x y || (eq x y && (negative x && not (negative y))) || (is_nan y && not (is_nan x)))
unfolding precedes
precedes_is x y = refl

total_is : (x y : Float) → total_cmp x y ≡ cond (precedes x y) Order.lt (cond (precedes y x) Order.gt Order.eq)
unfolding total_cmp
total_is x y = refl

-- ---- where one is a NaN
nan_less : (x y : Float) → is_nan x || is_nan y ≡ true → lt x y ≡ false
unfolding lt is_nan
nan_less nan y e = refl
nan_less (inf s) nan e = refl
nan_less (fin s m d) nan e = refl
nan_less (inf s) (inf t) e = absurd (false≢true e)
nan_less (inf s) (fin t n d) e = absurd (false≢true e)
nan_less (fin s m d) (inf t) e = absurd (false≢true e)
nan_less (fin s m d) (fin t n c) e = absurd (false≢true e)

nan_equal : (x y : Float) → is_nan x || is_nan y ≡ true → eq x y ≡ false
unfolding eq is_nan
nan_equal nan y e = refl
nan_equal (inf s) nan e = refl
nan_equal (fin s m d) nan e = refl
nan_equal (inf s) (inf t) e = absurd (false≢true e)
nan_equal (inf s) (fin t n d) e = absurd (false≢true e)
nan_equal (fin s m d) (inf t) e = absurd (false≢true e)
nan_equal (fin s m d) (fin t n c) e = absurd (false≢true e)

other_way : (a b : Bool) → a || b ≡ true → b || a ≡ true
other_way true true e = refl
other_way true false e = refl
other_way false true e = refl
other_way false false e = e

nan_precedes : (x y : Float) → is_nan x || is_nan y ≡ true → precedes x y ≡ (is_nan y && not (is_nan x))
nan_precedes x y e =
    precedes_is x y
    ∙ ap (λ (b : Bool). b || (eq x y && (negative x && not (negative y))) || (is_nan y && not (is_nan x))) (nan_less x y e)
    ∙ ap (λ (b : Bool). (b && (negative x && not (negative y))) || (is_nan y && not (is_nan x))) (nan_equal x y e)

settled : (a b : Bool) → bool_cmp a b ≡ ordering_of (cond (b && not a) Order.lt (cond (a && not b) Order.gt Order.eq))
settled true true = refl
settled true false = refl
settled false true = refl
settled false false = refl

pub nan_total : (x y : Float) → is_nan x || is_nan y ≡ true → bool_cmp (is_nan x) (is_nan y) ≡ ordering_of (total_cmp x y)
nan_total x y e =
    settled (is_nan x) (is_nan y)
    ∙ ap (λ (p : Bool). ordering_of (cond p Order.lt (cond (is_nan x && not (is_nan y)) Order.gt Order.eq))) (sym (nan_precedes x y e))
    ∙ ap (λ (p : Bool). ordering_of (cond (precedes x y) Order.lt (cond p Order.gt Order.eq))) (sym (nan_precedes y x (other_way (is_nan x) (is_nan y) e)))
    ∙ ap ordering_of (sym (total_is x y))

-- ---- where neither is
not_held : (b : Bool) → (T b → ⊥) → b ≡ false
not_held true h = absurd (h tt)
not_held false h = refl

is_held : (b : Bool) → T b → b ≡ true
is_held true h = refl
is_held false h = absurd h

less_not_equal : (x y : Float) → lt y x ≡ true → eq x y ≡ false
less_not_equal x y h = not_held (eq x y) (λ (e : T (eq x y)). eq-not_lt y x (eq_flip x y e) (held h))

neither_equal : (x y : Float) → is_nan x ≡ false → is_nan y ≡ false → lt x y ≡ false → lt y x ≡ false → eq x y ≡ true
neither_equal x y p q h k = is_held (eq x y) (elim (lt-or-eq x y (le_of_not-lt y x (failed q) (failed p) (failed k))) [ inl l ↦ absurd (subst T h l) | inr e ↦ e ])

-- of the tests of the two: x < y, y < x, x == y, y == x, and their signs
by : (a b e f n m : Bool) → (b ≡ true → e ≡ false) → (a ≡ false → b ≡ false → e ≡ true) → (b ≡ false → a ≡ false → f ≡ true) →
    cond a Less (cond b Greater (cond n (cond m Equal Less) (cond m Greater Equal))) ≡ ordering_of (cond (a || (e && (n && not m)) || false) Order.lt (cond (b || (f && (m && not n)) || false) Order.gt Order.eq))
by true b e f n m h k l = refl
by false true e f n m h k l = rw (h refl) refl
by false false e f true true h k l = rw (k refl refl, l refl refl) refl
by false false e f true false h k l = rw (k refl refl) refl
by false false e f false true h k l = rw (k refl refl, l refl refl) refl
by false false e f false false h k l = rw (k refl refl, l refl refl) refl

pub number_total : (x y : Float) → is_nan x ≡ false → is_nan y ≡ false → F.total_cmp x y ≡ ordering_of (total_cmp x y)
number_total x y p q =
    ap (λ (n : Bool). cond (lt x y) Less (cond (lt y x) Greater (cond n (cond (is_sign_negative y) Equal Less) (cond (is_sign_negative y) Greater Equal)))) (same_sign x)
    ∙ ap (λ (m : Bool). cond (lt x y) Less (cond (lt y x) Greater (cond (negative x) (cond m Equal Less) (cond m Greater Equal)))) (same_sign y)
    ∙ by (lt x y) (lt y x) (eq x y) (eq y x) (negative x) (negative y) (less_not_equal x y) (neither_equal x y p q) (neither_equal y x q p)
    ∙ ap (λ (b : Bool). ordering_of (cond (lt x y || (eq x y && (negative x && not (negative y))) || b) Order.lt (cond (lt y x || (eq y x && (negative y && not (negative x))) || false) Order.gt Order.eq))) (sym (ap (λ (b : Bool). b && not (is_nan x)) q))
    ∙ ap (λ (b : Bool). ordering_of (cond (lt x y || (eq x y && (negative x && not (negative y))) || (is_nan y && not (is_nan x))) Order.lt (cond (lt y x || (eq y x && (negative y && not (negative x))) || b) Order.gt Order.eq))) (sym (ap (λ (b : Bool). b && not (is_nan y)) p))
    ∙ ap (λ (b : Bool). ordering_of (cond b Order.lt (cond (lt y x || (eq y x && (negative y && not (negative x))) || (is_nan x && not (is_nan y))) Order.gt Order.eq))) (sym (precedes_is x y))
    ∙ ap (λ (b : Bool). ordering_of (cond (precedes x y) Order.lt (cond b Order.gt Order.eq))) (sym (precedes_is y x))
    ∙ ap ordering_of (sym (total_is x y))

-- whether x stands before y, by the answer
pub before_is : (x y : Float) → is_lt (ordering_of (total_cmp x y)) ≡ precedes x y
before_is x y = ap (λ (o : Order). is_lt (ordering_of o)) (total_is x y) ∙ told (precedes x y) (precedes y x)
  where
    told : (a b : Bool) → is_lt (ordering_of (cond a Order.lt (cond b Order.gt Order.eq))) ≡ a
    told true b = refl
    told false true = refl
    told false false = refl
