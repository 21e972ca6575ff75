-- A value that fits as one natural number, `ord`: its scaled magnitude above or below `mid`, which stands for both zeros. `lt`, `le` and `eq` of numbers are <, ≤ and = of their `ord`, so a law about the order of floats is a law of ℕ, and `le` is a total preorder.
-- The laws speak of the kinds of values of specs/Kinds.antt, and of `Weight`. Assumes nothing.
use Rattle.std.proofs.Common.{◌≡◌, ℕ, zero, suc, ◌+◌, ◌-◌, ◌*◌, ◌<◌, ◌≤◌, Bool, true, false, not, ◌&&◌, ◌||◌, T, eqb, ◌⊎◌, ℤ, pos, sym, refl, ap, ◌∙◌, inl, inr, zero-le, le_trans, le_of_eq, le_refl, lt_of_lt_of_le, lt_of_le_of_lt, le_of_lt, lt_irrefl, mul-le-mul_right, mul_assoc, mul_comm, le_antisymm, eq-or-lt_of_le, mul-pos, lt_of_not-le, zero-mul, mul_right_comm, not-le_of_lt, le_of_mul-le-mul_right, arith, eqb→eq, ltb→lt, lt→ltb, T_not}
use mathlib.Core.Bool.{beq}
use lib.Dec.{not_T}
use lib.Ieee.{Float, nan, inf, fin, Format, up, down, below, level, le, lt, eq, fits, add, is_nan}
use lib.Ieee.Fits.{down_pos, and_i, and_l, and_r, eq→eqb, inf-fits, nan-fits, add-fits}
use lib.Ieee.Scale.{overflow, finite}
use Rattle.rounding.specs.Doubles.{negative}
use Rattle.rounding.specs.Kinds.{Number, Finite, NonNegative}
use Rattle.rounding.proofs.Scaled.{scale, scaled, scale_pos, overflow_pos, split, scaled_exact, scaled_lt, scaled_le, scaled_zero}

-- ---- kinds of values

-- finite and above zero
pub record Weight (f : Format) (x : Float) : Type 0 where
  pub fit : T (fits f x)
  pub fin : T (finite x)
  pub plus : negative x ≡ false
  pub some : 0 < scaled f x

-- a NaN fits too, and is none of these
pub nan_fit : (f : Format) → T (fits f nan)
nan_fit f = nan-fits f

-- so does every sum
pub sum_fit : (f : Format) (x y : Float) → T (fits f (add f x y))
sum_fit = add-fits

pub number : {f : Format} {x : Float} → Finite f x → Number f x
number {f} {x} p = record { fit = p.fit; num = go x p.fin }
  where
    go : (x : Float) → T (finite x) → T (not (is_nan x))
    go nan t = absurd t
    go (inf s) t = absurd t
    go (Float.fin s m e) t = unfold is_nan in tt

pub weight_finite : {f : Format} {x : Float} → Weight f x → Finite f x
weight_finite p = record { fit = p.fit; fin = p.fin }

pub weight_nonneg : {f : Format} {x : Float} → Weight f x → NonNegative f x
weight_nonneg p = record { num = number (weight_finite p); plus = p.plus }

pub inf_number : (f : Format) (s : Bool) → Number f (inf s)
inf_number f s = record { fit = inf-fits f s; num = unfold is_nan in tt }

pub inf_nonneg : (f : Format) → NonNegative f (inf false)
inf_nonneg f = record { num = inf_number f false; plus = refl }

pub zero_finite : (f : Format) → Finite f (fin false 0 (pos 0))
zero_finite f = record { fit = unfold fits in tt; fin = tt }

pub zero_nonneg : (f : Format) → NonNegative f (fin false 0 (pos 0))
zero_nonneg f = record { num = number (zero_finite f); plus = refl }

-- finite is: below the first magnitude that overflows
pub finite_lt : {f : Format} {x : Float} → Finite f x → scaled f x < overflow f
finite_lt {f} {x = nan} p = absurd p.fin
finite_lt {f} {x = inf s} p = absurd p.fin
finite_lt {f} {x = fin s m e} p = scaled_lt f s m e p.fit

pub finite_of_lt : {f : Format} {x : Float} → Number f x → scaled f x < overflow f → Finite f x
finite_of_lt {f} {x} p h = record { fit = p.fit; fin = go x p.num h }
  where
    go : (x : Float) → T (not (is_nan x)) → scaled f x < overflow f → T (finite x)
    go nan n k = unfold is_nan in n
    go (inf s) n k = absurd (lt_irrefl (overflow f) k)
    go (Float.fin s m e) n k = tt

-- ---- the number of a value

-- k above or below M
abbrev pub offset : ℕ → Bool → ℕ → ℕ
offset M false k = M + k
offset M true k = M - k

abbrev pub mid : Format → ℕ
mid f = overflow f * 4

unfoldable pub ord : Format → Float → ℕ
ord f x = offset (mid f) (negative x) (scaled f x)

pub ord_is : (f : Format) (x : Float) → ord f x ≡ offset (mid f) (negative x) (scaled f x)
unfolding ord
ord_is f x = refl

pub scaled_mid : (f : Format) (x : Float) → T (fits f x) → scaled f x ≤ mid f
scaled_mid f x t = omega (arith, scaled_le f x t)

pub ord_zero : (f : Format) (s : Bool) (e : ℤ) → ord f (fin s 0 e) ≡ mid f
ord_zero f s e = ord_is f (fin s 0 e) ∙ ap (offset (mid f) s) (scaled_zero f s e) ∙ go s
  where
    go : (s : Bool) → offset (mid f) s 0 ≡ mid f
    go false = omega arith
    go true = omega arith

-- from minus infinity to infinity
pub ord_high : (f : Format) (x : Float) → Number f x → ord f x ≤ mid f + overflow f
ord_high f x p = le_trans (le_of_eq (ord_is f x)) (go (negative x) (scaled_le f x p.fit))
  where
    go : (s : Bool) {k : ℕ} → k ≤ overflow f → offset (mid f) s k ≤ mid f + overflow f
    go false h = omega arith
    go true h = omega arith

pub ord_low : (f : Format) (x : Float) → Number f x → mid f ≤ ord f x + overflow f
ord_low f x p = le_trans (go (negative x) (scaled_le f x p.fit)) (le_of_eq (ap (λ (z : ℕ). z + overflow f) (sym (ord_is f x))))
  where
    go : (s : Bool) {k : ℕ} → k ≤ overflow f → mid f ≤ offset (mid f) s k + overflow f
    go false h = omega arith
    go true h = omega arith

pub ord_inf : (f : Format) → ord f (inf false) ≡ mid f + overflow f
ord_inf f = ord_is f (inf false)

pub nonneg_ord : {f : Format} {x : Float} → NonNegative f x → ord f x ≡ mid f + scaled f x
nonneg_ord {f} {x} p = ord_is f x ∙ ap (λ (b : Bool). offset (mid f) b (scaled f x)) p.plus

pub nonneg_mid : {f : Format} {x : Float} → NonNegative f x → mid f ≤ ord f x
nonneg_mid p = omega (arith, nonneg_ord p)

-- the same for a value that is not below zero, minus zero among them
pub above_mid : (f : Format) (x : Float) → T (fits f x) → mid f ≤ ord f x → ord f x ≡ mid f + scaled f x
above_mid f x t h = ord_is f x ∙ go (negative x) (le_trans h (le_of_eq (ord_is f x))) (scaled_mid f x t)
  where
    go : (s : Bool) → mid f ≤ offset (mid f) s (scaled f x) → scaled f x ≤ mid f → offset (mid f) s (scaled f x) ≡ mid f + scaled f x
    go false h l = refl
    go true h l = omega arith

-- such a value has the sign plus, or is a zero
pub mid_sign : (f : Format) (x : Float) → T (fits f x) → mid f ≤ ord f x → (negative x ≡ false) ⊎ (scaled f x ≡ 0)
mid_sign f x t h = go (negative x) refl
  where
    go : (s : Bool) → negative x ≡ s → (negative x ≡ false) ⊎ (scaled f x ≡ 0)
    go false e = inl e
    go true e = inr (let k : mid f + scaled f x ≡ mid f - scaled f x = sym (above_mid f x t h) ∙ ord_is f x ∙ ap (λ (s : Bool). offset (mid f) s (scaled f x)) e in omega (arith, overflow_pos f))

-- ---- two magnitudes a / d and b / c, and x and y of the smallest values that they are

cross : (U x y a d b c : ℕ) → 0 < d → 0 < c → x * d ≡ a * U → y * c ≡ b * U → a * c ≤ b * d → x ≤ y
cross U x y a d b c D C p q h =
    le_of_mul-le-mul_right
    (le_trans (le_of_eq (sym (mul_assoc x d c) ∙ ap (λ (z : ℕ). z * c) p ∙ mul_right_comm a U c))
    (le_trans (mul-le-mul_right U h)
    (le_of_eq (mul_right_comm b d U ∙ ap (λ (z : ℕ). z * d) (sym q) ∙ mul_assoc y c d ∙ ap (λ (z : ℕ). y * z) (mul_comm c d)))))
    (mul-pos D C)

uncross : (U x y a d b c : ℕ) → 0 < U → x * d ≡ a * U → y * c ≡ b * U → x ≤ y → a * c ≤ b * d
uncross U x y a d b c P p q h =
    le_of_mul-le-mul_right
    (le_trans (le_of_eq (mul_right_comm a c U ∙ ap (λ (z : ℕ). z * c) (sym p) ∙ mul_assoc x d c))
    (le_trans (mul-le-mul_right (d * c) h)
    (le_of_eq (ap (λ (z : ℕ). y * z) (mul_comm d c) ∙ sym (mul_assoc y c d) ∙ ap (λ (z : ℕ). z * d) q ∙ mul_right_comm b U d))))
    P

zero_to : (U x a d c : ℕ) → 0 < d → 0 < c → x * d ≡ a * U → a * c ≡ 0 → x ≡ 0
zero_to U x a d c D C p e = le_antisymm (cross U x 0 a d 0 c D C p (zero-mul c ∙ sym (zero-mul U)) (le_of_eq (e ∙ sym (zero-mul d)))) zero-le

zero_from : (U x a d c : ℕ) → 0 < U → x * d ≡ a * U → x ≡ 0 → a * c ≡ 0
zero_from U x a d c P p e = le_antisymm (le_trans (uncross U x 0 a d 0 c P p (zero-mul c ∙ sym (zero-mul U)) (le_of_eq e)) (le_of_eq (zero-mul d))) zero-le

-- A and B are in the order of X and Y, and are zero where they are; X and Y are magnitudes of the format
record Like (f : Format) (A B X Y : ℕ) : Type 0 where
  left_mid : X ≤ mid f
  right_mid : Y ≤ mid f
  le_to : A ≤ B → X ≤ Y
  le_from : X ≤ Y → A ≤ B
  ge_to : B ≤ A → Y ≤ X
  ge_from : Y ≤ X → B ≤ A
  left_to : A ≡ 0 → X ≡ 0
  left_from : X ≡ 0 → A ≡ 0
  right_to : B ≡ 0 → Y ≡ 0
  right_from : Y ≡ 0 → B ≡ 0

like : (f : Format) (s : Bool) (m : ℕ) (e : ℤ) (t : Bool) (n : ℕ) (d : ℤ) → T (fits f (fin s m e)) → T (fits f (fin t n d)) → Like f (m * up e * down d) (n * up d * down e) (scaled f (fin s m e)) (scaled f (fin t n d))
like f s m e t n d p q =
    let U = scale f in
    let P : 0 < U = scale_pos f in
    let X = scaled f (fin s m e) in
    let Y = scaled f (fin t n d) in
    let E : X * down e ≡ m * up e * U = scaled_exact f s m e p in
    let F : Y * down d ≡ n * up d * U = scaled_exact f t n d q in
    record {
      left_mid = scaled_mid f (fin s m e) p;
      right_mid = scaled_mid f (fin t n d) q;
      le_to = cross U X Y (m * up e) (down e) (n * up d) (down d) (down_pos e) (down_pos d) E F;
      le_from = uncross U X Y (m * up e) (down e) (n * up d) (down d) P E F;
      ge_to = cross U Y X (n * up d) (down d) (m * up e) (down e) (down_pos d) (down_pos e) F E;
      ge_from = uncross U Y X (n * up d) (down d) (m * up e) (down e) P F E;
      left_to = zero_to U X (m * up e) (down e) (down d) (down_pos e) (down_pos d) E;
      left_from = zero_from U X (m * up e) (down e) (down d) P E;
      right_to = zero_to U Y (n * up d) (down d) (down e) (down_pos d) (down_pos e) F;
      right_from = zero_from U Y (n * up d) (down d) (down e) P F;
    }

sum_zero : (A B : ℕ) → (0 < A + B) ⊎ ((A ≡ 0) × (B ≡ 0))
sum_zero zero zero = inr (refl, refl)
sum_zero zero (suc B) = inl (omega arith)
sum_zero (suc A) B = inl (omega arith)

module _ {f : Format} {A B X Y : ℕ} (l : Like f A B X Y) where
  below_to : (s t : Bool) → T (below s A t B) → offset (mid f) s X < offset (mid f) t Y
  below_to false false h = let k : X < Y = lt_of_not-le (λ (g : Y ≤ X). not-le_of_lt (ltb→lt A B h) (l.ge_from g)) in omega arith
  below_to false true h = absurd h
  below_to true false h = let k : 0 < X + Y = above (ltb→lt 0 (A + B) h) in omega arith
    where
      above : 0 < A + B → 0 < X + Y
      above g = elim (sum_zero X Y) [ inl p ↦ p | inr p ↦ let a0 : A ≡ 0 = l.left_from p.0 in let b0 : B ≡ 0 = l.right_from p.1 in absurd (omega arith) ]
  below_to true true h = let k : Y < X = lt_of_not-le (λ (g : X ≤ Y). not-le_of_lt (ltb→lt B A h) (l.le_from g)) in omega arith

  below_from : (s t : Bool) → offset (mid f) s X < offset (mid f) t Y → T (below s A t B)
  below_from false false h = lt→ltb A B (lt_of_not-le (λ (g : B ≤ A). let k : Y ≤ X = l.ge_to g in omega arith))
  below_from false true h = omega arith
  below_from true false h = elim (sum_zero A B) [
    | inl p ↦ lt→ltb 0 (A + B) p
    | inr p ↦ let x0 : X ≡ 0 = l.left_to p.0 in let y0 : Y ≡ 0 = l.right_to p.1 in absurd (omega arith)
  ]
  below_from true true h = lt→ltb B A (lt_of_not-le (λ (g : A ≤ B). let k : X ≤ Y = l.le_to g in omega arith))

  level_to : (s t : Bool) → T (level s A t B) → offset (mid f) s X ≡ offset (mid f) t Y
  level_to s t h = go s t (eqb→eq A B (and_l (eqb A B) (beq s t || eqb A 0) h)) (and_r (eqb A B) (beq s t || eqb A 0) h)
    where
      same : A ≡ B → X ≡ Y
      same e = le_antisymm (l.le_to (le_of_eq e)) (l.ge_to (le_of_eq (sym e)))

      go : (s t : Bool) → A ≡ B → T (beq s t || eqb A 0) → offset (mid f) s X ≡ offset (mid f) t Y
      go false false e k = ap (λ (z : ℕ). mid f + z) (same e)
      go true true e k = ap (λ (z : ℕ). mid f - z) (same e)
      go false true e k = let x0 : X ≡ 0 = l.left_to (eqb→eq A 0 k) in let xy : X ≡ Y = same e in omega arith
      go true false e k = let x0 : X ≡ 0 = l.left_to (eqb→eq A 0 k) in let xy : X ≡ Y = same e in omega arith

  level_from : (s t : Bool) → offset (mid f) s X ≡ offset (mid f) t Y → T (level s A t B)
  level_from s t h = go s t h
    where
      same : X ≡ Y → T (eqb A B)
      same e = eq→eqb (le_antisymm (l.le_from (le_of_eq e)) (l.ge_from (le_of_eq (sym e))))

      zeros : X ≡ 0 → Y ≡ 0 → T (eqb A B && eqb A 0)
      zeros a b = and_i (eqb A B) (eqb A 0) (same (a ∙ sym b)) (eq→eqb (l.left_from a))

      go : (s t : Bool) → offset (mid f) s X ≡ offset (mid f) t Y → T (level s A t B)
      go false false k = and_i (eqb A B) true (same (omega arith)) tt
      go true true k = and_i (eqb A B) true (same (omega arith)) tt
      go false true k = zeros (omega arith) (omega arith)
      go true false k = zeros (omega arith) (omega arith)

-- ---- order and equality of numbers

or_left : (a b : Bool) → T a → T (a || b)
or_left true b t = tt
or_left false b t = absurd t

or_right : (a b : Bool) → T b → T (a || b)
or_right true b t = tt
or_right false b t = t

pub lt→le : (x y : Float) → T (lt x y) → T (le x y)
unfolding le
lt→le x y h = or_left (lt x y) (eq x y) h

module _ (f : Format) where
  inf_above : (s : Bool) {k : ℕ} → k < overflow f → offset (mid f) s k < mid f + overflow f
  inf_above false h = omega arith
  inf_above true h = omega arith

  inf_below : (s : Bool) {k : ℕ} → k < overflow f → mid f - overflow f < offset (mid f) s k
  inf_below false h = omega arith
  inf_below true h = omega arith

  pub lt→ord : {x y : Float} → Number f x → Number f y → T (lt x y) → ord f x < ord f y
  unfolding ord lt
  lt→ord {x = nan} {y} p q h = absurd h
  lt→ord {x = inf s} {y = nan} p q h = absurd h
  lt→ord {x = inf true} {y = inf true} p q h = absurd h
  lt→ord {x = inf true} {y = inf false} p q h = omega (arith, overflow_pos f)
  lt→ord {x = inf false} {y = inf t} p q h = absurd h
  lt→ord {x = inf true} {y = fin t n d} p q h = inf_below t (scaled_lt f t n d q.fit)
  lt→ord {x = inf false} {y = fin t n d} p q h = absurd h
  lt→ord {x = fin s m e} {y = nan} p q h = absurd h
  lt→ord {x = fin s m e} {y = inf true} p q h = absurd h
  lt→ord {x = fin s m e} {y = inf false} p q h = inf_above s (scaled_lt f s m e p.fit)
  lt→ord {x = fin s m e} {y = fin t n d} p q h = below_to (like f s m e t n d p.fit q.fit) s t h

  pub ord→lt : {x y : Float} → Number f x → Number f y → ord f x < ord f y → T (lt x y)
  unfolding ord lt is_nan
  ord→lt {x = nan} {y} p q h = absurd p.num
  ord→lt {x = inf s} {y = nan} p q h = absurd q.num
  ord→lt {x = inf true} {y = inf true} p q h = omega arith
  ord→lt {x = inf true} {y = inf false} p q h = tt
  ord→lt {x = inf false} {y = inf true} p q h = omega arith
  ord→lt {x = inf false} {y = inf false} p q h = omega arith
  ord→lt {x = inf true} {y = fin t n d} p q h = tt
  ord→lt {x = inf false} {y = fin t n d} p q h = omega (arith, inf_above t (scaled_lt f t n d q.fit))
  ord→lt {x = fin s m e} {y = nan} p q h = absurd q.num
  ord→lt {x = fin s m e} {y = inf true} p q h = omega (arith, inf_below s (scaled_lt f s m e p.fit))
  ord→lt {x = fin s m e} {y = inf false} p q h = tt
  ord→lt {x = fin s m e} {y = fin t n d} p q h = below_from (like f s m e t n d p.fit q.fit) s t h

  pub eq→ord : {x y : Float} → Number f x → Number f y → T (eq x y) → ord f x ≡ ord f y
  unfolding ord eq
  eq→ord {x = nan} {y} p q h = absurd h
  eq→ord {x = inf s} {y = nan} p q h = absurd h
  eq→ord {x = inf true} {y = inf true} p q h = refl
  eq→ord {x = inf true} {y = inf false} p q h = absurd h
  eq→ord {x = inf false} {y = inf true} p q h = absurd h
  eq→ord {x = inf false} {y = inf false} p q h = refl
  eq→ord {x = inf s} {y = fin t n d} p q h = absurd h
  eq→ord {x = fin s m e} {y = nan} p q h = absurd h
  eq→ord {x = fin s m e} {y = inf t} p q h = absurd h
  eq→ord {x = fin s m e} {y = fin t n d} p q h = level_to (like f s m e t n d p.fit q.fit) s t h

  pub ord→eq : {x y : Float} → Number f x → Number f y → ord f x ≡ ord f y → T (eq x y)
  unfolding ord eq is_nan
  ord→eq {x = nan} {y} p q h = absurd p.num
  ord→eq {x = inf s} {y = nan} p q h = absurd q.num
  ord→eq {x = inf true} {y = inf true} p q h = tt
  ord→eq {x = inf true} {y = inf false} p q h = omega (arith, overflow_pos f)
  ord→eq {x = inf false} {y = inf true} p q h = omega (arith, overflow_pos f)
  ord→eq {x = inf false} {y = inf false} p q h = tt
  ord→eq {x = inf true} {y = fin t n d} p q h = omega (arith, inf_below t (scaled_lt f t n d q.fit))
  ord→eq {x = inf false} {y = fin t n d} p q h = omega (arith, inf_above t (scaled_lt f t n d q.fit))
  ord→eq {x = fin s m e} {y = nan} p q h = absurd q.num
  ord→eq {x = fin s m e} {y = inf true} p q h = omega (arith, inf_below s (scaled_lt f s m e p.fit))
  ord→eq {x = fin s m e} {y = inf false} p q h = omega (arith, inf_above s (scaled_lt f s m e p.fit))
  ord→eq {x = fin s m e} {y = fin t n d} p q h = level_from (like f s m e t n d p.fit q.fit) s t h

  pub le→ord : {x y : Float} → Number f x → Number f y → T (le x y) → ord f x ≤ ord f y
  unfolding le
  le→ord {x} {y} p q h = go (lt x y) (λ (t : T (lt x y)). le_of_lt (lt→ord p q t)) h
    where
      go : (b : Bool) → (T b → ord f x ≤ ord f y) → T (b || eq x y) → ord f x ≤ ord f y
      go true k t = k tt
      go false k t = le_of_eq (eq→ord p q t)

  pub ord→le : {x y : Float} → Number f x → Number f y → ord f x ≤ ord f y → T (le x y)
  unfolding le
  ord→le {x} {y} p q h = elim (eq-or-lt_of_le h) [ inl e ↦ or_right (lt x y) (eq x y) (ord→eq p q e) | inr l ↦ or_left (lt x y) (eq x y) (ord→lt p q l) ]

  -- ---- so `le` is a total preorder on the numbers, and `lt` its strict part

  pub float_le_refl : {x : Float} → Number f x → T (le x x)
  float_le_refl {x} p = ord→le p p (le_refl (ord f x))

  pub float_le_trans : {x y z : Float} → Number f x → Number f y → Number f z → T (le x y) → T (le y z) → T (le x z)
  float_le_trans p q r h k = ord→le p r (le_trans (le→ord p q h) (le→ord q r k))

  pub float_lt_le_trans : {x y z : Float} → Number f x → Number f y → Number f z → T (lt x y) → T (le y z) → T (lt x z)
  float_lt_le_trans p q r h k = ord→lt p r (lt_of_lt_of_le (lt→ord p q h) (le→ord q r k))

  pub float_le_lt_trans : {x y z : Float} → Number f x → Number f y → Number f z → T (le x y) → T (lt y z) → T (lt x z)
  float_le_lt_trans p q r h k = ord→lt p r (lt_of_le_of_lt (le→ord p q h) (lt→ord q r k))

  pub float_total : {x y : Float} → Number f x → Number f y → T (le x y) ⊎ T (lt y x)
  float_total {x} {y} p q = elim (split (ord f x) (ord f y)) [ inl h ↦ inl (ord→le p q h) | inr h ↦ inr (ord→lt q p h) ]

  pub float_le_inf : {x : Float} → Number f x → T (le x (inf false))
  float_le_inf {x} p = ord→le p (inf_number f false) (omega (arith, ord_high f x p, ord_inf f))

  pub not_lt→le : {x y : Float} → Number f x → Number f y → T (not (lt x y)) → T (le y x)
  not_lt→le {x} {y} p q h = elim (float_total q p) [ inl k ↦ k | inr k ↦ absurd (T_not (lt x y) h k) ]

  pub not_le→lt : {x y : Float} → Number f x → Number f y → T (not (le x y)) → T (lt y x)
  not_le→lt {x} {y} p q h = elim (float_total p q) [ inl k ↦ absurd (T_not (le x y) h k) | inr k ↦ k ]

  pub le→not_lt : {x y : Float} → Number f x → Number f y → T (le x y) → T (not (lt y x))
  le→not_lt {x} {y} p q h = not_T (lt y x) (λ (k : T (lt y x)). not-le_of_lt (lt→ord q p k) (le→ord p q h))

  pub lt→not_le : {x y : Float} → Number f x → Number f y → T (lt x y) → T (not (le y x))
  lt→not_le {x} {y} p q h = not_T (le y x) (λ (k : T (le y x)). not-le_of_lt (lt→ord p q h) (le→ord q p k))
