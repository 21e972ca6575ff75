-- The theorem of addition: the number of a sum is the exact sum of the numbers, rounded. So a sum keeps the order in both arguments, and adding what is not below zero makes nothing smaller. Assumes nothing.
use Rattle.std.proofs.Common.{◌≡◌, ℕ, ◌+◌, ◌-◌, ◌*◌, ◌<◌, ◌≤◌, Bool, true, false, cond, not, ◌&&◌, T, ltb, ℤ, sym, refl, ap, ◌∙◌, le_trans, le_of_eq, lt_of_lt_of_le, lt_of_le_of_lt, mul-le-mul_right, mul_assoc, mul_comm, add-mul, le_antisymm, lt_of_mul-lt-mul_right, mul-lt-mul_of_pos_right, mul-pos, mul_right_comm, le_of_mul-le-mul_right, arith, ltb→lt, nltb→le}
use native.Mathlib.Nat.{eq_of_mul-eq-mul_right}
use mathlib.Core.Bool.{beq}
use lib.Ieee.{Float, nan, inf, fin, Format, up, down, round, sum, add, le, is_nan}
use lib.Ieee.Fits.{down_pos}
use Rattle.rounding.proofs.Scaled.{scale, scaled, scale_pos, sub_mul, scaled_exact}
use Rattle.rounding.specs.Kinds.{Number, Finite}
use Rattle.rounding.proofs.Value.{number, finite_lt, offset, mid, ord, ord_is, le→ord, ord→le}
use Rattle.rounding.proofs.Rounding.{round_number, ord_round, round_fraction_same, rnd, rnd_up, rnd_down, rnd_mono, rnd_fix}

-- ---- a sum of two signed fractions: A / C and B / C are X and Y of the smallest values

module _ (f : Format) (A B C X Y : ℕ) (C_pos : 0 < C) (a : A * scale f ≡ X * C) (b : B * scale f ≡ Y * C) (fit : X + Y ≤ mid f) where
  plus_cross : (A + B) * scale f ≡ (X + Y) * C
  plus_cross = add-mul A B (scale f) ∙ ap (λ (z : ℕ). z + B * scale f) a ∙ ap (λ (z : ℕ). X * C + z) b ∙ sym (add-mul X Y C)

  less_cross : (A - B) * scale f ≡ (X - Y) * C
  less_cross = sub_mul A B (scale f) ∙ ap (λ (z : ℕ). z - B * scale f) a ∙ ap (λ (z : ℕ). X * C - z) b ∙ sym (sub_mul X Y C)

  more_cross : (B - A) * scale f ≡ (Y - X) * C
  more_cross = sub_mul B A (scale f) ∙ ap (λ (z : ℕ). z - A * scale f) b ∙ ap (λ (z : ℕ). Y * C - z) a ∙ sym (sub_mul Y X C)

  lt_cross : A < B → X < Y
  lt_cross h = lt_of_mul-lt-mul_right C (lt_of_le_of_lt (le_of_eq (sym a)) (lt_of_lt_of_le (mul-lt-mul_of_pos_right h (scale_pos f)) (le_of_eq b)))

  ge_cross : B ≤ A → Y ≤ X
  ge_cross h = le_of_mul-le-mul_right (le_trans (le_of_eq (sym b)) (le_trans (mul-le-mul_right (scale f) h) (le_of_eq a))) C_pos

  same_cross : A ≡ B → X ≡ Y
  same_cross e = eq_of_mul-eq-mul_right C C_pos X Y (sym a ∙ ap (λ (z : ℕ). z * scale f) e ∙ b)

  -- the number of a rounded fraction n / C that is k of the smallest values: with the sign plus, and with the sign minus
  above : (n k N : ℕ) → n * scale f ≡ k * C → mid f + k ≡ N → ord f (round f false n C) ≡ rnd f N
  above n k N e h = ord_round f false n C ∙ ap (λ (z : ℕ). mid f + z) (round_fraction_same f n C k (scale f) C_pos (scale_pos f) e) ∙ sym (rnd_up f k) ∙ ap (rnd f) h

  under : (n k N : ℕ) → n * scale f ≡ k * C → k ≤ mid f → mid f - k ≡ N → ord f (round f true n C) ≡ rnd f N
  under n k N e l h = ord_round f true n C ∙ ap (λ (z : ℕ). mid f - z) (round_fraction_same f n C k (scale f) C_pos (scale_pos f) e) ∙ sym (rnd_down f k l) ∙ ap (rnd f) h

  -- of unlike signs
  apart : (s t u v : Bool) → (T u → A < B) → (T (not u) → B ≤ A) → (T (not v) → A ≤ B) → T (not (beq s t)) → ord f (cond u (round f t (B - A) C) (round f (s && v) (A - B) C)) ≡ rnd f (offset (mid f) s X + offset (mid f) t Y - mid f)
  apart true true u v lt ge le h = absurd h
  apart false false u v lt ge le h = absurd h
  apart false true true v lt ge le h = let k : X < Y = lt_cross (lt tt) in under (B - A) (Y - X) (mid f + X + (mid f - Y) - mid f) more_cross (omega arith) (omega arith)
  apart false true false v lt ge le h = let k : Y ≤ X = ge_cross (ge tt) in above (A - B) (X - Y) (mid f + X + (mid f - Y) - mid f) less_cross (omega arith)
  apart true false true v lt ge le h = let k : X < Y = lt_cross (lt tt) in above (B - A) (Y - X) (mid f - X + (mid f + Y) - mid f) more_cross (omega arith)
  apart true false false true lt ge le h = let k : Y ≤ X = ge_cross (ge tt) in under (A - B) (X - Y) (mid f - X + (mid f + Y) - mid f) less_cross (omega arith) (omega arith)
  apart true false false false lt ge le h = let k : X ≡ Y = same_cross (le_antisymm (le tt) (ge tt)) in above (A - B) (X - Y) (mid f - X + (mid f + Y) - mid f) less_cross (omega arith)

  ord_sum : (s t : Bool) → ord f (sum f s A t B C) ≡ rnd f (offset (mid f) s X + offset (mid f) t Y - mid f)
  unfolding sum
  ord_sum false false = above (A + B) (X + Y) (mid f + X + (mid f + Y) - mid f) plus_cross (omega arith)
  ord_sum true true = under (A + B) (X + Y) (mid f - X + (mid f - Y) - mid f) plus_cross fit (omega arith)
  ord_sum false true = apart false true (ltb A B) (ltb B A) (ltb→lt A B) (nltb→le A B) (nltb→le B A) tt
  ord_sum true false = apart true false (ltb A B) (ltb B A) (ltb→lt A B) (nltb→le A B) (nltb→le B A) tt

-- ---- the theorem

pub add_fin : (f : Format) (s : Bool) (m : ℕ) (e : ℤ) (t : Bool) (n : ℕ) (d : ℤ) → add f (fin s m e) (fin t n d) ≡ sum f s (m * up e * down d) t (n * up d * down e) (down e * down d)
unfolding add
add_fin f s m e t n d = refl

pub add_inf : (f : Format) (s : Bool) (m : ℕ) (e : ℤ) (t : Bool) → add f (fin s m e) (inf t) ≡ inf t
unfolding add
add_inf f s m e t = refl

pub ord_add : (f : Format) (x y : Float) → Finite f x → Finite f y → ord f (add f x y) ≡ rnd f (ord f x + ord f y - mid f)
ord_add f nan y p q = absurd p.fin
ord_add f (inf s) y p q = absurd p.fin
ord_add f (fin s m e) nan p q = absurd q.fin
ord_add f (fin s m e) (inf t) p q = absurd q.fin
ord_add f (fin s m e) (fin t n d) p q =
    let x = fin s m e in
    let y = fin t n d in
    ap (ord f) (add_fin f s m e t n d)
    ∙ ord_sum f (m * up e * down d) (n * up d * down e) (down e * down d) (scaled f x) (scaled f y) (mul-pos (down_pos e) (down_pos d))
    (cross (scale f) (scaled f x) (m * up e) (down e) (down d) (scaled_exact f s m e p.fit))
    (cross (scale f) (scaled f y) (n * up d) (down d) (down e) (scaled_exact f t n d q.fit) ∙ ap (λ (z : ℕ). scaled f y * z) (mul_comm (down d) (down e)))
    (omega (arith, finite_lt p, finite_lt q)) s t
    ∙ ap (λ (z : ℕ). rnd f (z + offset (mid f) t (scaled f y) - mid f)) (sym (ord_is f x))
    ∙ ap (λ (z : ℕ). rnd f (ord f x + z - mid f)) (sym (ord_is f y))
  where
    cross : (U X a d c : ℕ) → X * d ≡ a * U → a * c * U ≡ X * (d * c)
    cross U X a d c e = mul_right_comm a c U ∙ ap (λ (z : ℕ). z * c) (sym e) ∙ mul_assoc X d c

-- a sum is no NaN where the first is finite and the second a number
pub add_number : {f : Format} {x y : Float} → Finite f x → Number f y → Number f (add f x y)
add_number {f} {x} {y} p q = go x y p q
  where
    either : (b : Bool) {u v : Float} → Number f u → Number f v → Number f (cond b u v)
    either true h k = h
    either false h k = k

    plain : (s t : Bool) (A B C : ℕ) → Number f (sum f s A t B C)
    plain s t A B C = unfold sum in (either (beq s t) (round_number f s (A + B) C) (either (ltb A B) (round_number f t (B - A) C) (round_number f (s && ltb B A) (A - B) C)))

    go : (x y : Float) → Finite f x → Number f y → Number f (add f x y)
    go nan y p q = absurd p.fin
    go (inf s) y p q = absurd p.fin
    go (fin s m e) nan p q = absurd (unfold is_nan in q.num)
    go (fin s m e) (inf t) p q = rw (add_inf f s m e t) q
    go (fin s m e) (fin t n d) p q = rw (add_fin f s m e t n d) (plain s t (m * up e * down d) (n * up d * down e) (down e * down d))

-- ---- what follows

pub add_mono : {f : Format} {x y x' y' : Float} → Finite f x → Finite f y → Finite f x' → Finite f y' → T (le x x') → T (le y y') → T (le (add f x y) (add f x' y'))
add_mono {f} {x} {y} {x'} {y'} p q p' q' h k =
    ord→le f (add_number p (number q)) (add_number p' (number q'))
    (rw (ord_add f x y p q, ord_add f x' y' p' q') (rnd_mono f (ord f x + ord f y - mid f) (ord f x' + ord f y' - mid f) (omega (arith, le→ord f (number p) (number p') h, le→ord f (number q) (number q') k))))

-- x ≤ fl(x + y) where y is not below zero
pub add_grows : {f : Format} {x y : Float} → Finite f x → Finite f y → mid f ≤ ord f y → ord f x ≤ ord f (add f x y)
add_grows {f} {x} {y} p q h = rw (ord_add f x y p q) (le_trans (le_of_eq (sym (rnd_fix p))) (rnd_mono f (ord f x) (ord f x + ord f y - mid f) (omega arith)))
