-- The theorem of subtraction: the number of a difference is the exact difference of the numbers, rounded; and its scaled magnitude is how far the two numbers are apart, rounded. Assumes nothing.
use Rattle.std.proofs.Common.{◌≡◌, ℕ, ◌+◌, ◌-◌, ◌*◌, ◌<◌, ◌≤◌, Bool, true, false, T, sym, ap, ◌∙◌, inl, inr, le_trans, le_of_eq, arith}
use lib.Ieee.{Float, Format, neg, sub, le}
use lib.Ieee.Scale.{overflow}
use Rattle.rounding.specs.Doubles.{negative}
use Rattle.rounding.proofs.Scaled.{scaled, split}
use Rattle.rounding.specs.Kinds.{Number, Finite}
use Rattle.rounding.proofs.Value.{number, offset, mid, ord, ord_is, ord_high, ord_low, scaled_mid, le→ord, ord→le}
use Rattle.rounding.proofs.Rounding.{round_scaled, round_scaled_mono, round_scaled_mid, rnd, rnd_up, rnd_down, rnd_mono}
use Rattle.rounding.proofs.Negation.{sub_is, ord_neg, neg_finite}
use Rattle.rounding.proofs.Addition.{ord_add, add_number}

pub ord_sub : (f : Format) (x y : Float) → Finite f x → Finite f y → ord f (sub f x y) ≡ rnd f (mid f + ord f x - ord f y)
ord_sub f x y p q =
    ap (ord f) (sub_is f x y) ∙ ord_add f x (neg y) p (neg_finite q) ∙ ap (λ (z : ℕ). rnd f (ord f x + z - mid f)) (ord_neg f y (number q))
    ∙ ap (rnd f) (turn (overflow f) (ord f x) (ord f y) (ord_high f y (number q)))
  where
    turn : (o x y : ℕ) → y ≤ o * 4 + o → x + (o * 4 + o * 4 - y) - o * 4 ≡ o * 4 + x - y
    turn o x y h = omega arith

pub sub_number : {f : Format} {x y : Float} → Finite f x → Finite f y → Number f (sub f x y)
sub_number {f} {x} {y} p q = rw (sub_is f x y) (add_number p (number (neg_finite q)))

pub sub_mono : {f : Format} {x y x' y' : Float} → Finite f x → Finite f y → Finite f x' → Finite f y' → T (le x x') → T (le y' y) → T (le (sub f x y) (sub f x' y'))
sub_mono {f} {x} {y} {x'} {y'} p q p' q' h k =
    ord→le f (sub_number p q) (sub_number p' q')
    (rw (ord_sub f x y p q, ord_sub f x' y' p' q') (rnd_mono f (mid f + ord f x - ord f y) (mid f + ord f x' - ord f y') (omega (arith, le→ord f (number p) (number p') h, le→ord f (number q') (number q) k))))

-- ---- the scaled magnitude of a difference

-- how far apart
abbrev pub gap : ℕ → ℕ → ℕ
gap a b = (a - b) + (b - a)

pub scaled_sub : (f : Format) (x y : Float) → Finite f x → Finite f y → scaled f (sub f x y) ≡ round_scaled f (gap (ord f x) (ord f y))
scaled_sub f x y p q = elim (split (ord f y) (ord f x)) [
  | inl h ↦ up (negative (sub f x y)) (at ∙ ap (rnd f) (high (mid f) h) ∙ rnd_up f G)
  | inr h ↦ let l : G ≤ mid f = omega (arith, ord_high f y (number q), ord_low f x (number p)) in down (negative (sub f x y)) (at ∙ ap (rnd f) (low (mid f) h) ∙ rnd_down f G l)
]
  where
    G : ℕ
    G = gap (ord f x) (ord f y)

    S : ℕ
    S = scaled f (sub f x y)

    fit : S ≤ mid f
    fit = scaled_mid f (sub f x y) (sub_number p q).fit

    at : offset (mid f) (negative (sub f x y)) S ≡ rnd f (mid f + ord f x - ord f y)
    at = sym (ord_is f (sub f x y)) ∙ ord_sub f x y p q

    high : (M : ℕ) {a b : ℕ} → b ≤ a → M + a - b ≡ M + gap a b
    high M h = omega arith

    low : (M : ℕ) {a b : ℕ} → a < b → M + a - b ≡ M - gap a b
    low M h = omega arith

    up : (s : Bool) → offset (mid f) s S ≡ mid f + round_scaled f G → S ≡ round_scaled f G
    up false e = omega arith
    up true e = omega (arith, fit)

    down : (s : Bool) → offset (mid f) s S ≡ mid f - round_scaled f G → S ≡ round_scaled f G
    down false e = omega (arith, round_scaled_mid f G)
    down true e = omega (arith, fit, round_scaled_mid f G)

-- it is no more than the two magnitudes together, rounded
pub scaled_sub_le : (f : Format) (x y : Float) → Finite f x → Finite f y → scaled f (sub f x y) ≤ round_scaled f (scaled f x + scaled f y)
scaled_sub_le f x y p q =
    le_trans (le_of_eq (scaled_sub f x y p q))
    (round_scaled_mono f (gap (ord f x) (ord f y)) (scaled f x + scaled f y) (rw (ord_is f x, ord_is f y) (go (negative x) (negative y) (scaled_mid f x p.fit) (scaled_mid f y q.fit))))
  where
    go : (s t : Bool) {X Y : ℕ} → X ≤ mid f → Y ≤ mid f → gap (offset (mid f) s X) (offset (mid f) t Y) ≤ X + Y
    go false false h k = omega arith
    go false true h k = omega arith
    go true false h k = omega arith
    go true true h k = omega arith
