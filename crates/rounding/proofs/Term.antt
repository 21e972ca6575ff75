-- The term (w·d)·d of a coordinate, d = c - z as computed, for a weight w. For any d that is a number the value is no NaN and not negative, it may be an infinity, and it grows weakly with the magnitude of d. So over all i64 it is least at `round_away c`, and grows weakly on both sides. Assumes nothing.
use Rattle.std.proofs.Common.{◌≡◌, ℕ, zero, suc, ◌<◌, ◌≤◌, Bool, true, false, T, ◌⊎◌, ℤ, sym, refl, ap, ◌∙◌, subst, inl, inr, le_trans, le_of_eq, le_refl, lt_of_lt_of_le, lt_of_le_of_lt, lt_irrefl, arith}
use lib.Signed.{le_z}
use lib.Ieee.{Float, nan, inf, fin, Format, unlike, mul, sub, of_int, le, fits, is_nan}
use lib.Ieee.Fits.{sub-fits, mul-fits}
use lib.Ieee.Scale.{overflow, finite}
use Rattle.rounding.specs.Doubles.{negative}
use Rattle.rounding.specs.Integers.{is_i64, round_away}
use Rattle.rounding.proofs.Scaled.{scaled, overflow_pos, scaled_lt, scaled_le, scaled_zero}
use Rattle.rounding.specs.Kinds.{Number, Finite, NonNegative}
use Rattle.rounding.proofs.Value.{Weight, weight_finite, inf_number, finite_lt, nonneg_ord, ord→le}
use Rattle.rounding.proofs.Subtraction.{sub_number}
use Rattle.rounding.proofs.Conversion.{of_int_finite}
use Rattle.rounding.proofs.Multiplication.{product, product_of, product_mono, product_zero, inf_mul, inf_mul_inf, weight_mul_inf}
use Rattle.rounding.proofs.RoundAway.{round_away_is_i64, gap_from_up, gap_from_down, gap_from_least}

abbrev pub weighted_square : Format → Float → Float → Float
weighted_square f w d = mul f (mul f w d) d

-- the magnitude of the weighted square s of d: the product rounded twice where d and w·d are finite, and infinite where one of them is
pub data TermSize (f : Format) (w d s : Float) : Type 0 where
  bounded : T (finite d) → product f (scaled f w) (scaled f d) < overflow f → scaled f s ≡ product f (product f (scaled f w) (scaled f d)) (scaled f d) → TermSize f w d s
  unbounded : scaled f s ≡ overflow f → (scaled f d ≡ overflow f) ⊎ (product f (scaled f w) (scaled f d) ≡ overflow f) → TermSize f w d s

-- what is known of the weighted square s of d
pub record Term (f : Format) (w d s : Float) : Type 0 where
  pub num : Number f s
  pub sign : negative s ≡ false
  pub size : TermSize f w d s

like_signs : (s : Bool) → unlike s s ≡ false
like_signs false = refl
like_signs true = refl

plus_sign : (s : Bool) → unlike false s ≡ s
plus_sign false = refl
plus_sign true = refl

mul_nan : (f : Format) (v : Float) → mul f v nan ≡ nan
unfolding mul
mul_nan f nan = refl
mul_nan f (inf s) = refl
mul_nan f (fin s m e) = refl

module _ (f : Format) (w : Float) (p : Weight f w) where
  infinite : (d s : Float) → s ≡ inf false → (scaled f d ≡ overflow f) ⊎ (product f (scaled f w) (scaled f d) ≡ overflow f) → Term f w d s
  infinite d s e h = record { num = subst (Number f) (sym e) (inf_number f false); sign = ap negative e; size = unbounded (ap (scaled f) e) h }

  -- d is finite, and v is w·d
  after : (d v : Float) → Finite f d → Number f v → negative v ≡ negative d → scaled f v ≡ product f (scaled f w) (scaled f d) → Term f w d (mul f v d)
  after d nan q n s z = absurd (unfold is_nan in n.num)
  after nan (inf u) q n s z = absurd q.fin
  after (inf t) (inf u) q n s z = absurd q.fin
  after (fin t zero d) (inf u) q n s z = absurd (lt_irrefl 0 (lt_of_lt_of_le (overflow_pos f) (le_of_eq (z ∙ ap (product f (scaled f w)) (scaled_zero f t d) ∙ product_zero f (scaled f w)))))
  after (fin t (suc k) d) (inf u) q n s z = infinite (fin t (suc k) d) (mul f (inf u) (fin t (suc k) d)) (inf_mul f u t k d ∙ ap inf (ap (λ (b : Bool). unlike b t) s ∙ like_signs t)) (inr (sym z))
  after d (fin u m e) q n s z =
      let r = product_of f (fin u m e) d (record { fit = n.fit; fin = tt }) q in
      record {
        num = r.num;
        sign = r.sign ∙ ap (λ (b : Bool). unlike b (negative d)) s ∙ like_signs (negative d);
        size = bounded q.fin (lt_of_le_of_lt (le_of_eq (sym z)) (scaled_lt f u m e n.fit)) (r.size ∙ ap (λ (x : ℕ). product f x (scaled f d)) z);
      }

  pub term_of_lem : (d : Float) → Number f d → Term f w d (weighted_square f w d)
  term_of_lem nan n = absurd (unfold is_nan in n.num)
  term_of_lem (inf t) n = infinite (inf t) (weighted_square f w (inf t)) (ap (λ (v : Float). mul f v (inf t)) (weight_mul_inf p t) ∙ inf_mul_inf f t t ∙ ap inf (like_signs t)) (inl refl)
  term_of_lem (fin t k d) n =
      let q : Finite f (fin t k d) = record { fit = n.fit; fin = tt } in
      let r = product_of f w (fin t k d) (weight_finite p) q in
      after (fin t k d) (mul f w (fin t k d)) q r.num (r.sign ∙ ap (λ (b : Bool). unlike b t) p.plus ∙ plus_sign t) r.size

  pub weighted_square_nonneg : (d : Float) → Number f d → NonNegative f (weighted_square f w d)
  weighted_square_nonneg d n = let t = term_of_lem d n in record { num = t.num; plus = t.sign }

  -- a NaN passes no test, so any d will do where the weighted square passes one
  tested_nonneg : (d r : Float) → T (fits f d) → T (le (weighted_square f w d) r) → NonNegative f (weighted_square f w d)
  tested_nonneg nan r t h = absurd (unfold le in (rw (mul_nan f (mul f w nan)) at h))
  tested_nonneg (inf s) r t h = weighted_square_nonneg (inf s) (inf_number f s)
  tested_nonneg (fin s k d) r t h = weighted_square_nonneg (fin s k d) (record { fit = t; num = unfold is_nan in tt })

  scaled_mono : (d d' : Float) → Number f d → Number f d' → scaled f d ≤ scaled f d' → scaled f (weighted_square f w d) ≤ scaled f (weighted_square f w d')
  scaled_mono d d' n n' h = go (term_of_lem d n).size (term_of_lem d' n').size
    where
      more : product f (scaled f w) (scaled f d) ≤ product f (scaled f w) (scaled f d')
      more = product_mono f (scaled f w) (scaled f d) (scaled f w) (scaled f d') (le_refl (scaled f w)) h

      go : TermSize f w d (weighted_square f w d) → TermSize f w d' (weighted_square f w d') → scaled f (weighted_square f w d) ≤ scaled f (weighted_square f w d')
      go (bounded k l e) (unbounded e' c) = le_trans (scaled_le f (weighted_square f w d) (mul-fits f (mul f w d) d)) (le_of_eq (sym e'))
      go (unbounded e c) (unbounded e' c') = le_of_eq (e ∙ sym e')
      go (bounded k l e) (bounded k' l' e') = le_trans (le_of_eq e) (le_trans (product_mono f (product f (scaled f w) (scaled f d)) (scaled f d) (product f (scaled f w) (scaled f d')) (scaled f d') more h) (le_of_eq (sym e')))
      go (unbounded e c) (bounded k' l' e') = let b : scaled f d' < overflow f = finite_lt (record { fit = n'.fit; fin = k' }) in elim c [ inl z ↦ absurd (omega (arith, more)) | inr z ↦ absurd (omega (arith, more)) ]

  pub weighted_square_mono : (d d' : Float) → Number f d → Number f d' → scaled f d ≤ scaled f d' → T (le (weighted_square f w d) (weighted_square f w d'))
  weighted_square_mono d d' n n' h = ord→le f (term_of_lem d n).num (term_of_lem d' n').num (rw (nonneg_ord (weighted_square_nonneg d n), nonneg_ord (weighted_square_nonneg d' n')) (omega (arith, scaled_mono d d' n n' h)))

-- ---- the term of an integer z at the centre c

abbrev pub term : Format → Float → Float → ℤ → Float
term f w c z = weighted_square f w (sub f c (of_int f z))

-- at any centre, an infinity or a NaN among them
pub passed_term_nonneg : (f : Format) (w c : Float) → Weight f w → (z : ℤ) (r : Float) → T (le (term f w c z) r) → NonNegative f (term f w c z)
passed_term_nonneg f w c p z r h = tested_nonneg f w p (sub f c (of_int f z)) r (sub-fits f c (of_int f z)) h

module _ (f : Format) (w c : Float) (p : Weight f w) (q : Finite f c) where
  difference_number : (z : ℤ) → T (is_i64 z) → Number f (sub f c (of_int f z))
  difference_number z t = sub_number q (of_int_finite f z t)

  pub term_nonneg : (z : ℤ) → T (is_i64 z) → NonNegative f (term f w c z)
  term_nonneg z t = weighted_square_nonneg f w p (sub f c (of_int f z)) (difference_number z t)

  pub term_up : (z z' : ℤ) → T (is_i64 z) → T (is_i64 z') → T (le_z (round_away c) z) → T (le_z z z') → T (le (term f w c z) (term f w c z'))
  term_up z z' t t' h k = weighted_square_mono f w p (sub f c (of_int f z)) (sub f c (of_int f z')) (difference_number z t) (difference_number z' t') (gap_from_up f c q z z' t t' h k)

  pub term_down : (z z' : ℤ) → T (is_i64 z) → T (is_i64 z') → T (le_z z (round_away c)) → T (le_z z' z) → T (le (term f w c z) (term f w c z'))
  term_down z z' t t' h k = weighted_square_mono f w p (sub f c (of_int f z)) (sub f c (of_int f z')) (difference_number z t) (difference_number z' t') (gap_from_down f c q z z' t t' h k)

  pub term_least : (z : ℤ) → T (is_i64 z) → T (le (term f w c (round_away c)) (term f w c z))
  term_least z t = weighted_square_mono f w p (sub f c (of_int f (round_away c))) (sub f c (of_int f z)) (difference_number (round_away c) (round_away_is_i64 c)) (difference_number z t) (gap_from_least f c q z t)
