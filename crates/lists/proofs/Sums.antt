-- Sums of integers: term by term, multiplied, in two orders, and of one term alone. Assumes nothing.
use mathlib.Core.Path.{◌≡◌, refl, ap, sym, ◌∙◌}
use Prim.Native.Nat.{ℕ, zero, suc, ◌*◌, ◌<◌}
use native.Mathlib.Decide.{ℕ_discrete}
use native.Mathlib.Omega.{arith}
use lib.IntN.{ℤ, pos, negsuc, suc_ℤ, pred_ℤ, neg_ℤ, ◌+ℤ◌, ◌-ℤ◌, ◌*ℤ◌, neg_ℤ-neg_ℤ, +ℤ_assoc, +ℤ_comm, +ℤ_idl, +ℤ_idr, suc_ℤ-+ℤ, pred_ℤ-+ℤ, zero-*ℤ, *ℤ-zero, *ℤ_comm, suc_ℤ-*ℤ, pred_ℤ-*ℤ}
use Rattle.lists.specs.Sums.{sum_of}

-- ---- integers
-- (a + b) + (c + d) = (a + c) + (b + d)
middle_swap : (a b c d : ℤ) → (a +ℤ b) +ℤ (c +ℤ d) ≡ (a +ℤ c) +ℤ (b +ℤ d)
middle_swap a b c d =
    +ℤ_assoc a b (c +ℤ d)
    ∙ ap (λ (z : ℤ). a +ℤ z) (sym (+ℤ_assoc b c d) ∙ ap (λ (z : ℤ). z +ℤ d) (+ℤ_comm b c) ∙ +ℤ_assoc c b d)
    ∙ sym (+ℤ_assoc a c (b +ℤ d))

-- (x + y) + z = (x + z) + y
last_swap : (x y z : ℤ) → (x +ℤ y) +ℤ z ≡ (x +ℤ z) +ℤ y
last_swap x y z = +ℤ_assoc x y z ∙ ap (λ (w : ℤ). x +ℤ w) (+ℤ_comm y z) ∙ sym (+ℤ_assoc x z y)

negated_times : (a b : ℤ) → neg_ℤ a *ℤ b ≡ neg_ℤ (a *ℤ b)
negated_times (pos zero) b = zero-*ℤ b ∙ sym (ap neg_ℤ (zero-*ℤ b))
negated_times (pos (suc m)) (pos n) = refl
negated_times (pos (suc m)) (negsuc n) = sym (neg_ℤ-neg_ℤ (pos (suc m * suc n)))
negated_times (negsuc m) (pos n) = sym (neg_ℤ-neg_ℤ (pos (suc m * n)))
negated_times (negsuc m) (negsuc n) = refl

-- a product of a sum, and of a product, by induction on the first integer: what holds of a holds of a + 1 and of a - 1
module _ (b c : ℤ) where
  sum_up : (a : ℤ) → (a +ℤ b) *ℤ c ≡ a *ℤ c +ℤ b *ℤ c → (suc_ℤ a +ℤ b) *ℤ c ≡ suc_ℤ a *ℤ c +ℤ b *ℤ c
  sum_up a e =
      ap (λ (z : ℤ). z *ℤ c) (suc_ℤ-+ℤ a b)
      ∙ suc_ℤ-*ℤ (a +ℤ b) c
      ∙ ap (λ (z : ℤ). z +ℤ c) e
      ∙ last_swap (a *ℤ c) (b *ℤ c) c
      ∙ ap (λ (z : ℤ). z +ℤ b *ℤ c) (sym (suc_ℤ-*ℤ a c))

  sum_down : (a : ℤ) → (a +ℤ b) *ℤ c ≡ a *ℤ c +ℤ b *ℤ c → (pred_ℤ a +ℤ b) *ℤ c ≡ pred_ℤ a *ℤ c +ℤ b *ℤ c
  sum_down a e =
      ap (λ (z : ℤ). z *ℤ c) (pred_ℤ-+ℤ a b)
      ∙ pred_ℤ-*ℤ (a +ℤ b) c
      ∙ ap (λ (z : ℤ). z -ℤ c) e
      ∙ last_swap (a *ℤ c) (b *ℤ c) (neg_ℤ c)
      ∙ ap (λ (z : ℤ). z +ℤ b *ℤ c) (sym (pred_ℤ-*ℤ a c))

  sum_from_zero : (pos 0 +ℤ b) *ℤ c ≡ pos 0 *ℤ c +ℤ b *ℤ c
  sum_from_zero = ap (λ (z : ℤ). z *ℤ c) (+ℤ_idl b) ∙ sym (ap (λ (z : ℤ). z +ℤ b *ℤ c) (zero-*ℤ c) ∙ +ℤ_idl (b *ℤ c))

pub plus_times : (a b c : ℤ) → (a +ℤ b) *ℤ c ≡ a *ℤ c +ℤ b *ℤ c
plus_times (pos zero) b c = sum_from_zero b c
plus_times (pos (suc n)) b c = sum_up b c (pos n) (plus_times (pos n) b c)
plus_times (negsuc zero) b c = sum_down b c (pos 0) (sum_from_zero b c)
plus_times (negsuc (suc n)) b c = sum_down b c (negsuc n) (plus_times (negsuc n) b c)

pub times_plus : (a b c : ℤ) → a *ℤ (b +ℤ c) ≡ a *ℤ b +ℤ a *ℤ c
times_plus a b c =
    *ℤ_comm a (b +ℤ c)
    ∙ plus_times b c a
    ∙ ap (λ (z : ℤ). z +ℤ c *ℤ a) (*ℤ_comm b a)
    ∙ ap (λ (z : ℤ). a *ℤ b +ℤ z) (*ℤ_comm c a)

module _ (b c : ℤ) where
  product_up : (a : ℤ) → a *ℤ b *ℤ c ≡ a *ℤ (b *ℤ c) → suc_ℤ a *ℤ b *ℤ c ≡ suc_ℤ a *ℤ (b *ℤ c)
  product_up a e =
      ap (λ (z : ℤ). z *ℤ c) (suc_ℤ-*ℤ a b)
      ∙ plus_times (a *ℤ b) b c
      ∙ ap (λ (z : ℤ). z +ℤ b *ℤ c) e
      ∙ sym (suc_ℤ-*ℤ a (b *ℤ c))

  product_down : (a : ℤ) → a *ℤ b *ℤ c ≡ a *ℤ (b *ℤ c) → pred_ℤ a *ℤ b *ℤ c ≡ pred_ℤ a *ℤ (b *ℤ c)
  product_down a e =
      ap (λ (z : ℤ). z *ℤ c) (pred_ℤ-*ℤ a b)
      ∙ plus_times (a *ℤ b) (neg_ℤ b) c
      ∙ ap (λ (z : ℤ). a *ℤ b *ℤ c +ℤ z) (negated_times b c)
      ∙ ap (λ (z : ℤ). z -ℤ b *ℤ c) e
      ∙ sym (pred_ℤ-*ℤ a (b *ℤ c))

  product_from_zero : pos 0 *ℤ b *ℤ c ≡ pos 0 *ℤ (b *ℤ c)
  product_from_zero = ap (λ (z : ℤ). z *ℤ c) (zero-*ℤ b) ∙ zero-*ℤ c ∙ sym (zero-*ℤ (b *ℤ c))

pub times_assoc : (a b c : ℤ) → a *ℤ b *ℤ c ≡ a *ℤ (b *ℤ c)
times_assoc (pos zero) b c = product_from_zero b c
times_assoc (pos (suc n)) b c = product_up b c (pos n) (times_assoc (pos n) b c)
times_assoc (negsuc zero) b c = product_down b c (pos 0) (product_from_zero b c)
times_assoc (negsuc (suc n)) b c = product_down b c (negsuc n) (times_assoc (negsuc n) b c)

-- ---- sums
pub sum_none : (f : ℕ → ℤ) → sum_of 0 f ≡ pos 0
unfolding sum_of
sum_none f = refl

pub sum_next : (n : ℕ) (f : ℕ → ℤ) → sum_of (suc n) f ≡ sum_of n f +ℤ f n
unfolding sum_of
sum_next n f = refl

pub sum_same : (n : ℕ) (f g : ℕ → ℤ) → ((k : ℕ) → k < n → f k ≡ g k) → sum_of n f ≡ sum_of n g
unfolding sum_of
sum_same zero f g e = refl
sum_same (suc n) f g e =
    ap (λ (z : ℤ). z +ℤ f n) (sum_same n f g (λ k h. e k (omega arith)))
    ∙ ap (λ (z : ℤ). sum_of n g +ℤ z) (e n (omega arith))

pub sum_zero : (n : ℕ) (f : ℕ → ℤ) → ((k : ℕ) → k < n → f k ≡ pos 0) → sum_of n f ≡ pos 0
unfolding sum_of
sum_zero zero f e = refl
sum_zero (suc n) f e =
    ap (λ (z : ℤ). z +ℤ f n) (sum_zero n f (λ k h. e k (omega arith)))
    ∙ ap (λ (z : ℤ). pos 0 +ℤ z) (e n (omega arith))

-- all terms but that at c are zero
pub sum_single : (n c : ℕ) (f : ℕ → ℤ) → c < n → ((k : ℕ) → k < n → (k ≡ c → ⊥) → f k ≡ pos 0) → sum_of n f ≡ f c
unfolding sum_of
sum_single zero c f h e = absurd (omega arith)
sum_single (suc n) c f h e = by (ℕ_discrete n c) (λ i. sum_single n c f i (λ k j. e k (omega arith)))
  where
    by : Dec (n ≡ c) → (c < n → sum_of n f ≡ f c) → sum_of n f +ℤ f n ≡ f c
    by (yes p) s = ap (λ (z : ℤ). z +ℤ f n) (sum_zero n f (λ k j. e k (omega arith) (λ q. omega arith))) ∙ +ℤ_idl (f n) ∙ ap f p
    by (no p) s = ap (λ (z : ℤ). z +ℤ f n) (s (omega arith)) ∙ ap (λ (z : ℤ). f c +ℤ z) (e n (omega arith) p) ∙ +ℤ_idr (f c)

pub sum_plus : (n : ℕ) (f g : ℕ → ℤ) → sum_of n (λ k. f k +ℤ g k) ≡ sum_of n f +ℤ sum_of n g
unfolding sum_of
sum_plus zero f g = refl
sum_plus (suc n) f g =
    ap (λ (z : ℤ). z +ℤ (f n +ℤ g n)) (sum_plus n f g)
    ∙ middle_swap (sum_of n f) (sum_of n g) (f n) (g n)

pub sum_times : (n : ℕ) (z : ℤ) (f : ℕ → ℤ) → sum_of n (λ k. z *ℤ f k) ≡ z *ℤ sum_of n f
unfolding sum_of
sum_times zero z f = sym (*ℤ-zero z)
sum_times (suc n) z f = ap (λ (w : ℤ). w +ℤ z *ℤ f n) (sum_times n z f) ∙ sym (times_plus z (sum_of n f) (f n))

pub sum_times_right : (n : ℕ) (f : ℕ → ℤ) (z : ℤ) → sum_of n (λ k. f k *ℤ z) ≡ sum_of n f *ℤ z
unfolding sum_of
sum_times_right zero f z = sym (zero-*ℤ z)
sum_times_right (suc n) f z = ap (λ (w : ℤ). w +ℤ f n *ℤ z) (sum_times_right n f z) ∙ sym (plus_times (sum_of n f) (f n) z)

-- the sum over the rows is the sum over the columns
pub sum_swap : (n m : ℕ) (f : ℕ → ℕ → ℤ) → sum_of n (λ i. sum_of m (λ k. f i k)) ≡ sum_of m (λ k. sum_of n (λ i. f i k))
unfolding sum_of
sum_swap zero m f = sym (sum_zero m (λ k. pos 0) (λ k h. refl))
sum_swap (suc n) m f =
    ap (λ (z : ℤ). z +ℤ sum_of m (λ k. f n k)) (sum_swap n m f)
    ∙ sym (sum_plus m (λ k. sum_of n (λ i. f i k)) (λ k. f n k))
