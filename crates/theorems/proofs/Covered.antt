-- A radius below which no vector lies: what a walk below a prefix covers, and why it may leave out an integer that fails the first test at the radius on entry, or a child whose partial sum is above the standing radius. Assumes nothing.
use mathlib.Core.Path.{◌≡◌, sym, subst}
use mathlib.Core.Logic.{◌⊎◌, inl, inr}
use Prim.Native.Nat.{ℕ, zero, suc, ◌+◌, ◌≤◌, ◌<◌}
use native.Mathlib.Nat.{le_trans, lt_of_lt_of_le}
use native.Mathlib.Omega.{arith}
use mathlib.Core.List.{List, [], ◌∷◌}
use lib.Dec.{T}
use lib.ListN.{length}
use lib.IntN.{ℤ}
use lib.Ieee.{Float, binary64, sub, le, lt}
use lib.Ieee.Fits.{and_i}
use Rattle.rounding.specs.Integers.{is_i64}
use Rattle.rounding.specs.Kinds.{Finite, NonNegative}
use Rattle.rounding.proofs.Interface.{number, ord, ord→lt, split, remaining_fits}
use Rattle.definitions.specs.Table.{Table, dimension, weight}
use Rattle.definitions.specs.Distance.{center, term, partial}
use Rattle.definitions.specs.Admitted.{all_i64}
use Rattle.definitions.proofs.Distances.{partial_step}
use Rattle.definitions.proofs.Admissions.{all_i64_intro, all_i64_head, all_i64_tail}
use Rattle.theorems.specs.Children.{is_child}
use Rattle.theorems.proofs.Limits.{Limits}
use Rattle.theorems.proofs.Sums.{level_nonneg, partial_nonneg, partial_grows}
use Rattle.theorems.proofs.Generators.{is_child_is}
use Rattle.theorems.proofs.Paths.{extend}

-- every vector that ends in zs, d levels being left, has a distance of at least r
abbrev pub Covered : Table → List Float → ℕ → List ℤ → Float → Type 0
Covered t target zero zs r = ord binary64 r ≤ ord binary64 (partial t target zs)
Covered t target (suc d) zs r = (z : ℤ) → T (is_i64 z) → Covered t target d (z ∷ zs) r

pub all_above : (ys zs : List ℤ) → T (all_i64 (extend ys zs)) → T (all_i64 zs)
all_above [] zs a = a
all_above (y ∷ ys) zs a = all_i64_tail y zs (all_above ys (y ∷ zs) a)

module _ (t : Table) (target : List Float) where
  pub covered_less : (d : ℕ) (zs : List ℤ) (r r' : Float) → ord binary64 r' ≤ ord binary64 r → Covered t target d zs r → Covered t target d zs r'
  covered_less zero zs r r' h c = le_trans h c
  covered_less (suc d) zs r r' h c = λ z i. covered_less d (z ∷ zs) r r' h (c z i)

  -- in the end, of each vector
  pub covered_all : (ys zs : List ℤ) (r : Float) → T (all_i64 (extend ys zs)) → Covered t target (length ys) zs r → ord binary64 r ≤ ord binary64 (partial t target (extend ys zs))
  covered_all [] zs r a c = c
  covered_all (y ∷ ys) zs r a c = covered_all ys (y ∷ zs) r a (c y (all_i64_head y zs (all_above ys (y ∷ zs) a)))

  module _ (limits : Limits t target) where
    -- a prefix whose partial sum is not below r
    pub covered_above : (d : ℕ) (zs : List ℤ) (r : Float) → length zs + d ≡ dimension t → T (all_i64 zs) → ord binary64 r ≤ ord binary64 (partial t target zs) → Covered t target d zs r
    covered_above zero zs r e a h = h
    covered_above (suc d) zs r e a h = λ z i. covered_above d (z ∷ zs) r (omega arith) (all_i64_intro z zs i a) (le_trans h (partial_grows t target limits z zs d (omega arith) i a))

    -- an integer that fails the first test at the radius on entry
    pub covered_failing : (level : ℕ) (zs : List ℤ) (S : Float) → suc level + length zs ≡ dimension t → T (all_i64 zs) → Finite binary64 S → (z : ℤ) → T (is_i64 z) → (T (is_child (center t target level zs) (sub binary64 S (partial t target zs)) (weight t level) z) → ⊥) → (r : Float) → ord binary64 r ≤ ord binary64 S → Covered t target level (z ∷ zs) r
    covered_failing level zs S e a f z i fails r h =
        covered_above level (z ∷ zs) r (omega arith) (all_i64_intro z zs i a) (go (split (ord binary64 r) (ord binary64 (partial t target (z ∷ zs)))))
      where
        c : Float
        c = center t target level zs

        nonneg : NonNegative binary64 (partial t target (z ∷ zs))
        nonneg = partial_nonneg t target limits (z ∷ zs) level (omega arith) (all_i64_intro z zs i a)

        go : (ord binary64 r ≤ ord binary64 (partial t target (z ∷ zs))) ⊎ (ord binary64 (partial t target (z ∷ zs)) < ord binary64 r) → ord binary64 r ≤ ord binary64 (partial t target (z ∷ zs))
        go (inl k) = k
        go (inr k) =
            absurd
            (fails
            (subst T (sym (is_child_is (center t target level zs) (sub binary64 S (partial t target zs)) (weight t level) z))
            (and_i (is_i64 z) (le (term (weight t level) (center t target level zs) z) (sub binary64 S (partial t target zs))) i
            (remaining_fits binary64 (partial t target zs) (term (weight t level) (center t target level zs) z) S (partial_nonneg t target limits zs (suc level) (omega arith) a) (level_nonneg t target limits z zs level e i a) f
            (subst (λ (x : Float). T (lt x S)) (partial_step t target z zs level e) (ord→lt binary64 nonneg.num (number f) (lt_of_lt_of_le k h)))))))
