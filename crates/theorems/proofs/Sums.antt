-- Within the limits a term and a partial sum are no NaN and not negative, and a partial sum is no smaller than the one above it.
-- So a vector whose computed distance is strictly below R is admitted at R, one that is not admitted has none below R, and an admitted one has a distance, at most R. Assumes nothing.
use mathlib.Core.Path.{◌≡◌, sym, ◌∙◌, subst}
use Prim.Native.Nat.{ℕ, suc, ◌+◌, ◌≤◌, ◌<◌}
use native.Mathlib.Nat.{lt_of_le_of_lt, add-zero}
use native.Mathlib.Omega.{arith}
use mathlib.Core.Bool.{not, ◌&&◌}
use mathlib.Core.List.{List, [], ◌∷◌}
use lib.Dec.{T, T_not, not_T}
use lib.ListN.{length}
use lib.IntN.{ℤ}
use lib.Ieee.{Float, binary64, sub, le, lt}
use lib.Ieee.Fits.{and_i, and_r}
use Rattle.rounding.specs.Integers.{is_i64}
use Rattle.rounding.specs.Kinds.{Finite, NonNegative}
use Rattle.rounding.proofs.Interface.{number, zero_nonneg, ord, lt→ord, ord→lt, not_lt→le, lt→le, term_nonneg, add_nonneg, finite_below, remaining_fits}
use Rattle.definitions.specs.Table.{Table, dimension, weight, plus_zero}
use Rattle.definitions.specs.Distance.{center, term, partial, distance, has_distance}
use Rattle.definitions.specs.Admitted.{all_i64, is_vector, first_test, second_test, passes, admitted}
use Rattle.definitions.proofs.Distances.{term_is, partial_nil, partial_step, level_is}
use Rattle.definitions.proofs.Admissions.{all_i64_head, all_i64_tail, vector_length, vector_all, first_test_is, second_test_is, passes_nil, passes_cons, admitted_is, admitted_vector}
use Rattle.theorems.proofs.Limits.{Limits, center_finite}

module _ (t : Table) (target : List Float) (limits : Limits t target) where
  -- a term is no NaN and not negative
  pub level_nonneg : (z : ℤ) (zs : List ℤ) (level : ℕ) → suc level + length zs ≡ dimension t → T (is_i64 z) → T (all_i64 zs) → NonNegative binary64 (term (weight t level) (center t target level zs) z)
  level_nonneg z zs level e i a =
      subst (NonNegative binary64) (sym (term_is (weight t level) (center t target level zs) z))
      (term_nonneg binary64 (weight t level) (center t target level zs) (limits.weights level (omega arith)) (center_finite t target limits level zs a e) z i)

  -- so is a partial sum, d levels being left
  pub partial_nonneg : (zs : List ℤ) (d : ℕ) → length zs + d ≡ dimension t → T (all_i64 zs) → NonNegative binary64 (partial t target zs)
  partial_nonneg [] d e a = subst (NonNegative binary64) (sym (partial_nil t target)) (zero_nonneg binary64)
  partial_nonneg (z ∷ zs) d e a =
      let s : suc d + length zs ≡ dimension t = omega arith in
      subst (NonNegative binary64) (sym (partial_step t target z zs d s))
      (add_nonneg binary64 (partial t target zs) (term (weight t d) (center t target d zs) z)
      (partial_nonneg zs (suc d) (omega arith) (all_i64_tail z zs a)) (level_nonneg z zs d s (all_i64_head z zs a) (all_i64_tail z zs a))).sum

  -- and it is no smaller than the one above it
  pub partial_grows : (z : ℤ) (zs : List ℤ) (d : ℕ) → suc d + length zs ≡ dimension t → T (is_i64 z) → T (all_i64 zs) → ord binary64 (partial t target zs) ≤ ord binary64 (partial t target (z ∷ zs))
  partial_grows z zs d s i a =
      subst (λ (x : Float). ord binary64 (partial t target zs) ≤ ord binary64 x) (sym (partial_step t target z zs d s))
      (add_nonneg binary64 (partial t target zs) (term (weight t d) (center t target d zs) z)
      (partial_nonneg zs (suc d) (omega arith) a) (level_nonneg z zs d s i a)).first

  pub distance_nonneg : (zs : List ℤ) → T (is_vector t zs) → NonNegative binary64 (distance t target zs)
  distance_nonneg zs v = partial_nonneg zs 0 (add-zero (length zs) ∙ vector_length t zs v) (vector_all t zs v)

  module _ (R : Float) (finite : Finite binary64 R) where
    -- ---- strictly below R is admitted
    passes_below : (zs : List ℤ) (d : ℕ) → length zs + d ≡ dimension t → T (all_i64 zs) → ord binary64 (partial t target zs) < ord binary64 R → T (passes t target R zs)
    passes_below [] d e a h = subst T (sym (passes_nil t target R)) tt
    passes_below (z ∷ zs) d e a h =
        let s : suc d + length zs ≡ dimension t = omega arith in
        let i = all_i64_head z zs a in
        let b = all_i64_tail z zs a in
        let n : NonNegative binary64 (partial t target (z ∷ zs)) = partial_nonneg (z ∷ zs) d e a in
        let l : T (lt (partial t target (z ∷ zs)) R) = ord→lt binary64 n.num (number finite) h in
        let first : T (first_test t target R z zs) =
        subst T (sym (first_test_is t target R z zs))
        (subst (λ (x : Float). T (le x (sub binary64 R (partial t target zs)))) (sym (level_is t target z zs d s))
        (remaining_fits binary64 (partial t target zs) (term (weight t d) (center t target d zs) z) R (partial_nonneg zs (suc d) (omega arith) b) (level_nonneg z zs d s i b) finite
        (subst (λ (x : Float). T (lt x R)) (partial_step t target z zs d s) l)))
        in
        let second : T (second_test t target R z zs) = subst T (sym (second_test_is t target R z zs)) (lt→le (partial t target (z ∷ zs)) R l) in
        subst T (sym (passes_cons t target R z zs))
        (and_i (passes t target R zs) (first_test t target R z zs && second_test t target R z zs)
        (passes_below zs (suc d) (omega arith) b (lt_of_le_of_lt (partial_grows z zs d s i b) h))
        (and_i (first_test t target R z zs) (second_test t target R z zs) first second))

    -- a vector is admitted if its computed distance is strictly below R
    pub below_admitted : (zs : List ℤ) → T (is_vector t zs) → T (lt (distance t target zs) R) → T (admitted t target R zs)
    below_admitted zs v l =
        subst T (sym (admitted_is t target R zs))
        (and_i (is_vector t zs) (passes t target R zs) v
        (passes_below zs 0 (add-zero (length zs) ∙ vector_length t zs v) (vector_all t zs v) (lt→ord binary64 (distance_nonneg zs v).num (number finite) l)))

    -- so one that is not admitted has a distance of at least R
    pub not_admitted_beyond : (zs : List ℤ) → T (is_vector t zs) → T (not (admitted t target R zs)) → T (le R (distance t target zs))
    not_admitted_beyond zs v n =
        not_lt→le binary64 (distance_nonneg zs v).num (number finite)
        (not_T (lt (distance t target zs) R) (λ l. T_not (admitted t target R zs) n (below_admitted zs v l)))

    -- ---- admitted is at most R
    module _ (plus : T (not (lt R plus_zero))) where
      pub passes_within : (zs : List ℤ) → T (passes t target R zs) → T (le (partial t target zs) R)
      passes_within [] h = subst (λ (x : Float). T (le x R)) (sym (partial_nil t target)) (not_lt→le binary64 (number finite) (zero_nonneg binary64).num plus)
      passes_within (z ∷ zs) h =
          subst T (second_test_is t target R z zs)
          (and_r (first_test t target R z zs) (second_test t target R z zs)
          (and_r (passes t target R zs) (first_test t target R z zs && second_test t target R z zs) (subst T (passes_cons t target R z zs) h)))

      -- an admitted vector's distance is at most R
      pub admitted_within : (zs : List ℤ) → T (admitted t target R zs) → T (le (distance t target zs) R)
      admitted_within zs h = passes_within zs (and_r (is_vector t zs) (passes t target R zs) (subst T (admitted_is t target R zs) h))

      -- so it has one
      pub admitted_distance : (zs : List ℤ) → T (admitted t target R zs) → T (has_distance t target zs)
      admitted_distance zs h =
          (finite_below (distance_nonneg zs (admitted_vector t target R zs h)) finite (admitted_within zs h)).fin
