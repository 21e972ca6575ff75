-- What is admitted or opened at a radius is so at every radius that is not smaller. So two radii that are equal as numbers admit and open the same. Assumes nothing.
use mathlib.Core.Path.{◌≡◌, refl, sym, ◌∙◌, subst}
use Prim.Native.Nat.{ℕ, suc, ◌+◌, ◌-◌, ◌≤◌}
use native.Mathlib.Nat.{add-zero}
use native.Mathlib.Omega.{arith}
use mathlib.Core.Bool.{Bool, true, false, not, ◌&&◌}
use mathlib.Core.List.{List, [], ◌∷◌}
use lib.Dec.{T, leb, leb→le}
use lib.ListN.{length}
use lib.IntN.{ℤ}
use lib.Ieee.{Float, binary64, le, lt}
use lib.Ieee.Fits.{and_i, and_l, and_r}
use Rattle.rounding.specs.Integers.{is_i64}
use Rattle.rounding.specs.Kinds.{Finite, NonNegative}
use Rattle.rounding.proofs.Interface.{number, float_le_refl, float_le_trans, finite_below, sub_number, sub_mono}
use Rattle.definitions.specs.Table.{Table, dimension, plus_zero}
use Rattle.definitions.specs.Distance.{level_term}
use Rattle.definitions.specs.Admitted.{all_i64, is_vector, is_prefix, first_test, second_test, passes, admitted, passes_first, opened}
use Rattle.definitions.proofs.Distances.{level_is}
use Rattle.definitions.proofs.Admissions.{all_i64_head, all_i64_tail, vector_length, vector_all, prefix_is, first_test_is, second_test_is, passes_nil, passes_cons, admitted_is, passes_first_nil, passes_first_cons, opened_is}
use Rattle.theorems.specs.Answers.{SameAdmitted}
use Rattle.theorems.proofs.Limits.{Limits}
use Rattle.theorems.proofs.Sums.{level_nonneg, partial_nonneg, passes_within}

-- ---- from R to S, which is not smaller
module _ (t : Table) (target : List Float) (limits : Limits t target) (R S : Float) (finite : Finite binary64 R) (plus : T (not (lt R plus_zero))) (finite' : Finite binary64 S) (wider : T (le R S)) where
  first_wider : (z : ℤ) (zs : List ℤ) (d : ℕ) → suc d + length zs ≡ dimension t → T (is_i64 z) → T (all_i64 zs) → T (passes t target R zs) → T (first_test t target R z zs) → T (first_test t target S z zs)
  first_wider z zs d s i a p h =
      let sum = finite_below (partial_nonneg t target limits zs (suc d) (omega arith) a) finite (passes_within t target limits R finite plus zs p) in
      let own : NonNegative binary64 (level_term t target z zs) = subst (NonNegative binary64) (sym (level_is t target z zs d s)) (level_nonneg t target limits z zs d s i a) in
      rw (first_test_is t target S z zs)
      (float_le_trans binary64 own.num (sub_number finite sum) (sub_number finite' sum) (rw (first_test_is t target R z zs) at h)
      (sub_mono finite sum finite' sum wider (float_le_refl binary64 (number sum))))

  second_wider : (z : ℤ) (zs : List ℤ) (d : ℕ) → suc d + length zs ≡ dimension t → T (all_i64 (z ∷ zs)) → T (second_test t target R z zs) → T (second_test t target S z zs)
  second_wider z zs d s a h =
      rw (second_test_is t target S z zs)
      (float_le_trans binary64 (partial_nonneg t target limits (z ∷ zs) d (omega arith) a).num (number finite) (number finite') (rw (second_test_is t target R z zs) at h) wider)

  passes_wider : (zs : List ℤ) (d : ℕ) → length zs + d ≡ dimension t → T (all_i64 zs) → T (passes t target R zs) → T (passes t target S zs)
  passes_wider [] d e a h = subst T (sym (passes_nil t target S)) tt
  passes_wider (z ∷ zs) d e a h =
      let s : suc d + length zs ≡ dimension t = omega arith in
      let both = subst T (passes_cons t target R z zs) h in
      let above = and_l (passes t target R zs) (first_test t target R z zs && second_test t target R z zs) both in
      let here = and_r (passes t target R zs) (first_test t target R z zs && second_test t target R z zs) both in
      subst T (sym (passes_cons t target S z zs))
      (and_i (passes t target S zs) (first_test t target S z zs && second_test t target S z zs)
      (passes_wider zs (suc d) (omega arith) (all_i64_tail z zs a) above)
      (and_i (first_test t target S z zs) (second_test t target S z zs)
      (first_wider z zs d s (all_i64_head z zs a) (all_i64_tail z zs a) above (and_l (first_test t target R z zs) (second_test t target R z zs) here))
      (second_wider z zs d s a (and_r (first_test t target R z zs) (second_test t target R z zs) here))))

  pub admitted_wider : (zs : List ℤ) → T (admitted t target R zs) → T (admitted t target S zs)
  admitted_wider zs h =
      let both = subst T (admitted_is t target R zs) h in
      let v = and_l (is_vector t zs) (passes t target R zs) both in
      subst T (sym (admitted_is t target S zs))
      (and_i (is_vector t zs) (passes t target S zs) v
      (passes_wider zs 0 (add-zero (length zs) ∙ vector_length t zs v) (vector_all t zs v) (and_r (is_vector t zs) (passes t target R zs) both)))

  pub opened_wider : (zs : List ℤ) → T (opened t target R zs) → T (opened t target S zs)
  opened_wider [] h = absurd (subst T (passes_first_nil t target R) (and_r (is_prefix t []) (passes_first t target R []) (subst T (opened_is t target R []) h)))
  opened_wider (z ∷ zs) h =
      let both = subst T (opened_is t target R (z ∷ zs)) h in
      let prefix = and_l (is_prefix t (z ∷ zs)) (passes_first t target R (z ∷ zs)) both in
      let tests = subst T (passes_first_cons t target R z zs) (and_r (is_prefix t (z ∷ zs)) (passes_first t target R (z ∷ zs)) both) in
      let lengths = and_l (leb 1 (length (z ∷ zs)) && leb (length (z ∷ zs)) (dimension t)) (all_i64 (z ∷ zs)) (subst T (prefix_is t (z ∷ zs)) prefix) in
      let a = and_r (leb 1 (length (z ∷ zs)) && leb (length (z ∷ zs)) (dimension t)) (all_i64 (z ∷ zs)) (subst T (prefix_is t (z ∷ zs)) prefix) in
      let few = leb→le (length (z ∷ zs)) (dimension t) (and_r (leb 1 (length (z ∷ zs))) (leb (length (z ∷ zs)) (dimension t)) lengths) in
      let d = left (length zs) (dimension t) few in
      let above = and_l (passes t target R zs) (first_test t target R z zs) tests in
      subst T (sym (opened_is t target S (z ∷ zs)))
      (and_i (is_prefix t (z ∷ zs)) (passes_first t target S (z ∷ zs)) prefix
      (subst T (sym (passes_first_cons t target S z zs))
      (and_i (passes t target S zs) (first_test t target S z zs)
      (passes_wider zs (suc d.0) (omega (arith, d.1)) (all_i64_tail z zs a) above)
      (first_wider z zs d.0 (omega (arith, d.1)) (all_i64_head z zs a) (all_i64_tail z zs a) above (and_r (passes t target R zs) (first_test t target R z zs) tests)))))
    where
      -- the levels below the prefix
      left : (k n : ℕ) → suc k ≤ n → (d : ℕ) × (suc d + k ≡ n)
      left k n h = (n - suc k, omega arith)

-- ---- both ways
same_test : (a b : Bool) → (T a → T b) → (T b → T a) → a ≡ b
same_test true true f g = refl
same_test true false f g = absurd (f tt)
same_test false true f g = absurd (g tt)
same_test false false f g = refl

pub same_admitted : (t : Table) (target : List Float) → Limits t target → (R S : Float) → Finite binary64 R → T (not (lt R plus_zero)) → Finite binary64 S → T (not (lt S plus_zero)) → T (le R S) → T (le S R) → SameAdmitted t target R S
same_admitted t target limits R S finite plus finite' plus' wider back =
    record {
      admits = λ z. same_test (admitted t target R z) (admitted t target S z) (admitted_wider t target limits R S finite plus finite' wider z) (admitted_wider t target limits S R finite' plus' finite back z);
      opens = λ zs. same_test (opened t target R zs) (opened t target S zs) (opened_wider t target limits R S finite plus finite' wider zs) (opened_wider t target limits S R finite' plus' finite back zs);
    }
