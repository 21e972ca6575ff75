-- The matrices, the target and the point in the other coordinates, and the call that uses them, equation by equation. Assumes nothing.
use mathlib.Core.Path.{◌≡◌, refl, sym, ap, ◌∙◌}
use mathlib.Core.Bool.{Bool, true, false, not, ◌&&◌, false≢true}
use mathlib.Core.List.{List, [], ◌∷◌, ◌++◌}
use mathlib.Core.Logic.{⊎_elim}
use Prim.Native.Nat.{ℕ, zero, suc, ◌+◌, ◌*◌, ◌^◌, ◌≤◌, ◌<◌}
use native.Mathlib.Nat.{eq-or-lt_of_le}
use native.Mathlib.Omega.{arith}
use borrow.Author.Tests.{leb-true, le-leb, ltb-false, eqb-true, eq-eqb, ne_eqb, not-false}
use lib.Dec.{eqb, leb}
use lib.ListN.{length, get_or}
use lib.IntN.{ℤ, pos, negsuc, nat_abs}
use lib.Ieee.{Float, nan, binary64, add, mul}
use Rattle.rounding.specs.Integers.{is_i64, to_double}
use Rattle.lists.specs.All.{All, none, more}
use Rattle.definitions.specs.Table.{Table, dimension, coordinate, plus_zero, largest_dimension}
use Rattle.definitions.specs.Refusals.{Refusal, matrix_range, not_inverse, mapped_range}
use Rattle.definitions.specs.Checks.{Verdict, pass, refuse, first_refusal, refuse_if, refuse_at_first, count_from, table_checks}
use Rattle.definitions.specs.Calls.{Answer, found, refused, after, NearestPoint, target_checks, ml_radius, widened_search}
use Rattle.definitions.specs.Prepared.{element, each_below, same_integer, product_element, identity_element, is_identity, element_fault, matrix_length_check, transform_range_check, inverse_range_check, inverse_check, matrix_checks, transformed_sum, transformed_target, mapped_coordinate, mapped_point, mapped_range_check, given_checks, transformed_checks, transformed_of, prepared_checks, checks_of_prepared, mapped_answer, prepared_nearest_ml}
use Rattle.definitions.proofs.Verdicts.{or_else, first_append, first_cons, append_passes, passed}
use Rattle.definitions.proofs.Tables.{CheckedTable, neither}
use Rattle.definitions.proofs.Passed.{all_passed, length_passed, table_checked}
use Rattle.definitions.proofs.Counted.{counted_length, counted_at, counted_is}
use Rattle.definitions.proofs.Answers.{after_pass, after_refuse}

-- ---- tests of each number
each_none : (test : ℕ → Bool) → each_below 0 test ≡ true
unfolding each_below
each_none test = refl

each_next : (k : ℕ) (test : ℕ → Bool) → each_below (suc k) test ≡ (each_below k test && test k)
unfolding each_below
each_next k test = refl

-- all pass
pub each_passes : (n : ℕ) (test : ℕ → Bool) → ((k : ℕ) → k < n → test k ≡ true) → each_below n test ≡ true
each_passes zero test h = each_none test
each_passes (suc n) test h = each_next n test ∙ simp (each_passes n test (λ k below. h k (omega arith)), h n (omega arith))

-- one fails
pub each_fails : (n k : ℕ) (test : ℕ → Bool) → k < n → test k ≡ false → each_below n test ≡ false
each_fails zero k test below h = absurd (omega arith)
each_fails (suc n) k test below h =
    let most : k ≤ n = omega arith in
    each_next n test
    ∙ ⊎_elim (λ same. last (each_below n test) (ap test (sym same) ∙ h)) (λ less. ap (λ (b : Bool). b && test n) (each_fails n k test less h)) (eq-or-lt_of_le most)
  where
    last : (b : Bool) → test n ≡ false → (b && test n) ≡ false
    last true e = e
    last false e = refl

both_true : (a b : Bool) → (a && b) ≡ true → (a ≡ true) × (b ≡ true)
both_true true b e = (refl, e)
both_true false b e = absurd (false≢true e)

-- what all passing says of each
pub each_passed : (n : ℕ) (test : ℕ → Bool) → each_below n test ≡ true → (k : ℕ) → k < n → test k ≡ true
each_passed zero test h k below = absurd (omega arith)
each_passed (suc n) test h k below =
    let b = both_true (each_below n test) (test n) (sym (each_next n test) ∙ h) in
    let most : k ≤ n = omega arith in
    ⊎_elim (λ same. ap test same ∙ b.1) (λ less. each_passed n test b.0 k less) (eq-or-lt_of_le most)

-- ---- the same integer
pub same_integer_lem : (x y : ℤ) → same_integer x y ≡ true → x ≡ y
same_integer_lem (pos a) (pos b) e = let l = both_true (leb a b) (leb b a) e in ap pos (omega (arith, leb-true a b l.0, leb-true b a l.1))
same_integer_lem (pos a) (negsuc b) e = absurd (false≢true e)
same_integer_lem (negsuc a) (pos b) e = absurd (false≢true e)
same_integer_lem (negsuc a) (negsuc b) e = let l = both_true (leb b a) (leb a b) e in ap negsuc (omega (arith, leb-true b a l.0, leb-true a b l.1))

pub integer_same : (x : ℤ) → same_integer x x ≡ true
integer_same (pos a) = simp (le-leb a a (omega arith))
integer_same (negsuc a) = simp (le-leb a a (omega arith))

-- ---- the matrices
module _ (n : ℕ) (a b : List ℤ) where
  pub identity_is : is_identity n a b ≡ each_below n (λ row. each_below n (λ column. same_integer (product_element n a b row column) (identity_element row column)))
  unfolding is_identity
  identity_is = refl

module _ (n : ℕ) (transform inverse : List ℤ) where
  pub inverse_check_is : inverse_check n transform inverse ≡ refuse_if (not (is_identity n transform inverse && is_identity n inverse transform)) not_inverse
  unfolding inverse_check
  inverse_check_is = refl

  pub matrix_checks_are : matrix_checks n transform inverse ≡ (matrix_length_check n transform inverse ∷ transform_range_check n transform ∷ inverse_range_check n inverse ∷ inverse_check n transform inverse ∷ [])
  unfolding matrix_checks
  matrix_checks_are = refl

  -- 22 of the lengths, then the checks that are left
  pub transform_length_refused : (length transform ≡ n * n → ⊥) → first_refusal (matrix_checks n transform inverse) ≡ refuse (matrix_range 0)
  transform_length_refused other = ap first_refusal matrix_checks_are ∙ first_cons (matrix_length_check n transform inverse) _ ∙ simp (ne_eqb (length transform) (n * n) other)

  module _ (transform_long : length transform ≡ n * n) where
    pub inverse_length_refused : (length inverse ≡ n * n → ⊥) → first_refusal (matrix_checks n transform inverse) ≡ refuse (matrix_range 0)
    inverse_length_refused other = ap first_refusal matrix_checks_are ∙ first_cons (matrix_length_check n transform inverse) _ ∙ simp (eq-eqb (length transform) (n * n) transform_long, ne_eqb (length inverse) (n * n) other)

    pub lengths_passed : length inverse ≡ n * n → first_refusal (matrix_checks n transform inverse) ≡ first_refusal (transform_range_check n transform ∷ inverse_range_check n inverse ∷ inverse_check n transform inverse ∷ [])
    lengths_passed inverse_long = ap first_refusal matrix_checks_are ∙ first_cons (matrix_length_check n transform inverse) _ ∙ simp (eq-eqb (length transform) (n * n) transform_long, eq-eqb (length inverse) (n * n) inverse_long)

-- what 22 of a matrix's elements leaves where it passes
pub range_passed : (matrix : List ℤ) (e : ℕ → Refusal) (size : ℕ) → refuse_at_first (λ k. element_fault (get_or matrix k (pos 0))) e (count_from 0 size) ≡ pass → (k : ℕ) → k < size → nat_abs (get_or matrix k (pos 0)) ≤ 2 ^ 52
range_passed matrix e size q k below = ltb-false (2 ^ 52) (nat_abs (get_or matrix k (pos 0))) (passed (λ j. element_fault (get_or matrix j (pos 0))) e size q k below)

-- and 22 of the lengths
pub square_passed : (n : ℕ) (transform inverse : List ℤ) → matrix_length_check n transform inverse ≡ pass → (length transform ≡ n * n) × (length inverse ≡ n * n)
square_passed n transform inverse q =
    let lengths = both_true (eqb (length transform) (n * n)) (eqb (length inverse) (n * n)) (not-false _ (neither false _ (matrix_range 0) q).1) in
    (eqb-true (length transform) (n * n) lengths.0, eqb-true (length inverse) (n * n) lengths.1)

-- what 22 leaves of both: their lengths, and that no element is above 2^52 in magnitude
pub record MatricesPassed (n : ℕ) (transform inverse : List ℤ) : Type 0 where
  pub transform_length : length transform ≡ n * n
  pub inverse_length : length inverse ≡ n * n
  pub transform_bounded : (k : ℕ) → k < n * n → nat_abs (get_or transform k (pos 0)) ≤ 2 ^ 52
  pub inverse_bounded : (k : ℕ) → k < n * n → nat_abs (get_or inverse k (pos 0)) ≤ 2 ^ 52

pub matrices_passed : (n : ℕ) (transform inverse : List ℤ) → first_refusal (matrix_checks n transform inverse) ≡ pass → MatricesPassed n transform inverse
unfolding matrix_checks
matrices_passed n transform inverse q = go (all_passed (matrix_checks n transform inverse) q)
  where
    go : All (λ (v : Verdict). v ≡ pass) (matrix_checks n transform inverse) → MatricesPassed n transform inverse
    go (more p (more p22 (more p22' (more p23 none)))) =
        let long = square_passed n transform inverse p in
        record {
          transform_length = long.0;
          inverse_length = long.1;
          transform_bounded = range_passed transform matrix_range (n * n) p22;
          inverse_bounded = range_passed inverse (λ k. matrix_range (n * n + k)) (n * n) p22';
        }

-- ---- the transformed target
module _ (n : ℕ) (inverse : List ℤ) (target : List Float) where
  pub transformed_none : (column : ℕ) → transformed_sum n inverse target column 0 ≡ plus_zero
  unfolding transformed_sum
  transformed_none column = refl

  pub transformed_next : (column row : ℕ) → transformed_sum n inverse target column (suc row) ≡ add binary64 (transformed_sum n inverse target column row) (mul binary64 (coordinate target row) (to_double (element n inverse row column)))
  unfolding transformed_sum
  transformed_next column row = refl

  pub transformed_length : length (transformed_target n inverse target) ≡ n
  unfolding transformed_target
  transformed_length = counted_length (λ column. transformed_sum n inverse target column n) n

  pub transformed_at : (k : ℕ) → k < n → coordinate (transformed_target n inverse target) k ≡ transformed_sum n inverse target k n
  unfolding transformed_target
  transformed_at = counted_at (λ column. transformed_sum n inverse target column n) nan n

  pub transformed_is : (b : List Float) → length b ≡ n → ((k : ℕ) → k < n → coordinate b k ≡ transformed_sum n inverse target k n) → b ≡ transformed_target n inverse target
  unfolding transformed_target
  transformed_is = counted_is (λ column. transformed_sum n inverse target column n) nan n

-- ---- the mapped point
module _ (n : ℕ) (matrix point : List ℤ) where
  pub mapped_length : length (mapped_point n matrix point) ≡ n
  unfolding mapped_point
  mapped_length = counted_length (mapped_coordinate n matrix point) n

  pub mapped_at : (k : ℕ) → k < n → get_or (mapped_point n matrix point) k (pos 0) ≡ mapped_coordinate n matrix point k
  unfolding mapped_point
  mapped_at = counted_at (mapped_coordinate n matrix point) (pos 0) n

  pub mapped_is : (b : List ℤ) → length b ≡ n → ((k : ℕ) → k < n → get_or b k (pos 0) ≡ mapped_coordinate n matrix point k) → b ≡ mapped_point n matrix point
  unfolding mapped_point
  mapped_is = counted_is (mapped_coordinate n matrix point) (pos 0) n

  pub mapped_range_is : mapped_range_check n matrix point ≡ refuse_at_first (λ column. not (is_i64 (mapped_coordinate n matrix point column))) mapped_range (count_from 0 n)
  unfolding mapped_range_check
  mapped_range_is = refl

-- a point found, in the receiver's coordinates
abbrev pub mapped_found : ℕ → List ℤ → NearestPoint → NearestPoint
mapped_found n transform a = record { nodes = a.nodes; distance = a.distance; point = mapped_point n transform a.point }

module _ (n : ℕ) (transform : List ℤ) where
  pub map_refused : (e : Refusal) → mapped_answer n transform (refused e) ≡ refused e
  unfolding mapped_answer
  map_refused e = refl

  pub map_found : (a : NearestPoint) → mapped_answer n transform (found a) ≡ after (mapped_range_check n transform a.point) (found (mapped_found n transform a))
  unfolding mapped_answer
  map_found a = refl

  pub map_after : (v : Verdict) (a : Answer NearestPoint) → mapped_answer n transform (after v a) ≡ after v (mapped_answer n transform a)
  map_after pass a = ap (mapped_answer n transform) (after_pass pass a refl) ∙ sym (after_pass pass (mapped_answer n transform a) refl)
  map_after (refuse e) a = ap (mapped_answer n transform) (after_refuse (refuse e) a e refl) ∙ map_refused e ∙ sym (after_refuse (refuse e) (mapped_answer n transform a) e refl)

-- ---- the call
-- what the checks before the target is transformed leave where they pass
pub record GivenPassed (largest : ℕ) (t : Table) (transform inverse : List ℤ) (target : List Float) (out : List ℤ) : Type 0 where
  pub checked : CheckedTable largest t
  pub matrices : MatricesPassed (dimension t) transform inverse
  pub target_length : length target ≡ dimension t
  pub output_length : length out ≡ dimension t

pub given_passed : (largest : ℕ) (t : Table) (transform inverse : List ℤ) (target : List Float) (out : List ℤ) → first_refusal (given_checks largest t transform inverse target out) ≡ pass → GivenPassed largest t transform inverse target out
given_passed largest t transform inverse target out q =
    let before = append_passes (table_checks largest t ++ matrix_checks (dimension t) transform inverse) (target_checks (dimension t) target out) q in
    let tables = append_passes (table_checks largest t) (matrix_checks (dimension t) transform inverse) before.0 in
    go (table_checked largest t tables.0) (matrices_passed (dimension t) transform inverse tables.1) (all_passed (target_checks (dimension t) target out) before.1)
  where
    go : CheckedTable largest t → MatricesPassed (dimension t) transform inverse → All (λ (v : Verdict). v ≡ pass) (target_checks (dimension t) target out) → GivenPassed largest t transform inverse target out
    go checked matrices (more a (more b (more p7 none))) =
        record { checked = checked; matrices = matrices; target_length = sym (length_passed (dimension t) (length target) a); output_length = sym (length_passed (dimension t) (length out) b) }

module _ (t : Table) (transform inverse : List ℤ) (target : List Float) (out : List ℤ) (budget : ℕ) where
  abbrev n : ℕ
  n = dimension t

  abbrev x : List Float
  x = transformed_of t inverse target

  abbrev search : Answer NearestPoint
  search = widened_search t x (ml_radius t x) budget

  abbrev given : Verdict
  given = first_refusal (given_checks largest_dimension t transform inverse target out)

  pub prepared_checks_are : prepared_checks largest_dimension t transform inverse target out budget ≡ first_refusal (checks_of_prepared largest_dimension t transform inverse target out budget)
  unfolding prepared_checks
  prepared_checks_are = refl

  pub prepared_is : prepared_nearest_ml t transform inverse target out budget ≡ after (prepared_checks largest_dimension t transform inverse target out budget) (mapped_answer n transform search)
  unfolding prepared_nearest_ml
  prepared_is = refl

  -- cut where the code transforms the target
  prepared_cut : prepared_checks largest_dimension t transform inverse target out budget ≡ or_else given (first_refusal (transformed_checks t x budget))
  prepared_cut = prepared_checks_are ∙ first_append (given_checks largest_dimension t transform inverse target out) (transformed_checks t x budget)

  pub prepared_refused : (e : Refusal) → given ≡ refuse e → prepared_nearest_ml t transform inverse target out budget ≡ refused e
  prepared_refused e q = prepared_is ∙ after_refuse (prepared_checks largest_dimension t transform inverse target out budget) (mapped_answer n transform search) e (prepared_cut ∙ ap (λ (v : Verdict). or_else v (first_refusal (transformed_checks t x budget))) q)

  -- after the given checks the others decide, and then the search's point is mapped
  pub prepared_passed : given ≡ pass → prepared_nearest_ml t transform inverse target out budget ≡ after (first_refusal (transformed_checks t x budget)) (mapped_answer n transform search)
  prepared_passed q = prepared_is ∙ ap (λ (v : Verdict). after v (mapped_answer n transform search)) (prepared_cut ∙ ap (λ (v : Verdict). or_else v (first_refusal (transformed_checks t x budget))) q)
