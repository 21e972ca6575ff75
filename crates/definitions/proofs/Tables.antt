-- What a table and a target that pass are like. Assumes nothing.
use mathlib.Core.Path.{◌≡◌, refl, subst}
use mathlib.Core.Bool.{Bool, true, false, not, ◌||◌, true≢false}
use mathlib.Core.List.Memᴰ
use mathlib.Core.List.{List, ◌++◌, Memᴰ}
use mathlib.Core.Logic.{⊎_elim}
use Prim.Native.Nat.{ℕ, zero, suc, ◌+◌, ◌*◌, ◌≤◌, ◌<◌}
use native.Mathlib.Nat.{mul-le-mul_right, add-mul, eq-or-lt_of_le}
use native.Mathlib.Omega.{arith}
use borrow.Author.Tests.{ltb-false, eqb-true, not-false}
use lib.Dec.{T, ltb, eqb}
use lib.ListN.{length, get_or}
use lib.Ieee.{Float, nan, binary64, fits, lt}
use lib.Ieee.Scale.{finite}
use Rattle.rounding.proofs.Interface.{Weight, weight_of, held}
use Rattle.definitions.specs.Table.{Table, dimension, weight, entry, coordinate, plus_zero}
use Rattle.definitions.specs.Refusals.{Refusal, table_size, mu_non_finite, mu_range, weight_range, non_finite}
use Rattle.definitions.specs.Checks.{pass, refuse_if, count_from, read_indices, not_finite, beyond_limit, weight_fault, target_fault, table_size_check, mu_non_finite_check, mu_range_check, weight_range_check, target_check}
use Rattle.definitions.proofs.Verdicts.{refuse≢pass, counts, passes_clean, passed}

-- row j lies within n rows of n
pub row_within : (n j : ℕ) → j < n → j * n + j ≤ n * n
row_within n j below =
    let h : (j + 1) * n ≤ n * n = mul-le-mul_right n (omega arith) in
    omega (arith, add-mul j 1 n)

-- a check of two faults that passes
pub neither : (a b : Bool) (e : Refusal) → refuse_if (a || b) e ≡ pass → (a ≡ false) × (b ≡ false)
neither true b e q = absurd (refuse≢pass q)
neither false true e q = absurd (refuse≢pass q)
neither false false e q = (refl, refl)

pub both_false : (a b : Bool) → (a || b) ≡ false → (a ≡ false) × (b ≡ false)
both_false true b e = absurd (true≢false e)
both_false false b e = (refl, e)

-- a double that passes check 5
pub weight_passed : (w : Float) → T (fits binary64 w) → weight_fault w ≡ false → Weight binary64 w
weight_passed w double e =
    let p = both_false (not_finite w) (not (lt plus_zero w)) e in
    weight_of binary64 w double (held (not-false (finite w) p.0)) (held (not-false (lt plus_zero w) p.1))

-- check 2 leaves a square of at most `largest`
pub size_passed : (largest : ℕ) (t : Table) → table_size_check largest t ≡ pass → (dimension t ≤ largest) × (length t.mu ≡ dimension t * dimension t)
size_passed largest t q =
    let square = eqb (length t.mu) (dimension t * dimension t) in
    let clear = neither (ltb largest (dimension t)) (not square) (table_size (dimension t)) q in
    (ltb-false _ _ clear.0, eqb-true _ _ (not-false square clear.1))

-- ---- the entries that are read
-- mu(j, i) is read for every i below j
pub read : (n k j i : ℕ) → i < j → j < k → Memᴰ (j * n + i) (read_indices n k)
unfolding read_indices
read n zero j i left below = absurd (omega arith)
read n (suc k) j i left below =
    let most : j ≤ k = omega arith in
    ⊎_elim
    (λ last. subst (λ (r : ℕ). Memᴰ (j * n + i) (read_indices n k ++ count_from (r * n) r)) last (Memᴰ.append_right (read_indices n k) (counts (j * n) j (j * n + i) (omega arith) (omega arith))))
    (λ earlier. Memᴰ.append_left (count_from (k * n) k) (read n k j i left earlier))
    (eq-or-lt_of_le most)

-- ---- the table

-- what checks 2 to 5 leave
pub record CheckedTable (largest : ℕ) (t : Table) : Type 0 where
  pub small : dimension t ≤ largest
  pub square : length t.mu ≡ dimension t * dimension t
  pub finite_entry : (j i : ℕ) → i < j → j < dimension t → not_finite (entry (dimension t) t.mu j i) ≡ false
  pub within_limit : (j i : ℕ) → i < j → j < dimension t → beyond_limit (entry (dimension t) t.mu j i) ≡ false
  pub weighted : (i : ℕ) → i < dimension t → weight_fault (weight t i) ≡ false

pub table_passed : (largest : ℕ) (t : Table) → table_size_check largest t ≡ pass → mu_non_finite_check t ≡ pass → mu_range_check t ≡ pass → weight_range_check t ≡ pass → CheckedTable largest t
table_passed largest t p2 p3 p4 p5 =
    let n = dimension t in
    let size = size_passed largest t p2 in
    record {
      small = size.0;
      square = size.1;
      finite_entry = λ j i left below. passes_clean (λ k. not_finite (get_or t.mu k nan)) mu_non_finite (read_indices n n) p3 (j * n + i) (read n n j i left below);
      within_limit = λ j i left below. passes_clean (λ k. beyond_limit (get_or t.mu k nan)) mu_range (read_indices n n) p4 (j * n + i) (read n n j i left below);
      weighted = λ i below. passed (λ k. weight_fault (weight t k)) weight_range n p5 i below;
    }

-- what check 7 leaves
pub target_passed : (target : List Float) → target_check target ≡ pass → (i : ℕ) → i < length target → target_fault (coordinate target i) ≡ false
unfolding target_check
target_passed target = passed (λ i. target_fault (coordinate target i)) non_finite (length target)
