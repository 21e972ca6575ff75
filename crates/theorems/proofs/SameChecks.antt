-- The checks of a table look at its weights, at mu's length and at the entries that are read: they are the same of tables that have these the same. Assumes nothing.
use mathlib.Core.Path.{◌≡◌, refl, ap, subst}
use mathlib.Core.Bool.{Bool, not, ◌||◌, cond}
use mathlib.Core.List.{List, [], ◌∷◌}
use Prim.Native.Nat.{ℕ, zero, suc, ◌+◌, ◌*◌, ◌<◌}
use native.Mathlib.Omega.{arith}
use lib.Dec.{ltb, eqb}
use lib.ListN.{get_or}
use lib.Ieee.{Float, nan}
use Rattle.lists.specs.All.{All, none, more}
use Rattle.lists.proofs.Each.{all_append}
use Rattle.definitions.specs.Table.{Table, table, dimension}
use Rattle.definitions.specs.Refusals.{Refusal, table_size, mu_non_finite, mu_range}
use Rattle.definitions.specs.Checks.{refuse, refuse_if, refuse_at_first, count_from, read_indices, not_finite, beyond_limit, weight_range_check, table_checks}
use Rattle.theorems.specs.SameRead.{SameRead}

-- ---- what holds of every entry that is read
module _ {P : ℕ → Type 0} where
  all_counted : (first k : ℕ) → ((i : ℕ) → i < k → P (first + i)) → All P (count_from first k)
  unfolding count_from
  all_counted first zero h = none
  all_counted first (suc k) h =
      let here : first + 0 ≡ first = omega arith in
      more (subst P here (h 0 (omega arith)))
      (all_counted (suc first) k λ i below. let there : first + suc i ≡ suc first + i = omega arith in subst P there (h (suc i) (omega arith)))

  all_read : (n rows : ℕ) → ((j i : ℕ) → i < j → j < rows → P (j * n + i)) → All P (read_indices n rows)
  unfolding read_indices
  all_read n zero h = none
  all_read n (suc j) h =
      all_append (all_read n j λ j' i left below. h j' i left (omega arith)) (all_counted (j * n) j λ i left. h j i left (omega arith))

-- ---- the checks
same_first : (fault fault' : ℕ → Bool) (e : ℕ → Refusal) {is : List ℕ} → All (λ (i : ℕ). fault i ≡ fault' i) is → refuse_at_first fault e is ≡ refuse_at_first fault' e is
unfolding refuse_at_first
same_first fault fault' e none = refl
same_first fault fault' e (more {x = i} p a) = λ k. cond (p k) (refuse (e i)) (same_first fault fault' e a k)

module _ (t : Table) (mu' : List Float) (same : SameRead t (table t.weights mu')) where
  abbrev n : ℕ
  n = dimension t

  same_entry_check : (fault : Float → Bool) (e : ℕ → Refusal) → refuse_at_first (λ i. fault (get_or t.mu i nan)) e (read_indices n n) ≡ refuse_at_first (λ i. fault (get_or mu' i nan)) e (read_indices n n)
  same_entry_check fault e = same_first _ _ e (all_read n n λ j i left below. ap fault (same.entries j i left below))

  pub same_table_checks : (largest : ℕ) → table_checks largest t ≡ table_checks largest (table t.weights mu')
  unfolding table_checks
  same_table_checks largest = λ k.
      refuse_if (ltb largest n || not (eqb (same.mu_length k) (n * n))) (table_size n)
      ∷ same_entry_check not_finite mu_non_finite k
      ∷ same_entry_check beyond_limit mu_range k
      ∷ weight_range_check t
      ∷ []
