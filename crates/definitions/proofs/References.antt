-- A change of the reference satellite, coordinate by coordinate: where it is accepted, and what it leaves in the point. Assumes nothing.
use mathlib.Core.Path.{◌≡◌, refl, sym, ap, ◌∙◌}
use mathlib.Core.Bool.{Bool, true, false, not}
use mathlib.Core.List.{List, [], ◌∷◌}
use Prim.Native.Nat.{ℕ, ◌<◌, ◌≤◌}
use native.Mathlib.Omega.{arith}
use borrow.Author.Tests.{ltb-true, lt-ltb, le-ltb, not-false}
use lib.Dec.{ltb}
use lib.ListN.{length}
use lib.IntN.{ℤ, pos}
use Rattle.rounding.specs.Integers.{is_i64}
use Rattle.lists.specs.All.{All, none, more}
use Rattle.definitions.specs.Refusals.{Refusal, reference_index, changed_range}
use Rattle.definitions.specs.Checks.{Verdict, pass, refuse, first_refusal, refuse_if, count_from}
use Rattle.definitions.specs.Reference.{cycles, changed, changed_point, changed_fault, reference_index_check, changed_range_check, checks_of_change, change_reference, change_output, Accepted}
use Rattle.definitions.proofs.Counted.{counted_length, counted_at, counted_is}
use Rattle.definitions.proofs.Verdicts.{or_else, refuse≢pass, counts, passes_clean, no_fault, first_cons, first_alone}
use Rattle.definitions.proofs.Passed.{all_passed}

module _ (a : List ℤ) (r : ℕ) where
  pub changed_length : length (changed_point a r) ≡ length a
  unfolding changed_point
  changed_length = counted_length (changed a r) (length a)

  pub changed_at : (k : ℕ) → k < length a → cycles (changed_point a r) k ≡ changed a r k
  unfolding changed_point
  changed_at = counted_at (changed a r) (pos 0) (length a)

  -- a point with these coordinates
  pub point_changed : (b : List ℤ) → length b ≡ length a → ((k : ℕ) → k < length a → cycles b k ≡ changed a r k) → b ≡ changed_point a r
  unfolding changed_point
  point_changed = counted_is (changed a r) (pos 0) (length a)

  -- ---- the answer
  pub change_is : change_reference a r ≡ first_refusal (checks_of_change a r)
  unfolding change_reference
  change_is = refl

  by_index : (t : Bool) → ltb r (length a) ≡ t → first_refusal (checks_of_change a r) ≡ or_else (refuse_if (not t) reference_index) (changed_range_check a r)
  by_index t e =
      first_cons (reference_index_check a r) (changed_range_check a r ∷ [])
      ∙ ap (or_else (reference_index_check a r)) (first_alone (changed_range_check a r))
      ∙ ap (λ (x : Bool). or_else (refuse_if (not x) reference_index) (changed_range_check a r)) e

  pub index_outside : length a ≤ r → first_refusal (checks_of_change a r) ≡ refuse reference_index
  index_outside h = by_index false (le-ltb r (length a) h)

  pub index_inside : r < length a → first_refusal (checks_of_change a r) ≡ changed_range_check a r
  index_inside h = by_index true (lt-ltb r (length a) h)

  pub change_written : (v : Verdict) → v ≡ pass → change_output v a r ≡ changed_point a r
  unfolding change_output
  change_written pass q = refl
  change_written (refuse e) q = absurd (refuse≢pass q)

  pub change_refused : (v : Verdict) {e : Refusal} → v ≡ refuse e → change_output v a r ≡ a
  unfolding change_output
  change_refused pass q = absurd (refuse≢pass (sym q))
  change_refused (refuse e) q = refl

  -- ---- where a change is accepted
  pub change_accepted : change_reference a r ≡ pass → Accepted a r
  change_accepted q = go (all_passed (checks_of_change a r) (sym change_is ∙ q))
    where
      go : All (λ (v : Verdict). v ≡ pass) (checks_of_change a r) → Accepted a r
      go (more p19 (more p20 none)) = record {
        index = ltb-true r (length a) (index_passed (ltb r (length a)) p19);
        inside = λ k below. not-false (is_i64 (changed a r k)) (passes_clean (changed_fault a r) changed_range (count_from 0 (length a)) p20 k (counts 0 (length a) k (omega arith) (omega arith)));
      }
        where
          index_passed : (b : Bool) → refuse_if (not b) reference_index ≡ pass → b ≡ true
          index_passed true q = refl
          index_passed false q = absurd (refuse≢pass q)

  pub accepted_change : Accepted a r → change_reference a r ≡ pass
  accepted_change t =
      change_is
      ∙ index_inside t.index
      ∙ no_fault (changed_fault a r) changed_range (length a) (λ k below. ap not (t.inside k below))
