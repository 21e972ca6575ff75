-- Once the checks have passed, what a list walk finds has n coordinates and a distance that is not negative. Assumes nothing.
use mathlib.Core.Path.{◌≡◌, sym, ◌∙◌, subst}
use mathlib.Core.List.{List}
use mathlib.Core.Bool.{false}
use mathlib.Core.Logic.{inl, inr}
use Prim.Native.Nat.{ℕ, ◌<◌}
use lib.Dec.{T}
use lib.ListN.{length}
use lib.IntN.{ℤ}
use lib.Ieee.{Float, binary64, fits}
use Rattle.rounding.proofs.Interface.{Weight}
use Rattle.definitions.specs.Table.{Table, dimension, weight, largest_searched}
use Rattle.definitions.specs.Walk.{ended}
use Rattle.definitions.specs.Listing.{ListPoint}
use Rattle.definitions.specs.Running.{list_search}
use Rattle.definitions.specs.Checks.{handed_on, weight_fault}
use Rattle.definitions.specs.Calls.{found, ListAnswer, end_of_list, list_checks, list}
use Rattle.definitions.proofs.Tables.{weight_passed}
use Rattle.definitions.proofs.Passed.{list_passed}
use Rattle.definitions.proofs.Answers.{found_passed, by_dimension, list_search_small, list_search_large, list_walked, list_is}
use Rattle.definitions.proofs.ListedOrder.{Listed}
use Rattle.definitions.proofs.WalkLeaves.{list_walk_keeps, running_list_keeps}
use Rattle.lists.specs.All.{All, none, more}
use Rattle.lists.proofs.Permutations.{all_kept}
use Rattle.sorting.proofs.Sorted.{sorted_keeps}

module _ (t : Table) (doubles : (i : ℕ) → T (fits binary64 (weight t i))) where
  -- the points that a list walk found, over weights that have passed their check
  pub found_listed : ((i : ℕ) → i < dimension t → weight_fault (weight t i) ≡ false) → (target : List Float) (R : Float) (budget : ℕ) (ps : List ListPoint) (S : Float) (m : ℕ) → list_search t target R budget ≡ ended ps S m → All (Listed (dimension t)) ps
  found_listed weighted target R budget ps S m e = elim (by_dimension t) [
    | inl small ↦ list_walk_keeps (All (Listed (dimension t))) t target R budget weights none (λ p qs. more) ps S m (sym (list_search_small t target R budget small) ∙ e)
    | inr large ↦ running_list_keeps (All (Listed (dimension t))) t target R budget weights none (λ p qs. more) ps S m (sym (list_search_large t target R budget large) ∙ e)
  ]
    where
      weights : (i : ℕ) → i < dimension t → Weight binary64 (weight t i)
      weights i h = weight_passed (weight t i) (doubles i) (weighted i h)

  -- the same of the points that the call gives
  pub call_listed : (target distances : List Float) (points : List ℤ) (R : Float) (budget : ℕ) (a : ListAnswer) → list t target distances points R budget ≡ found a → All (Listed (dimension t)) a.points
  call_listed target distances points R budget a e =
      let p = found_passed (list_checks largest_searched t target distances points R budget) (end_of_list (length distances) (list_search t target (handed_on R) budget)) a (sym (list_is t target distances points R budget) ∙ e) in
      let w = list_walked (length distances) (list_search t target (handed_on R) budget) a p.1 in
      subst (All (Listed (dimension t))) (sym w.3) (all_kept (sorted_keeps w.0) (found_listed (list_passed largest_searched t target distances points R budget p.0).checked.weighted target (handed_on R) budget w.0 w.1 a.nodes w.2))
