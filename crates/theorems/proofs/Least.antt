-- The theorem of `nearest`: a walk that ends with a best has a vector than which none is closer; it ends with none if and only if no vector is admitted and the budget has a node for every opened prefix; and with such a budget it does not end by 15. Assumes nothing.
use mathlib.Core.Path.{◌≡◌, refl, sym, ap, ◌∙◌, subst}
use mathlib.Core.Logic.{◌↔◌}
use Prim.Native.Nat.{ℕ, ◌≤◌}
use native.Mathlib.Nat.{le_refl, le_trans, le_of_eq, zero-add, add-zero, not-le_of_lt, suc-ne-zero}
use mathlib.Core.Bool.{not}
use mathlib.Core.List.{List, []}
use lib.Dec.{T, not_T}
use lib.ListN.{length}
use lib.IntN.{ℤ}
use lib.Ieee.{Float, binary64, lt}
use lib.Ieee.Fits.{and_i}
use Rattle.rounding.specs.Kinds.{Number, Finite}
use Rattle.rounding.proofs.Interface.{number, zero_nonneg, ord, le→ord, lt→ord}
use Rattle.definitions.specs.Table.{Table, dimension, plus_zero}
use Rattle.definitions.specs.Distance.{center, distance}
use Rattle.definitions.specs.Admitted.{all_i64, is_vector, passes, admitted}
use Rattle.definitions.specs.Walk.{ended, exhausted, still}
use Rattle.definitions.specs.Nearest.{Best, no_best, best, nearest_walk}
use Rattle.definitions.proofs.Distances.{partial_nil}
use Rattle.definitions.proofs.Admissions.{all_i64_nil, vector_length, vector_all, passes_nil, admitted_is}
use Rattle.theorems.specs.Counting.{count}
use Rattle.theorems.specs.Unbudgeted.{Progress, walk_all, nearer, nearest_all}
use Rattle.theorems.specs.Prefixes.{opened_prefixes, admitted_vectors}
use Rattle.theorems.specs.Answers.{Nearest}
use Rattle.theorems.proofs.Booleans.{of_true, tally_true}
use Rattle.theorems.proofs.Limits.{Limits}
use Rattle.theorems.proofs.Sums.{distance_nonneg, passes_within}
use Rattle.theorems.proofs.Paths.{extend, extend_length, path_to}
use Rattle.theorems.proofs.Prefixes.{admitted_once}
use Rattle.theorems.proofs.Covered.{Covered, covered_all}
use Rattle.theorems.proofs.Search.{Held, Through, walk_through}
use Rattle.theorems.proofs.Budget.{agrees_ended, agrees_exhausted, agrees_enough, nearest_agrees}

module _ (t : Table) (target : List Float) (limits : Limits t target) (R : Float) (finite : Finite binary64 R) (plus : T (not (lt R plus_zero))) where
  abbrev pub first : Progress Best
  first = record { kept = no_best; standing = R; nodes = 0 }

  pub nearest_through : Through t target limits R finite plus first (nearest_all t target R) (Covered t target (dimension t) []) (opened_prefixes t target R) (admitted_vectors t target R)
  nearest_through =
      subst (λ (x : Float). Through t target limits R finite plus first (walk_all nearer (still (center t target)) t (dimension t) [] x first) (Covered t target (dimension t) []) (opened_prefixes t target R) (admitted_vectors t target R)) (partial_nil t target)
      (walk_through t target limits R finite plus (dimension t) [] (zero-add (dimension t)) all_i64_nil passing first
      (record { radius = finite; within = le_refl (ord binary64 R); held = refl })
      (le→ord binary64 (subst (Number binary64) (sym (partial_nil t target)) (zero_nonneg binary64).num) (number finite) (passes_within t target limits R finite plus [] passing)))
    where
      passing : T (passes t target R [])
      passing = of_true (passes_nil t target R)

  -- no vector is nearer than the radius that stands at the end
  not_nearer : (y : List ℤ) → T (is_vector t y) → ord binary64 (nearest_all t target R).standing ≤ ord binary64 (distance t target y)
  not_nearer y v =
      subst (λ (x : List ℤ). ord binary64 (nearest_all t target R).standing ≤ ord binary64 (distance t target x)) (path_to y)
      (covered_all t target (extend y []) [] (nearest_all t target R).standing (subst (λ (x : List ℤ). T (all_i64 x)) (sym (path_to y)) (vector_all t y v))
      (subst (λ (k : ℕ). Covered t target k [] (nearest_all t target R).standing) (sym (extend_length y [] ∙ add-zero (length y) ∙ vector_length t y v)) nearest_through.covered))

  held_best : (z : List ℤ) → (nearest_all t target R).kept ≡ best z → Held t target limits R finite plus (best z) (nearest_all t target R).standing
  held_best z k = subst (λ (x : Best). Held t target limits R finite plus x (nearest_all t target R).standing) k nearest_through.state.held

  best_is : (z : List ℤ) → (nearest_all t target R).kept ≡ best z → Nearest t target R z
  best_is z k =
      let held = held_best z k in
      record {
        vector = held.0;
        admits = subst T (sym (admitted_is t target R z)) (and_i (is_vector t z) (passes t target R z) held.0 held.1);
        least = λ y v.
            not_T (lt (distance t target y) (distance t target z))
            (λ l. not-le_of_lt (lt→ord binary64 (distance_nonneg t target limits y v).num (distance_nonneg t target limits z held.0).num l) (subst (λ (x : Float). ord binary64 x ≤ ord binary64 (distance t target y)) (sym held.2) (not_nearer y v)));
      }

  -- ---- a walk that ends with a best
  -- no vector of n i64 is closer by computed distance
  pub nearest_point : (budget : ℕ) (z : List ℤ) (S : Float) (m : ℕ) → nearest_walk t target R budget ≡ ended (best z) S m → Nearest t target R z
  nearest_point budget z S m e = best_is z (agrees_ended (nearest_all t target R) budget (nearest_walk t target R budget) (nearest_agrees t target R budget) (best z) S m e).1

  -- the radius that stands is its distance
  pub nearest_distance : (budget : ℕ) (z : List ℤ) (S : Float) (m : ℕ) → nearest_walk t target R budget ≡ ended (best z) S m → distance t target z ≡ S
  nearest_distance budget z S m e = let g = agrees_ended (nearest_all t target R) budget (nearest_walk t target R budget) (nearest_agrees t target R budget) (best z) S m e in (held_best z g.1).2 ∙ g.2

  -- ---- a walk that ends with none
  nothing_admitted : (nearest_all t target R).kept ≡ no_best → (y : List ℤ) → T (admitted t target R y) → ⊥
  nothing_admitted k y a =
      suc-ne-zero 0
      (sym (tally_true (admitted t target R y) a) ∙ sym (admitted_once t target limits R finite plus y) ∙ ap (count y) (nearest_through.none k).2)

  all_opened : (nearest_all t target R).kept ≡ no_best → (nearest_all t target R).nodes ≡ length (opened_prefixes t target R)
  all_opened k = (nearest_through.none k).1 ∙ zero-add (length (opened_prefixes t target R))

  -- ---- the budget
  few_nodes : (nearest_all t target R).nodes ≤ length (opened_prefixes t target R)
  few_nodes = le_trans nearest_through.few (le_of_eq (zero-add (length (opened_prefixes t target R))))

  -- a walk that ends has counted no more nodes than there are opened prefixes
  pub nearest_nodes : (budget : ℕ) (k : Best) (S : Float) (m : ℕ) → nearest_walk t target R budget ≡ ended k S m → m ≤ length (opened_prefixes t target R)
  nearest_nodes budget k S m e = le_trans (le_of_eq (sym (agrees_ended (nearest_all t target R) budget (nearest_walk t target R budget) (nearest_agrees t target R budget) k S m e).3)) few_nodes

  -- 15 does not come if the budget has a node for every prefix opened at R
  pub nearest_enough : (budget : ℕ) → length (opened_prefixes t target R) ≤ budget → (m : ℕ) (S : Float) → nearest_walk t target R budget ≡ exhausted m S → ⊥
  nearest_enough budget h m S e = not-le_of_lt (agrees_exhausted (nearest_all t target R) budget (nearest_walk t target R budget) (nearest_agrees t target R budget) m S e).0 (le_trans few_nodes h)

  -- the walk finds nothing if and only if R admits no vector and the budget has a node for every opened prefix
  pub outside_exactly : (budget : ℕ) → ((S : Float) × (m : ℕ) × (nearest_walk t target R budget ≡ ended no_best S m)) ↔ (((y : List ℤ) → T (admitted t target R y) → ⊥) × (length (opened_prefixes t target R) ≤ budget))
  outside_exactly budget = (there, back)
    where
      there : (S : Float) × (m : ℕ) × (nearest_walk t target R budget ≡ ended no_best S m) → ((y : List ℤ) → T (admitted t target R y) → ⊥) × (length (opened_prefixes t target R) ≤ budget)
      there (S, m, e) =
          let g = agrees_ended (nearest_all t target R) budget (nearest_walk t target R budget) (nearest_agrees t target R budget) no_best S m e in
          (nothing_admitted g.1, le_trans (le_of_eq (sym (all_opened g.1))) g.0)

      kept_none : (k : Best) → (nearest_all t target R).kept ≡ k → ((y : List ℤ) → T (admitted t target R y) → ⊥) → k ≡ no_best
      kept_none no_best q n = refl
      kept_none (best z) q n = absurd (n z (best_is z q).admits)

      back : ((y : List ℤ) → T (admitted t target R y) → ⊥) × (length (opened_prefixes t target R) ≤ budget) → (S : Float) × (m : ℕ) × (nearest_walk t target R budget ≡ ended no_best S m)
      back (n, h) = (
        (nearest_all t target R).standing,
        (nearest_all t target R).nodes,
        agrees_enough (nearest_all t target R) budget (nearest_walk t target R budget) (nearest_agrees t target R budget) (le_trans few_nodes h)
            ∙ ap (λ (k : Best). ended k (nearest_all t target R).standing (nearest_all t target R).nodes) (kept_none (nearest_all t target R).kept refl n),
      )
