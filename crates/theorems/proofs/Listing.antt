-- The theorem of `list`: a walk that ends has found every admitted vector once, nothing else, each with its own distance, and has counted as many nodes as there are opened prefixes; it ends if the budget is at least that number, and is exhausted otherwise. Assumes nothing.
use mathlib.Core.Path.{◌≡◌, refl, sym, ap, ◌∙◌, subst}
use Prim.Native.Nat.{ℕ, zero, suc, ◌+◌}
use native.Mathlib.Nat.{zero-add, add-zero, add_assoc}
use native.Mathlib.Omega.{arith}
use mathlib.Core.Bool.{Bool, true, false, not, cond}
use mathlib.Core.List.{List, [], ◌∷◌, ◌++◌}
use lib.Dec.{T}
use lib.ListN.{length, length-append}
use lib.IntN.{ℤ}
use lib.Ieee.{Float, binary64, add, le, lt}
use Rattle.rounding.specs.Kinds.{Finite}
use Rattle.definitions.specs.Table.{Table, dimension, weight, plus_zero}
use Rattle.definitions.specs.Distance.{center, term, partial, distance}
use Rattle.definitions.specs.Admitted.{second_test}
use Rattle.definitions.specs.Walk.{ended, still}
use Rattle.definitions.specs.Listing.{ListPoint, list_walk}
use Rattle.definitions.proofs.Distances.{partial_nil, partial_step}
use Rattle.definitions.proofs.Admissions.{second_test_is}
use Rattle.theorems.specs.Counting.{same_vector, tally, count}
use Rattle.theorems.specs.Unbudgeted.{Progress, after_child, all_children, walk_all, added, list_all}
use Rattle.theorems.specs.Prefixes.{joined, level_children, opened_below, admitted_below, opened_prefixes, admitted_vectors}
use Rattle.theorems.specs.Ordered.{vectors_of, OwnDistances}
use Rattle.theorems.specs.Answers.{Listed}
use Rattle.theorems.proofs.Limits.{Limits}
use Rattle.theorems.proofs.Prefixes.{opened_from, admitted_from, opened_leaf, opened_level, admitted_leaf, admitted_level, opened_once, admitted_once}
use Rattle.theorems.proofs.Unbudgeted.{Agrees, all_nil, all_cons, walk_all_leaf, walk_all_level}
use Rattle.theorems.proofs.Budget.{agrees_ended, list_agrees}

-- ---- what the walk without a budget comes to
module _ (t : Table) (target : List Float) (R : Float) where
  -- the points of these vectors, each added to what was found
  abbrev pub add_all : List (List ℤ) → List ListPoint → List ListPoint
  add_all [] found = found
  add_all (x ∷ xs) found = add_all xs (record { distance = distance t target x; point = x } ∷ found)

  add_append : (xs ys : List (List ℤ)) (found : List ListPoint) → add_all (xs ++ ys) found ≡ add_all ys (add_all xs found)
  add_append [] ys found = refl
  add_append (x ∷ xs) ys found = add_append xs ys (record { distance = distance t target x; point = x } ∷ found)

  abbrev pub stands : List ListPoint → ℕ → Progress (List ListPoint)
  stands found m = record { kept = found; standing = R; nodes = m }

  module _ (level : ℕ) (zs : List ℤ) (e : suc level + length zs ≡ dimension t)
      (down : List ℤ → Float → Progress (List ListPoint) → Progress (List ListPoint))
      (down_is : (z : ℤ) (found : List ListPoint) (m : ℕ) → down (z ∷ zs) (partial t target (z ∷ zs)) (stands found m) ≡ stands (add_all (admitted_below t target R level (z ∷ zs)) found) (m + length (opened_below t target R level (z ∷ zs)))) where
    child_is : (z : ℤ) (found : List ListPoint) (m : ℕ) → after_child added (still (center t target)) t (le (add binary64 (partial t target zs) (term (weight t level) (center t target level zs) z)) R) down (z ∷ zs) (add binary64 (partial t target zs) (term (weight t level) (center t target level zs) z)) (stands found m) ≡ stands (add_all (admitted_from t target R level zs z) found) (m + length (opened_from t target R level zs z))
    child_is z found m =
        subst (λ (x : Float). after_child added (still (center t target)) t (le x R) down (z ∷ zs) x (stands found m) ≡ stands (add_all (admitted_from t target R level zs z) found) (m + length (opened_from t target R level zs z))) (partial_step t target z zs level e)
        (ap (λ (b : Bool). after_child added (still (center t target)) t b down (z ∷ zs) (partial t target (z ∷ zs)) (stands found m)) (sym (second_test_is t target R z zs)) ∙ go (second_test t target R z zs))
      where
        more : (m n : ℕ) → suc m + n ≡ m + suc n
        more m n = omega arith

        one : (m : ℕ) → suc m ≡ m + 1
        one m = omega arith

        go : (b : Bool) → after_child added (still (center t target)) t b down (z ∷ zs) (partial t target (z ∷ zs)) (stands found m) ≡ stands (add_all (cond b (admitted_below t target R level (z ∷ zs)) []) found) (m + suc (length (cond b (opened_below t target R level (z ∷ zs)) [])))
        go true = down_is z found (suc m) ∙ ap (stands (add_all (admitted_below t target R level (z ∷ zs)) found)) (more m (length (opened_below t target R level (z ∷ zs))))
        go false = ap (stands found) (one m)

    each_is : (cs : List ℤ) (found : List ListPoint) (m : ℕ) → all_children added (still (center t target)) t down level zs (partial t target zs) (center t target level zs) cs (stands found m) ≡ stands (add_all (joined (admitted_from t target R level zs) cs) found) (m + length (joined (opened_from t target R level zs) cs))
    each_is [] found m = all_nil added (still (center t target)) t down level zs (partial t target zs) (center t target level zs) (stands found m) ∙ ap (stands found) (sym (add-zero m))
    each_is (z ∷ cs) found m =
        all_cons added (still (center t target)) t down level zs (partial t target zs) (center t target level zs) z cs (stands found m)
        ∙ ap (all_children added (still (center t target)) t down level zs (partial t target zs) (center t target level zs) cs) (child_is z found m)
        ∙ each_is cs (add_all (admitted_from t target R level zs z) found) (m + length (opened_from t target R level zs z))
        ∙ ap (λ (l : List ListPoint). stands l (m + length (opened_from t target R level zs z) + length (joined (opened_from t target R level zs) cs))) (sym (add_append (admitted_from t target R level zs z) (joined (admitted_from t target R level zs) cs) found))
        ∙ ap (stands (add_all (joined (admitted_from t target R level zs) (z ∷ cs)) found)) (add_assoc m (length (opened_from t target R level zs z)) (length (joined (opened_from t target R level zs) cs)) ∙ ap (λ (k : ℕ). m + k) (sym (length-append (opened_from t target R level zs z) (joined (opened_from t target R level zs) cs))))

  -- it finds the admitted vectors and counts the opened prefixes, whatever the table
  pub walk_is : (d : ℕ) (zs : List ℤ) → length zs + d ≡ dimension t → (found : List ListPoint) (m : ℕ) → walk_all added (still (center t target)) t d zs (partial t target zs) (stands found m) ≡ stands (add_all (admitted_below t target R d zs) found) (m + length (opened_below t target R d zs))
  walk_is zero zs e found m =
      walk_all_leaf added (still (center t target)) t zs (partial t target zs) (stands found m)
      ∙ ap (λ (l : List (List ℤ)). stands (add_all l found) m) (sym (admitted_leaf t target R zs))
      ∙ ap (stands (add_all (admitted_below t target R 0 zs) found)) (sym (add-zero m) ∙ ap (λ (l : List (List ℤ)). m + length l) (sym (opened_leaf t target R zs)))
  walk_is (suc level) zs e found m =
      walk_all_level added (still (center t target)) t level zs (partial t target zs) (stands found m)
      ∙ each_is level zs (omega arith) (walk_all added (still (center t target)) t level) (λ z found' m'. walk_is level (z ∷ zs) (omega arith) found' m') (level_children t target R level zs) found m
      ∙ ap (λ (l : List (List ℤ)). stands (add_all l found) (m + length (joined (opened_from t target R level zs) (level_children t target R level zs)))) (sym (admitted_level t target R level zs))
      ∙ ap (λ (l : List (List ℤ)). stands (add_all (admitted_below t target R (suc level) zs) found) (m + length l)) (sym (opened_level t target R level zs))

  pub list_all_is : list_all t target R ≡ stands (add_all (admitted_vectors t target R) []) (length (opened_prefixes t target R))
  list_all_is =
      ap (λ (x : Float). walk_all added (still (center t target)) t (dimension t) [] x (stands [] 0)) (sym (partial_nil t target))
      ∙ walk_is (dimension t) [] (zero-add (dimension t)) [] 0
      ∙ ap (stands (add_all (admitted_vectors t target R) [])) (zero-add (length (opened_prefixes t target R)))

  count_added : (x : List ℤ) (xs : List (List ℤ)) (found : List ListPoint) → count x (vectors_of (add_all xs found)) ≡ count x xs + count x (vectors_of found)
  count_added x [] found = sym (zero-add (count x (vectors_of found)))
  count_added x (y ∷ xs) found = count_added x xs (record { distance = distance t target y; point = y } ∷ found) ∙ swap (count x xs) (tally (same_vector x y)) (count x (vectors_of found))
    where
      swap : (i j k : ℕ) → i + (j + k) ≡ j + i + k
      swap i j k = omega arith

  own_added : (xs : List (List ℤ)) (found : List ListPoint) → OwnDistances t target found → OwnDistances t target (add_all xs found)
  own_added [] found o = o
  own_added (x ∷ xs) found o = own_added xs (record { distance = distance t target x; point = x } ∷ found) (refl, o)

module _ (t : Table) (target : List Float) (limits : Limits t target) (R : Float) (finite : Finite binary64 R) (plus : T (not (lt R plus_zero))) where
  pub list_exact : (budget : ℕ) (found : List ListPoint) (S : Float) (m : ℕ) → list_walk t target R budget ≡ ended found S m → Listed t target R found m
  list_exact budget found S m e =
      let g = agrees_ended (list_all t target R) budget (list_walk t target R budget) (list_agrees t target R budget) found S m e in
      let k : found ≡ add_all t target R (admitted_vectors t target R) [] = sym g.1 ∙ ap (λ (x : Progress (List ListPoint)). x.kept) (list_all_is t target R) in
      record {
        exact = λ x. ap (λ (l : List ListPoint). count x (vectors_of l)) k ∙ count_added t target R x (admitted_vectors t target R) [] ∙ add-zero (count x (admitted_vectors t target R)) ∙ admitted_once t target limits R finite plus x;
        own = subst (OwnDistances t target) (sym k) (own_added t target R (admitted_vectors t target R) [] tt);
        nodes = record { all = opened_prefixes t target R; once = opened_once t target limits R finite plus; long = sym (ap (λ (x : Progress (List ListPoint)). x.nodes) (list_all_is t target R)) ∙ g.3 };
      }

-- it ends if the budget has a node for every opened prefix, and is exhausted otherwise
pub list_agrees_prefixes : (t : Table) (target : List Float) (R : Float) (budget : ℕ) → Agrees budget (stands t target R (add_all t target R (admitted_vectors t target R) []) (length (opened_prefixes t target R))) (list_walk t target R budget)
list_agrees_prefixes t target R budget = subst (λ (f : Progress (List ListPoint)). Agrees budget f (list_walk t target R budget)) (list_all_is t target R) (list_agrees t target R budget)
