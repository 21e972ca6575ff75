-- The standing radius of `nearest` as an equation: after the walk below a prefix it is the least of the radius before and of the distances of the vectors there that are admitted at the first radius. Values are compared by their `ord`. Assumes nothing.
use mathlib.Core.Path.{◌≡◌, refl, sym, ap, ◌∙◌, subst}
use mathlib.Core.Logic.{◌⊎◌, inl, inr}
use Prim.Native.Nat.{ℕ, zero, suc, ◌+◌, ◌≤◌, ◌<◌, min}
use native.Mathlib.Nat.{le_refl, le_trans, le_of_eq, le_antisymm, lt_irrefl, lt_of_lt_of_le, le-add_left, min-le_left, min-le_right, le-min, zero-add}
use native.Mathlib.Omega.{arith}
use mathlib.Core.Bool.{Bool, true, false, not, cond}
use mathlib.Core.List.{List, [], ◌∷◌}
use lib.Dec.{T}
use lib.ListN.{length}
use lib.IntN.{ℤ}
use lib.Ieee.{Float, binary64, lt}
use lib.Ieee.Fits.{and_l}
use Rattle.rounding.specs.Integers.{is_i64}
use Rattle.rounding.specs.Kinds.{Finite}
use Rattle.rounding.proofs.Interface.{ord}
use Rattle.definitions.specs.Table.{Table, dimension, plus_zero}
use Rattle.definitions.specs.Distance.{center, partial, distance}
use Rattle.definitions.specs.Admitted.{all_i64, first_test, second_test, passes}
use Rattle.definitions.specs.Walk.{ended, still}
use Rattle.definitions.specs.Nearest.{Best, no_best, nearest_walk}
use Rattle.definitions.proofs.Admissions.{all_i64_nil, passes_nil}
use Rattle.theorems.specs.Counting.{eq_z, tally, count}
use Rattle.theorems.specs.Children.{times}
use Rattle.theorems.specs.Unbudgeted.{Progress, walk_all, nearer, nearest_all}
use Rattle.theorems.specs.Prefixes.{joined, level_children, admitted_below, admitted_vectors}
use Rattle.theorems.proofs.Booleans.{of_true, tally_some}
use Rattle.theorems.proofs.Limits.{Limits}
use Rattle.theorems.proofs.Counts.{count_cases, times_same, Each, each_append}
use Rattle.theorems.proofs.Paths.{opens}
use Rattle.theorems.proofs.Prefixes.{admitted_from, admitted_leaf, admitted_level, level_once, passes_child, all_child}
use Rattle.theorems.proofs.Covered.{Covered}
use Rattle.theorems.proofs.Search.{State, Through, walk_through}
use Rattle.theorems.proofs.Budget.{agrees_ended, nearest_agrees}
use Rattle.theorems.proofs.Least.{nearest_through}

-- ---- the least of a value and of the distances of these vectors
module _ (t : Table) (target : List Float) where
  abbrev pub least_of : ℕ → List (List ℤ) → ℕ
  least_of m [] = m
  least_of m (x ∷ xs) = least_of (min m (ord binary64 (distance t target x))) xs

  least_start : (m : ℕ) (xs : List (List ℤ)) → least_of m xs ≤ m
  least_start m [] = le_refl m
  least_start m (x ∷ xs) = le_trans (least_start (min m (ord binary64 (distance t target x))) xs) (min-le_left m (ord binary64 (distance t target x)))

  least_member : (m : ℕ) (x : List ℤ) (xs : List (List ℤ)) → 0 < count x xs → least_of m xs ≤ ord binary64 (distance t target x)
  least_member m x [] h = absurd (lt_irrefl 0 h)
  least_member m x (y ∷ xs) h =
      elim (count_cases x y xs h) [
        | inl e ↦ subst (λ (v : List ℤ). least_of (min m (ord binary64 (distance t target y))) xs ≤ ord binary64 (distance t target v)) (sym e)
            (le_trans (least_start (min m (ord binary64 (distance t target y))) xs) (min-le_right m (ord binary64 (distance t target y))))
        | inr k ↦ least_member (min m (ord binary64 (distance t target y))) x xs k
      ]

  least_above : (k m : ℕ) (xs : List (List ℤ)) → k ≤ m → Each (λ x. k ≤ ord binary64 (distance t target x)) xs → k ≤ least_of m xs
  least_above k m [] h e = h
  least_above k m (x ∷ xs) h e = least_above k (min m (ord binary64 (distance t target x))) xs (le-min h e.0) e.1

-- what holds of the lists of all members
each_member : (P : List ℤ → Type 0) (f : ℤ → List (List ℤ)) (cs : List ℤ) → ((z : ℤ) → 0 < times z cs → Each P (f z)) → Each P (joined f cs)
each_member P f [] h = tt
each_member P f (z ∷ cs) h =
    each_append P (f z) (joined f cs) (h z (subst (λ (k : ℕ). 0 < k) (sym (times_same z z cs refl)) (omega arith)))
    (each_member P f cs (λ y k. h y (lt_of_lt_of_le k (le-add_left (times y cs) (tally (eq_z y z))))))

module _ (t : Table) (target : List Float) (limits : Limits t target) (R : Float) (finite : Finite binary64 R) (plus : T (not (lt R plus_zero))) where
  covered_each : (d : ℕ) (zs : List ℤ) (r : Float) → length zs + d ≡ dimension t → T (all_i64 zs) → T (passes t target R zs) → Covered t target d zs r → Each (λ x. ord binary64 r ≤ ord binary64 (partial t target x)) (admitted_below t target R d zs)
  covered_each zero zs r e a p c = subst (Each (λ x. ord binary64 r ≤ ord binary64 (partial t target x))) (sym (admitted_leaf t target R zs)) (c, tt)
  covered_each (suc level) zs r e a p c =
      subst (Each (λ x. ord binary64 r ≤ ord binary64 (partial t target x))) (sym (admitted_level t target R level zs))
      (each_member (λ x. ord binary64 r ≤ ord binary64 (partial t target x)) (admitted_from t target R level zs) (level_children t target R level zs)
      (λ z h.
      let o = tally_some (opens t target R z zs) (subst (λ (k : ℕ). 0 < k) (level_once t target limits R finite plus z level zs (omega arith) a p) h) in
      go z o (second_test t target R z zs) refl (λ a' p'. covered_each level (z ∷ zs) r (omega arith) a' p' (c z (and_l (is_i64 z) (first_test t target R z zs) o)))))
    where
      go : (z : ℤ) → T (opens t target R z zs) → (b : Bool) → second_test t target R z zs ≡ b → (T (all_i64 (z ∷ zs)) → T (passes t target R (z ∷ zs)) → Each (λ x. ord binary64 r ≤ ord binary64 (partial t target x)) (admitted_below t target R level (z ∷ zs))) → Each (λ x. ord binary64 r ≤ ord binary64 (partial t target x)) (cond b (admitted_below t target R level (z ∷ zs)) [])
      go z o true q ih = ih (all_child t target limits R finite plus z zs a o) (passes_child t target limits R finite plus z zs p o (of_true q))
      go z o false q ih = tt

  radius_of : (d : ℕ) (zs : List ℤ) → length zs + d ≡ dimension t → T (all_i64 zs) → T (passes t target R zs) → (s s' : Progress Best) (prefixes : List (List ℤ)) → Through t target limits R finite plus s s' (Covered t target d zs) prefixes (admitted_below t target R d zs) → ord binary64 s'.standing ≡ least_of t target (ord binary64 s.standing) (admitted_below t target R d zs)
  radius_of d zs e a p s s' prefixes u =
      le_antisymm
      (least_above t target (ord binary64 s'.standing) (ord binary64 s.standing) (admitted_below t target R d zs) u.less (covered_each d zs s'.standing e a p u.covered))
      (go u.reached)
    where
      go : (s'.standing ≡ s.standing) ⊎ ((x : List ℤ) × (0 < count x (admitted_below t target R d zs)) × (s'.standing ≡ partial t target x)) → least_of t target (ord binary64 s.standing) (admitted_below t target R d zs) ≤ ord binary64 s'.standing
      go (inl q) = le_trans (least_start t target (ord binary64 s.standing) (admitted_below t target R d zs)) (le_of_eq (sym (ap (ord binary64) q)))
      go (inr (x, h, q)) = le_trans (least_member t target (ord binary64 s.standing) x (admitted_below t target R d zs) h) (le_of_eq (sym (ap (ord binary64) q)))

  -- below a prefix
  pub walk_radius : (d : ℕ) (zs : List ℤ) → length zs + d ≡ dimension t → T (all_i64 zs) → T (passes t target R zs) → (s : Progress Best) → State t target limits R finite plus s → ord binary64 (partial t target zs) ≤ ord binary64 s.standing → ord binary64 (walk_all nearer (still (center t target)) t d zs (partial t target zs) s).standing ≡ least_of t target (ord binary64 s.standing) (admitted_below t target R d zs)
  walk_radius d zs e a p s st h = radius_of d zs e a p s (walk_all nearer (still (center t target)) t d zs (partial t target zs) s) _ (walk_through t target limits R finite plus d zs e a p s st h)

  -- at the end of the walk
  pub nearest_radius : (budget : ℕ) (k : Best) (S : Float) (m : ℕ) → nearest_walk t target R budget ≡ ended k S m → ord binary64 S ≡ least_of t target (ord binary64 R) (admitted_vectors t target R)
  nearest_radius budget k S m e =
      let g = agrees_ended (nearest_all t target R) budget (nearest_walk t target R budget) (nearest_agrees t target R budget) k S m e in
      ap (ord binary64) (sym g.2)
      ∙ radius_of (dimension t) [] (zero-add (dimension t)) all_i64_nil (of_true (passes_nil t target R)) (record { kept = no_best; standing = R; nodes = 0 }) (nearest_all t target R) _ (nearest_through t target limits R finite plus)
