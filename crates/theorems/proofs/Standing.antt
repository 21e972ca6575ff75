-- The radius that stands when a walk ends or its budget is exhausted: that of `nearest` is the first radius or the distance of a vector admitted at it, that of `list` is the first radius. Assumes nothing.
use mathlib.Core.Path.{◌≡◌, refl, sym, ap, ◌∙◌, subst}
use mathlib.Core.Logic.{◌⊎◌, inl, inr}
use Prim.Native.Nat.{ℕ, zero, suc, ◌+◌, ◌<◌}
use native.Mathlib.Nat.{le_trans, lt_of_lt_of_le, le-add_left, le_refl, zero-add}
use native.Mathlib.Omega.{arith}
use mathlib.Core.Bool.{Bool, true, false, not, cond}
use mathlib.Core.List.{List, [], ◌∷◌}
use lib.Dec.{T, leb}
use lib.ListN.{length}
use lib.IntN.{ℤ}
use lib.Ieee.{Float, binary64, add, sub, le, lt}
use lib.Ieee.Fits.{and_i}
use Rattle.rounding.specs.Kinds.{Finite, NonNegative}
use Rattle.rounding.proofs.Interface.{number, ord, le→ord, ord→le, finite_below}
use Rattle.definitions.specs.Table.{Table, dimension, weight, plus_zero}
use Rattle.definitions.specs.Distance.{center, term, partial, distance}
use Rattle.definitions.specs.Admitted.{all_i64, is_vector, second_test, passes, admitted}
use Rattle.definitions.specs.Walk.{Walked, ended, exhausted, Leaf, Descent, Centers, still, descend_if, visit, walk}
use Rattle.definitions.specs.Nearest.{Best, no_best, best, replaces, consider, nearest_walk}
use Rattle.definitions.specs.Listing.{collect, list_walk}
use Rattle.definitions.proofs.Distances.{partial_nil, partial_step}
use Rattle.definitions.proofs.Admissions.{all_i64_nil, vector_intro, second_test_is, passes_nil, admitted_is}
use Rattle.definitions.proofs.Turns.{visit_exhausted, visit_counted, descends, prunes, enter_exhausted, leaf_exhausted, leaf_ended, walk_leaf, walk_level}
use Rattle.definitions.proofs.Leaves.{nearest_walk_is, list_walk_is}
use Rattle.theorems.specs.Counting.{eq_z, tally}
use Rattle.theorems.specs.Children.{children, times}
use Rattle.theorems.specs.Unbudgeted.{Outcome, nearer, added}
use Rattle.theorems.proofs.Booleans.{of_true}
use Rattle.theorems.proofs.Limits.{Limits}
use Rattle.theorems.proofs.Sums.{partial_nonneg, passes_within}
use Rattle.theorems.proofs.Counts.{times_same}
use Rattle.theorems.proofs.Levels.{try_each, each_nil, each_exhausted, each_cons, enter_each}
use Rattle.theorems.proofs.Unbudgeted.{LeafOf, walk_counting}
use Rattle.theorems.proofs.Paths.{opens}
use Rattle.theorems.proofs.Prefixes.{passes_child, all_child}
use Rattle.theorems.proofs.Budget.{consider_leaf, collect_leaf}
use Rattle.theorems.proofs.Search.{Held, State, child_opened}

-- ---- any walk
-- what is kept and the standing radius have Q, at an end and where the budget was exhausted
abbrev pub Stands : {K : Type 0} → (K → Float → Type 0) → Walked K → Type 0
Stands Q (ended k S m) = Q k S
Stands {K} Q (exhausted m S) = (k : K) × Q k S

module _ {K : Type 0} (leaf : Leaf K) (outcome : Outcome K) (leaf_is : LeafOf leaf outcome) (centers : Centers K) (t : Table) (budget : ℕ) (Q : K → Float → Type 0) where
  -- the partial sum of a child of a level with centre c
  abbrev pub child_sum : ℕ → Float → Float → ℤ → Float
  child_sum level p c z = add binary64 p (term (weight t level) c z)

  module _ (level : ℕ) (zs : List ℤ) (p c : Float) (down : Descent K) (Child : ℤ → Type 0)
      (takes : (z : ℤ) → Child z → (k : K) (S : Float) → Q k S → Q (centers.moved level z k) S)
      (keeps : (z : ℤ) → Child z → (k : K) (S : Float) (m : ℕ) → Q k S → T (le (child_sum level p c z) S) → Stands Q (down (z ∷ zs) (child_sum level p c z) (ended k S m))) where
    visit_stands : (b : Bool) (z : ℤ) → Child z → (k : K) (S : Float) (m : ℕ) → Q k S → Stands Q (visit leaf centers t budget b down (z ∷ zs) (child_sum level p c z) k S m)
    visit_stands true z i k S m q = rw (visit_exhausted leaf centers t budget down (z ∷ zs) (child_sum level p c z) k S m) (k, q)
    visit_stands false z i k S m q = rw (visit_counted leaf centers t budget down (z ∷ zs) (child_sum level p c z) k S m) (go (le (child_sum level p c z) S) refl)
      where
        go : (b : Bool) → le (child_sum level p c z) S ≡ b → Stands Q (descend_if leaf centers t budget b down (z ∷ zs) (child_sum level p c z) (ended k S (suc m)))
        go true e = rw (descends leaf centers t budget down (z ∷ zs) (child_sum level p c z) (ended k S (suc m))) (keeps z i k S (suc m) q (of_true e))
        go false e = rw (prunes leaf centers t budget down (z ∷ zs) (child_sum level p c z) (ended k S (suc m))) q

    each_stands : (cs : List ℤ) → ((z : ℤ) → 0 < times z cs → Child z) → (w : Walked K) → Stands Q w → Stands Q (try_each leaf centers t budget down level zs p c cs w)
    each_stands [] all w q = rw (each_nil leaf centers t budget down level zs p c w) q
    each_stands (z ∷ cs) all (exhausted m S) q = rw (each_exhausted leaf centers t budget down level zs p c (z ∷ cs) m S) q
    each_stands (z ∷ cs) all (ended k S m) q =
        rw (each_cons leaf centers t budget down level zs p c z cs k S m)
        (each_stands cs (λ y h. all y (lt_of_lt_of_le h (le-add_left (times y cs) (tally (eq_z y z))))) _ (visit_stands (leb budget m) z (all z first) (centers.moved level z k) S m (takes z (all z first) k S q)))
      where
        first : 0 < times z (z ∷ cs)
        first = subst (λ (k : ℕ). 0 < k) (sym (times_same z z cs refl)) (omega arith)

  -- z is a child of a level that is entered with k kept at the standing radius S
  abbrev pub ChildAt : ℕ → List ℤ → Float → K → Float → ℤ → Type 0
  ChildAt level zs p k S z = 0 < times z (children (centers.at level zs k) (sub binary64 S p) (weight t level))

  -- `At` holds of the prefixes that the walk comes to: the levels left, the coordinates and the partial sum
  module _ (At : ℕ → List ℤ → Float → Type 0)
      (child_at_h : (level : ℕ) (zs : List ℤ) (p : Float) → At (suc level) zs p → (k : K) (S : Float) → Q k S → (z : ℤ) → ChildAt level zs p k S z → (k' : K) (S' : Float) → Q k' S' → T (le (child_sum level p (centers.at level zs k) z) S') → At level (z ∷ zs) (child_sum level p (centers.at level zs k) z))
      (child_takes : (level : ℕ) (zs : List ℤ) (p : Float) → At (suc level) zs p → (k : K) (S : Float) → Q k S → (z : ℤ) → ChildAt level zs p k S z → (k' : K) (S' : Float) → Q k' S' → Q (centers.moved level z k') S')
      (leaf_keeps : (zs : List ℤ) (p : Float) → At 0 zs p → (k : K) (S : Float) → Q k S → Q (outcome zs p k S).0 (outcome zs p k S).1) where
    pub walk_stands : (d : ℕ) (zs : List ℤ) (p : Float) → At d zs p → (w : Walked K) → Stands Q w → Stands Q (walk leaf centers t budget d zs p w)
    walk_stands zero zs p a (exhausted m S) q = rw (walk_leaf leaf centers t budget zs p (exhausted m S), leaf_exhausted leaf centers t budget zs p m S) q
    walk_stands zero zs p a (ended k S m) q = rw (walk_leaf leaf centers t budget zs p (ended k S m), leaf_ended leaf centers t budget zs p k S m, leaf_is zs p k S m) (leaf_keeps zs p a k S q)
    walk_stands (suc level) zs p a (exhausted m S) q = rw (walk_level leaf centers t budget level zs p (exhausted m S), enter_exhausted leaf centers t budget (walk leaf centers t budget level) level zs p m S) q
    walk_stands (suc level) zs p a (ended k S m) q =
        let c = centers.at level zs k in
        rw (walk_level leaf centers t budget level zs p (ended k S m), enter_each leaf centers t budget (walk leaf centers t budget level) (walk_counting leaf outcome leaf_is centers t budget level) level zs p k S m)
        (each_stands level zs p c (walk leaf centers t budget level) (ChildAt level zs p k S)
        (child_takes level zs p a k S q)
        (λ z h k' S' m' q' l. walk_stands level (z ∷ zs) (child_sum level p c z) (child_at_h level zs p a k S q z h k' S' q' l) (ended k' S' m') q')
        (children c (sub binary64 S p) (weight t level)) (λ z h. h) (ended k S m) q)

-- ---- nearest
module _ (t : Table) (target : List Float) (limits : Limits t target) (R : Float) (finite : Finite binary64 R) (plus : T (not (lt R plus_zero))) where
  abbrev Standing : Best → Float → Type 0
  Standing k S = State t target limits R finite plus (record { kept = k; standing = S; nodes = 0 })

  -- a prefix that the walk comes to
  record Reached (d : ℕ) (zs : List ℤ) (p : Float) : Type 0 where
    levels : length zs + d ≡ dimension t
    all : T (all_i64 zs)
    passing : T (passes t target R zs)
    sum : partial t target zs ≡ p

  child_reached : (level : ℕ) (zs : List ℤ) (p : Float) → Reached (suc level) zs p → (k : Best) (S : Float) → Standing k S → (z : ℤ) → 0 < times z (children (center t target level zs) (sub binary64 S p) (weight t level)) →
      (k' : Best) (S' : Float) → Standing k' S' → T (le (add binary64 p (term (weight t level) (center t target level zs) z)) S') → Reached level (z ∷ zs) (add binary64 p (term (weight t level) (center t target level zs) z))
  child_reached level zs p a k S q z h k' S' q' l = record { levels = omega (arith, a.levels); all = all; passing = passes_child t target limits R finite plus z zs a.passing opening second; sum = is }
    where
      e : suc level + length zs ≡ dimension t
      e = omega (arith, a.levels)

      is : partial t target (z ∷ zs) ≡ add binary64 p (term (weight t level) (center t target level zs) z)
      is = partial_step t target z zs level e ∙ ap (λ (x : Float). add binary64 x (term (weight t level) (center t target level zs) z)) a.sum

      opening : T (opens t target R z zs)
      opening = child_opened t target limits R finite plus level zs e a.all a.passing S q.radius q.within z (rw a.sum h)

      all : T (all_i64 (z ∷ zs))
      all = all_child t target limits R finite plus z zs a.all opening

      nonneg : NonNegative binary64 (partial t target (z ∷ zs))
      nonneg = partial_nonneg t target limits (z ∷ zs) level (omega (arith, e)) all

      second : T (second_test t target R z zs)
      second = rw (second_test_is t target R z zs) (ord→le binary64 nonneg.num (number finite) (le_trans (le→ord binary64 nonneg.num (number q'.radius) (rw is l)) q'.within))

  leaf_stands : (zs : List ℤ) (p : Float) → Reached 0 zs p → (k : Best) (S : Float) → Standing k S → Standing (nearer zs p k S).0 (nearer zs p k S).1
  leaf_stands zs p a k S q = go (replaces zs p k S)
    where
      e : length zs ≡ dimension t
      e = omega (arith, a.levels)

      nonneg : NonNegative binary64 p
      nonneg = subst (NonNegative binary64) a.sum (partial_nonneg t target limits zs 0 a.levels a.all)

      below : T (le p R)
      below = subst (λ (x : Float). T (le x R)) a.sum (passes_within t target limits R finite plus zs a.passing)

      go : (b : Bool) → Standing (cond b (best zs) k) (cond b p S)
      go true = record { radius = finite_below nonneg finite below; within = le→ord binary64 nonneg.num (number finite) below; held = (vector_intro t zs e a.all, a.passing, a.sum) }
      go false = q

  nearest_stands : (budget : ℕ) → Stands Standing (nearest_walk t target R budget)
  nearest_stands budget =
      rw (nearest_walk_is t target R budget)
      (walk_stands consider nearer consider_leaf (still (center t target)) t budget Standing Reached child_reached (λ level zs p a k S q z h k' S' q'. q') leaf_stands (dimension t) [] plus_zero
      (record { levels = zero-add (dimension t); all = all_i64_nil; passing = of_true (passes_nil t target R); sum = partial_nil t target }) (ended no_best R 0) (record { radius = finite; within = le_refl (ord binary64 R); held = refl }))

  -- the radius that stood when the budget was exhausted
  pub exhausted_radius : (budget m : ℕ) (S : Float) → nearest_walk t target R budget ≡ exhausted m S → (S ≡ R) ⊎ ((z : List ℤ) × T (admitted t target R z) × (S ≡ distance t target z))
  exhausted_radius budget m S e = let s = subst (Stands Standing) e (nearest_stands budget) in go s.0 s.1.held
    where
      go : (k : Best) → Held t target limits R finite plus k S → (S ≡ R) ⊎ ((z : List ℤ) × T (admitted t target R z) × (S ≡ distance t target z))
      go no_best h = inl h
      go (best z) h = inr (z, rw (admitted_is t target R z) (and_i (is_vector t z) (passes t target R z) h.0 h.1), sym h.2)

-- ---- list
-- it never shrinks
pub list_radius : (t : Table) (target : List Float) (R : Float) (budget m : ℕ) (S : Float) → list_walk t target R budget ≡ exhausted m S → S ≡ R
list_radius t target R budget m S e =
    (subst (Stands (λ k S'. S' ≡ R)) (sym (list_walk_is t target R budget) ∙ e)
    (walk_stands collect added collect_leaf (still (center t target)) t budget (λ k S'. S' ≡ R) (λ d zs p. Unit {0}) (λ level zs p a k S' q z h k' S'' q' l. tt) (λ level zs p a k S' q z h k' S'' q'. q') (λ zs p a k S' q. q) (dimension t) [] plus_zero tt (ended [] R 0) refl)).1
