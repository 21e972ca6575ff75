-- The list walk with running centres finds no vector twice: the children of a level differ, however its centre came about. Assumes nothing.
use mathlib.Core.Path.{◌≡◌, refl, sym, ap, ◌∙◌, subst}
use Prim.Native.Nat.{ℕ, zero, suc, ◌+◌, ◌*◌, ◌≤◌, ◌<◌, zero-le}
use native.Mathlib.Nat.{le_refl, le_trans, le_of_eq, lt_of_lt_of_le, le-add_left, le-add_right, add-le-add, add_comm, add_assoc, zero-add, add-mul, one-mul, mul-le-mul_right}
use native.Mathlib.Omega.{arith}
use mathlib.Core.Bool.{Bool, true, false, ◌&&◌}
use mathlib.Core.List.{List, [], ◌∷◌}
use lib.Dec.{T, lit≤}
use lib.ListN.{get_or, drop}
use lib.IntN.{ℤ, pos}
use lib.Ieee.{Float, nan, binary64, add, sub, le}
use Rattle.rounding.specs.Kinds.{Finite, NonNegative}
use Rattle.definitions.specs.Table.{Table, dimension, weight, plus_zero}
use Rattle.definitions.specs.Distance.{term}
use Rattle.definitions.specs.Admitted.{is_vector}
use Rattle.definitions.specs.Walk.{ended, exhausted}
use Rattle.definitions.specs.Listing.{ListPoint, collect, sorted}
use Rattle.definitions.specs.Running.{Running, initialize_centers, update_centers, Beside, beside, running_centers, running_list}
use Rattle.definitions.proofs.Admissions.{vector_length}
use Rattle.definitions.proofs.ListedOrder.{Listed as Comparable}
use Rattle.definitions.proofs.Running.{running_list_is}
use Rattle.theorems.specs.Counting.{eq_z, same_vector, tally, count}
use Rattle.theorems.specs.Children.{children, is_child, times}
use Rattle.theorems.specs.Ordered.{vectors_of, StrictlyOrdered}
use Rattle.theorems.specs.Unbudgeted.{Progress, added, counted, walked_below, took, after_child, all_children, walk_all}
use Rattle.theorems.proofs.Booleans.{of_true, tally_most}
use Rattle.theorems.proofs.Counts.{times_same}
use Rattle.theorems.proofs.Limits.{Limits}
use Rattle.theorems.proofs.RunningCenters.{Steady, steady_start, steady_update}
use Rattle.theorems.proofs.Budget.{agrees_ended, collect_leaf}
use Rattle.theorems.proofs.Unbudgeted.{Agrees, all_nil, all_cons, walk_all_leaf, walk_all_level}
use Rattle.theorems.proofs.Standing.{Stands}
use Rattle.theorems.proofs.Sorting.{Every, sorted_ordered}
use Rattle.theorems.proofs.RunningWalks.{beside_outcome, running_all, running_agrees, running_stands, UpTo, Prefix, up_to_R, no_prefix, below, child_times, child_integer, child_prefix}

-- what the walk has come to
abbrev Found : Type 0
Found = Progress (Beside (List ListPoint))

-- ---- a vector x that ends in zs, with so many levels below: 1, else 0
abbrev ending : List ℤ → ℕ → List ℤ → ℕ
ending x d zs = tally (same_vector (drop d x) zs)

-- it ends in z ∷ zs only if z is its coordinate there
ending_child : (x : List ℤ) (level : ℕ) (z : ℤ) (zs : List ℤ) → ending x level (z ∷ zs) ≤ tally (eq_z (get_or x level (pos 0)) z) * ending x (suc level) zs
ending_child [] zero z zs = zero-le
ending_child [] (suc level) z zs = zero-le
ending_child (y ∷ ys) zero z zs = both (eq_z y z) (same_vector ys zs)
  where
    both : (a b : Bool) → tally (a && b) ≤ tally a * tally b
    both true true = lit≤ tt
    both true false = lit≤ tt
    both false b = zero-le
ending_child (y ∷ ys) (suc level) z zs = ending_child ys level z zs

module _ (t : Table) (target : List Float) (limits : Limits t target) (R : Float) (finite : Finite binary64 R) (nonneg : NonNegative binary64 R) (x : List ℤ) where
  -- how often x stands among the points found
  abbrev often : Found → ℕ
  often s = count x (vectors_of s.kept.kept)

  -- s' comes after s: the centres are steady, the radius is R, and x was found at most k times between
  record After (k : ℕ) (s s' : Found) : Type 0 where
    steady : Steady t s'.kept.running
    radius : s'.standing ≡ R
    most : often s' ≤ often s + k

  module _ (level : ℕ) (zs : List ℤ) (p c : Float) (down : List ℤ → Float → Found → Found) (Child : ℤ → Type 0)
      (takes : (z : ℤ) → Child z → (r : Running) → Steady t r → Steady t (update_centers t level z r))
      (after : (z : ℤ) → Child z → (s : Found) → Steady t s.kept.running → s.standing ≡ R → T (le (add binary64 p (term (weight t level) c z)) R) → After (ending x level (z ∷ zs)) s (down (z ∷ zs) (add binary64 p (term (weight t level) c z)) s)) where
    abbrev sum : ℤ → Float
    sum z = add binary64 p (term (weight t level) c z)

    abbrev took_it : ℤ → Found → Found
    took_it z s = took (beside_outcome added) (running_centers t) t level z s

    abbrev visited : Bool → ℤ → Found → Found
    visited b z s = after_child (beside_outcome added) (running_centers t) t b down (z ∷ zs) (sum z) (took_it z s)

    visit_after : (z : ℤ) → Child z → (s : Found) → Steady t s.kept.running → s.standing ≡ R → After (tally (eq_z (get_or x level (pos 0)) z) * ending x (suc level) zs) s (visited (walked_below (sum z) s) z s)
    visit_after z child s st r = go (walked_below (sum z) s) refl
      where
        go : (b : Bool) → walked_below (sum z) s ≡ b → After (tally (eq_z (get_or x level (pos 0)) z) * ending x (suc level) zs) s (visited b z s)
        go true e =
            let a = after z child (counted (took_it z s)) (takes z child s.kept.running st) r (subst (λ (S : Float). T (le (sum z) S)) r (of_true e)) in
            record { steady = a.steady; radius = a.radius; most = le_trans a.most (add-le-add (le_refl (often s)) (ending_child x level z zs)) }
        go false e = record { steady = takes z child s.kept.running st; radius = r; most = le-add_right (often s) (tally (eq_z (get_or x level (pos 0)) z) * ending x (suc level) zs) }

    each_after : (cs : List ℤ) → ((z : ℤ) → 0 < times z cs → Child z) → (s : Found) → Steady t s.kept.running → s.standing ≡ R →
        After (times (get_or x level (pos 0)) cs * ending x (suc level) zs) s (all_children (beside_outcome added) (running_centers t) t down level zs p c cs s)
    each_after [] all s st r = subst (After (0 * ending x (suc level) zs) s) (sym (all_nil (beside_outcome added) (running_centers t) t down level zs p c s)) (record { steady = st; radius = r; most = le-add_right (often s) (0 * ending x (suc level) zs) })
    each_after (z ∷ cs) all s st r =
        subst (After (times (get_or x level (pos 0)) (z ∷ cs) * ending x (suc level) zs) s) (sym (all_cons (beside_outcome added) (running_centers t) t down level zs p c z cs s))
        (let a = visit_after z (all z first) s st r in
        joined (tally (eq_z (get_or x level (pos 0)) z)) (times (get_or x level (pos 0)) cs) a (each_after cs (λ w h. all w (lt_of_lt_of_le h (le-add_left (times w cs) (tally (eq_z w z))))) (visited (walked_below (sum z) s) z s) a.steady a.radius))
      where
        first : 0 < times z (z ∷ cs)
        first = subst (λ (k : ℕ). 0 < k) (sym (times_same z z cs refl)) (omega arith)

        e : ℕ
        e = ending x (suc level) zs

        joined : (i j : ℕ) {s s' s'' : Found} → After (i * e) s s' → After (j * e) s' s'' → After ((i + j) * e) s s''
        joined i j {s} a b = record {
          steady = b.steady;
          radius = b.radius;
          most = le_trans b.most (le_trans (add-le-add a.most (le_refl (j * e))) (le_of_eq (add_assoc (often s) (i * e) (j * e) ∙ ap (λ (k : ℕ). often s + k) (sym (add-mul i j e)))));
        }

  walk_after : (d : ℕ) (zs : List ℤ) (p : Float) → Prefix t target limits R finite nonneg d zs p → (s : Found) → Steady t s.kept.running → s.standing ≡ R → After (ending x d zs) s (walk_all (beside_outcome added) (running_centers t) t d zs p s)
  walk_after zero zs p at s st r =
      subst (After (ending x 0 zs) s) (sym (walk_all_leaf (beside_outcome added) (running_centers t) t zs p s)) (record { steady = st; radius = r; most = le_of_eq (add_comm (tally (same_vector x zs)) (often s)) })
  walk_after (suc level) zs p at s st r =
      subst (After (ending x (suc level) zs) s) (sym (walk_all_level (beside_outcome added) (running_centers t) t level zs p s))
      (once
      (each_after level zs p c (walk_all (beside_outcome added) (running_centers t) t level) (λ z. 0 < times z cs)
      (λ z h. steady_update t target limits level (below t target limits R finite nonneg level zs p at s.kept.running st s.standing radius) z (child_integer t target limits R finite nonneg level zs p at s.kept.running st s.standing radius z h))
      (λ z h s' st' r' l. walk_after level (z ∷ zs) (add binary64 p (term (weight t level) c z)) (child_prefix t target limits R finite nonneg level zs p at s.kept.running st s.standing radius z h R (up_to_R t target limits R finite nonneg) l) s' st' r')
      cs (λ z h. h) s st r))
    where
      c : Float
      c = get_or s.kept.running.centers level nan

      radius : UpTo R s.standing
      radius = subst (UpTo R) (sym r) (up_to_R t target limits R finite nonneg)

      cs : List ℤ
      cs = children c (sub binary64 s.standing p) (weight t level)

      e : ℕ
      e = ending x (suc level) zs

      -- x has one coordinate at the level, and that is a child at most once
      once : {s' : Found} → After (times (get_or x level (pos 0)) cs * e) s s' → After e s s'
      once a = record {
        steady = a.steady;
        radius = a.radius;
        most =
            let few = le_trans (le_of_eq (child_times t target limits R finite nonneg level zs p at s.kept.running st s.standing radius (get_or x level (pos 0)))) (tally_most (is_child c (sub binary64 s.standing p) (weight t level) (get_or x level (pos 0)))) in
            le_trans a.most (add-le-add (le_refl (often s)) (le_trans (mul-le-mul_right e few) (le_of_eq (one-mul e))));
      }

  -- no vector stands twice among all that it finds
  pub running_once : count x (vectors_of (running_all collect added collect_leaf t target [] R).kept) ≤ 1
  running_once =
      le_trans (walk_after (dimension t) [] plus_zero (no_prefix t target limits R finite nonneg) (record { kept = beside [] (initialize_centers t target); standing = R; nodes = 0 }) (steady_start t target limits) refl).most
      (le_trans (le_of_eq (zero-add (ending x (dimension t) []))) (tally_most (same_vector (drop (dimension t) x) [])))

-- ---- the list walk
-- how it ends at a budget, by the walk without one
pub list_running_agrees : (t : Table) (target : List Float) (R : Float) (budget : ℕ) → Agrees budget (running_all collect added collect_leaf t target [] R) (running_list t target R budget)
list_running_agrees t target R budget = subst (Agrees budget (running_all collect added collect_leaf t target [] R)) (sym (running_list_is t target R budget)) (running_agrees collect added collect_leaf t target [] R budget)

module _ (t : Table) (target : List Float) (limits : Limits t target) (R : Float) (finite : Finite binary64 R) (nonneg : NonNegative binary64 R) where
  -- a point: a vector with a distance from 0 to R
  abbrev pub PointFound : ListPoint → Type 0
  PointFound p = T (is_vector t p.point) × UpTo R p.distance

  abbrev Points : List ListPoint → Float → Type 0
  Points ps S = (S ≡ R) × Every PointFound ps

  stands : (budget : ℕ) → Stands (λ k S. UpTo R S × Points k S) (running_list t target R budget)
  stands budget =
      subst (Stands (λ k S. UpTo R S × Points k S)) (sym (running_list_is t target R budget))
      (running_stands t target limits R finite nonneg collect added collect_leaf Points (λ zs d vector u k S w h. (w, (h.0, ((vector, u), h.1)))) [] (refl, tt) budget)

  -- the radius stays
  pub running_list_radius : (budget m : ℕ) (S : Float) → running_list t target R budget ≡ exhausted m S → S ≡ R
  running_list_radius budget m S e = (subst (Stands (λ k S. UpTo R S × Points k S)) e (stands budget)).1.1.0

  pub running_points : (budget : ℕ) (ps : List ListPoint) (S : Float) (m : ℕ) → running_list t target R budget ≡ ended ps S m → Every PointFound ps
  running_points budget ps S m e = (subst (Stands (λ k S. UpTo R S × Points k S)) e (stands budget)).1.1

  pub running_list_once : (budget : ℕ) (ps : List ListPoint) (S : Float) (m : ℕ) → running_list t target R budget ≡ ended ps S m → (x : List ℤ) → count x (vectors_of ps) ≤ 1
  running_list_once budget ps S m e x =
      let same = (agrees_ended (running_all collect added collect_leaf t target [] R) budget (running_list t target R budget) (list_running_agrees t target R budget) ps S m e).1 in
      subst (λ (l : List ListPoint). count x (vectors_of l) ≤ 1) same (running_once t target limits R finite nonneg x)

  -- so the sorted list is strictly in order
  pub running_ordered : (budget : ℕ) (ps : List ListPoint) (S : Float) (m : ℕ) → running_list t target R budget ≡ ended ps S m → StrictlyOrdered (sorted ps)
  running_ordered budget ps S m e = sorted_ordered (dimension t) ps (comparables ps (running_points budget ps S m e)) (running_list_once budget ps S m e)
    where
      comparables : (qs : List ListPoint) → Every PointFound qs → Every (Comparable (dimension t)) qs
      comparables [] h = tt
      comparables (q ∷ qs) (p, h) = (record { distance = p.1.plus; coordinates = vector_length t q.point p.0 }, comparables qs h)
