-- What the three nearest searches promise, by one law: of any call whose answer is its first refusal or that of the search from R. Assumes nothing.
use mathlib.Core.Path.{◌≡◌, refl, sym, ap, ◌∙◌, subst}
use mathlib.Core.Logic.{◌↔◌, inl, inr, ⊎_elim}
use mathlib.Core.Bool.{not, false≢true}
use mathlib.Core.List.{List, []}
use Prim.Native.Nat.{ℕ, ◌≤◌, ◌<◌}
use native.Mathlib.Nat.{le_refl, le_trans, le_of_eq, le_of_lt}
use native.Mathlib.Omega.{arith}
use lib.Dec.{T, lit≤, lit<}
use lib.ListN.{length}
use lib.IntN.{ℤ}
use lib.Ieee.{Float, binary64, lt}
use Rattle.rounding.specs.Kinds.{Finite, NonNegative}
use Rattle.rounding.specs.Doubles.{negative}
use Rattle.rounding.proofs.Interface.{nonneg_not_lt}
use Rattle.lists.specs.All.{All}
use Rattle.definitions.specs.Table.{Table, dimension, plus_zero, minus_zero}
use Rattle.definitions.specs.Distance.{distance, has_distance}
use Rattle.definitions.specs.Admitted.{opened}
use Rattle.definitions.specs.Walk.{Walked, ended, exhausted}
use Rattle.definitions.specs.Nearest.{Best, no_best, best, nearest_walk}
use Rattle.definitions.specs.Listing.{ListPoint}
use Rattle.definitions.specs.Running.{nearest_search}
use Rattle.definitions.specs.Refusals.{Refusal, outside_radius}
use Rattle.definitions.specs.Checks.{Verdict, first_refusal, target_fault}
use Rattle.definitions.specs.Calls.{Answer, found, refused, after, NearestPoint, end_of_nearest, nearest_within, nearest_output}
use Rattle.definitions.proofs.Distances.{partial_nil}
use Rattle.definitions.proofs.Admissions.{vector_empty, admitted_vector}
use Rattle.definitions.proofs.Answers.{after_pass, found≢refused, refused_same, end_exhausted, end_nothing, end_point, within_is, by_dimension, search_small, search_large, output_found}
use Rattle.theorems.specs.Counting.{NumberOf}
use Rattle.theorems.specs.Prefixes.{opened_prefixes}
use Rattle.theorems.specs.Refusals.{Fits, NoneFits, FirstIsLeast, FirstIndices}
use Rattle.theorems.specs.Ordered.{BeginsAt, StrictlyOrdered}
use Rattle.theorems.specs.Answers.{Nearest, Listed, NoMinusZero, Under, Demand1}
use Rattle.theorems.specs.Promises.{StandingRadius, NearestNodes, SearchPromises, NothingToFind}
use Rattle.theorems.proofs.Limits.{Limits}
use Rattle.theorems.proofs.Counts.{same_length}
use Rattle.theorems.proofs.Prefixes.{opened_once}
use Rattle.theorems.proofs.Budget.{nearest_exhausted}
use Rattle.theorems.proofs.Sums.{distance_nonneg, admitted_distance}
use Rattle.theorems.proofs.Least.{nearest_point, nearest_distance, nearest_nodes, nearest_enough, outside_exactly}
use Rattle.theorems.proofs.Standing.{exhausted_radius}
use Rattle.theorems.proofs.RunningNearest.{running_radius}
use Rattle.theorems.proofs.FirstListed.{first_listed}
use Rattle.theorems.proofs.FirstRefusal.{decision, none_passes}
use Rattle.theorems.proofs.MinusZero.{Clear, a_whole, one_double, call_clear}
use Rattle.theorems.proofs.RefusedCalls.{demand_1, own_refusal, output_unchanged, nearest_own_numbers}
use Rattle.theorems.proofs.Endings.{point_walked, refused_nothing, refused_exhausted}
use Rattle.theorems.proofs.EndsAsWalk.{ends_as_walk}

-- what the laws of a walk ask for: the limits, and a finite radius that is not negative; and the radius has the sign plus
pub record Ready (t : Table) (target : List Float) (R : Float) : Type 0 where
  pub limits : Limits t target
  pub finite : Finite binary64 R
  pub plus : T (not (lt R plus_zero))
  pub nonneg : NonNegative binary64 R

pub ready_from : {t : Table} {target : List Float} {R : Float} → Limits t target → Finite binary64 R → NonNegative binary64 R → Ready t target R
ready_from limits finite nonneg = record { limits = limits; finite = finite; plus = nonneg_not_lt nonneg; nonneg = nonneg }

pub number_of_prefixes : {t : Table} {target : List Float} {R : Float} → Ready t target R → NumberOf (opened t target R) (length (opened_prefixes t target R))
number_of_prefixes {t} {target} {R} r = record { all = opened_prefixes t target R; once = opened_once t target r.limits R r.finite r.plus; long = refl }

-- and it is the only such number
pub only_number_of_prefixes : {t : Table} {target : List Float} {R : Float} → Ready t target R → {k : ℕ} → NumberOf (opened t target R) k → length (opened_prefixes t target R) ≡ k
only_number_of_prefixes {t} {target} {R} r o = same_length (opened t target R) (opened_prefixes t target R) o.all (opened_once t target r.limits R r.finite r.plus) o.once ∙ o.long

-- what has the sign plus is not minus zero
pub plus_sign : {x y : Float} → NonNegative binary64 x → y ≡ x → y ≡ minus_zero → ⊥
plus_sign p same z = false≢true (sym p.plus ∙ ap negative (sym same ∙ z))

-- the radius that stands when a search's budget is used up has the sign plus: with running centres it is from 0 to R, without them it is R or the distance of a vector
pub search_radius : {t : Table} {target : List Float} {R : Float} → Ready t target R → (budget m : ℕ) (S : Float) → nearest_search t target R budget ≡ exhausted m S → NonNegative binary64 S
search_radius {t} {target} {R} r budget m S e = elim (by_dimension t) [
  | inl small ↦ stood (exhausted_radius t target r.limits R r.finite r.plus budget m S (sym (search_small t target R budget small) ∙ e))
  | inr large ↦ (running_radius t target r.limits R r.finite r.nonneg budget m S (sym (search_large t target R budget large) ∙ e)).plus
]
  where
    stood : StandingRadius t target R S → NonNegative binary64 S
    stood (inl s) = subst (NonNegative binary64) (sym s) r.nonneg
    stood (inr (z, a, s)) = subst (NonNegative binary64) (sym s) (distance_nonneg t target r.limits z (admitted_vector t target R z a))

-- a call with these checks that is otherwise the search from R
pub record SearchCall (checks : List Verdict) (t : Table) (target : List Float) (R : Float) (budget : ℕ) (answer : Answer NearestPoint) : Type 0 where
  pub below : (e : Refusal) → Fits checks e → e.number < 15
  pub least : FirstIsLeast checks
  pub indices : FirstIndices checks t target_fault target
  pub clear : All Clear checks
  pub is : answer ≡ after (first_refusal checks) (nearest_within t target R budget)
  pub ready : NoneFits checks → Ready t target R

module _ {checks : List Verdict} {t : Table} {target : List Float} {R : Float} {budget : ℕ} {answer : Answer NearestPoint} (call : SearchCall checks t target R budget answer) where
  abbrev walk : Walked Best
  walk = nearest_search t target R budget

  -- up to dimension 23 it is that of the smaller dimensions
  pub small_walk : dimension t ≤ 23 → {w : Walked Best} → walk ≡ w → nearest_walk t target R budget ≡ w
  small_walk small e = sym (search_small t target R budget small) ∙ e

  ends : answer ≡ after (first_refusal checks) (end_of_nearest R walk)
  ends = call.is ∙ ap (after (first_refusal checks)) (within_is t target R budget)

  pub by_walk : NoneFits checks → answer ≡ end_of_nearest R walk
  by_walk f = ends ∙ after_pass (first_refusal checks) (end_of_nearest R walk) (none_passes checks f)

  -- a refusal above 15 comes where no check fits and the walk ends with nothing
  pub refused_above_15 : (e : Refusal) → answer ≡ refused e → 15 < e.number → NoneFits checks × ((S : Float) × (m : ℕ) × (walk ≡ ended no_best S m))
  refused_above_15 e q h =
      let f = own_refusal call.below (le_refl 15) (lit≤ tt) (λ f. nearest_own_numbers R walk) ends e q (le_of_lt h) in
      (f, refused_nothing R walk e h (sym (by_walk f) ∙ q))

  -- the radius that stood with 15 has the sign plus, so neither 15 nor 16 carries minus zero
  end_clear : NoneFits checks → (w : Walked Best) → walk ≡ w → (e : Refusal) → end_of_nearest R w ≡ refused e → NoMinusZero e
  end_clear f (exhausted m S) w e q = subst NoMinusZero (refused_same (sym (end_exhausted R m S) ∙ q)) (a_whole (one_double (plus_sign (search_radius (call.ready f) budget m S w) refl)))
  end_clear f (ended no_best S m) w e q = subst NoMinusZero (refused_same (sym (end_nothing R S m) ∙ q)) (one_double (plus_sign (call.ready f).nonneg refl))
  end_clear f (ended (best zs) S m) w e q = absurd (found≢refused (sym (end_point R zs S m) ∙ q))

  no_minus_zero : (e : Refusal) → answer ≡ refused e → NoMinusZero e
  no_minus_zero = call_clear call.clear ends (λ f. end_clear f walk refl)

  -- promise 1, whatever the output slice holds, of a walk that can end under 15 and k
  demand : {k : ℕ} → 15 ≤ k → (NoneFits checks → (e : Refusal) → end_of_nearest R walk ≡ refused e → Under 15 k e) → (out : List ℤ) → Demand1 checks 15 k answer (nearest_output answer out ≡ out)
  demand late own out = demand_1 call.below (le_refl 15) late own ends (output_unchanged answer out) (decision checks)

  -- every such search can end under no other than 15 and 16
  pub demand_16 : (out : List ℤ) → Demand1 checks 15 16 answer (nearest_output answer out ≡ out)
  demand_16 = demand (lit≤ tt) (λ f. nearest_own_numbers R walk)

  -- one whose walk never ends with nothing, under 15 alone
  pub demand_15 : (NoneFits checks → (S : Float) (m : ℕ) → walk ≡ ended no_best S m → ⊥) → (out : List ℤ) → Demand1 checks 15 15 answer (nearest_output answer out ≡ out)
  demand_15 finds = demand (le_refl 15) own
    where
      own : NoneFits checks → (e : Refusal) → end_of_nearest R walk ≡ refused e → Under 15 15 e
      own f e q = ⊎_elim inl (λ n. let (S, m, w) = refused_nothing R walk e (subst (λ (k : ℕ). 15 < k) (sym n) (lit< tt)) q in absurd (finds f S m w)) (nearest_own_numbers R walk e q)

  -- a point found: what the laws of a walk ask for holds, and the walk ended with that point
  pub walked : (a : NearestPoint) → answer ≡ found a → Ready t target R × (walk ≡ ended (best a.point) a.distance a.nodes)
  walked a q = let f = (demand_16 []).answers.1 (inl (a, q)) in (call.ready f, point_walked R walk a (sym (by_walk f) ∙ q))

  found_nearest : dimension t ≤ 23 → (a : NearestPoint) → answer ≡ found a → Nearest t target R a.point
  found_nearest small a q = let (r, w) = walked a q in nearest_point t target r.limits R r.finite r.plus budget a.point a.distance a.nodes (small_walk small w)

  found_distance : dimension t ≤ 23 → (a : NearestPoint) → answer ≡ found a → a.distance ≡ distance t target a.point
  found_distance small a q = let (r, w) = walked a q in sym (nearest_distance t target r.limits R r.finite r.plus budget a.point a.distance a.nodes (small_walk small w))

  zero_distance : dimension t ≡ 0 → (a : NearestPoint) → answer ≡ found a → a.distance ≡ plus_zero
  zero_distance e a q =
      let small : dimension t ≤ 23 = omega (arith, e) in
      found_distance small a q ∙ ap (distance t target) (vector_empty t a.point (found_nearest small a q).vector e) ∙ partial_nil t target

  -- a list of the vectors admitted at R begins at its distance
  pub found_first : dimension t ≤ 23 → (a : NearestPoint) → answer ≡ found a → (ps : List ListPoint) (m : ℕ) → Listed t target R ps m → StrictlyOrdered ps → BeginsAt a.distance ps
  found_first small a q ps m l s = subst (λ (d : Float). BeginsAt d ps) (sym (found_distance small a q)) (first_listed t target (walked a q).0.limits R a.point (found_nearest small a q) ps m l s)

  module _ (out : List ℤ) where
    -- out holds a point found
    pub written : (a : NearestPoint) → answer ≡ found a → nearest_output answer out ≡ a.point
    written a q = ap (λ (x : Answer NearestPoint). nearest_output x out) q ∙ output_found a out

    point : dimension t ≤ 23 → (a : NearestPoint) → answer ≡ found a → Nearest t target R (nearest_output answer out)
    point small a q = subst (Nearest t target R) (sym (written a q)) (found_nearest small a q)

    own_distance : dimension t ≤ 23 → (a : NearestPoint) → answer ≡ found a → (a.distance ≡ distance t target (nearest_output answer out)) × T (has_distance t target (nearest_output answer out))
    own_distance small a q =
        let r = (walked a q).0 in
        (found_distance small a q ∙ ap (distance t target) (sym (written a q)), admitted_distance t target r.limits R r.finite r.plus (nearest_output answer out) (point small a q).admits)

    nodes : dimension t ≤ 23 → NoneFits checks → NearestNodes t target R budget answer
    nodes small f =
        let r = call.ready f in
        record {
          prefixes = length (opened_prefixes t target R);
          opened_number = number_of_prefixes r;
          enough_budget = λ h m S q. nearest_enough t target r.limits R r.finite r.plus budget h m S (small_walk small (refused_exhausted R walk m S (sym (by_walk f) ∙ q)));
          most_nodes = λ a q. nearest_nodes t target r.limits R r.finite r.plus budget (best a.point) a.distance a.nodes (small_walk small (walked a q).1);
          values_of_15 = λ m S q.
              let w = small_walk small (refused_exhausted R walk m S (sym (by_walk f) ∙ q)) in
              (nearest_exhausted t target R budget m S w, exhausted_radius t target r.limits R r.finite r.plus budget m S w);
        }

    pub search_promises : {k : ℕ} → Demand1 checks 15 k answer (nearest_output answer out ≡ out) → SearchPromises checks k t target R budget out answer (nearest_output answer out)
    search_promises demanded =
        record {
          demand_1 = demanded;
          least_number = call.least;
          first_indices = call.indices;
          no_minus_zero = no_minus_zero;
          ends = λ small f. ends_as_walk R (nearest_walk t target R budget) out answer (by_walk f ∙ ap (end_of_nearest R) (search_small t target R budget small));
          point = point;
          own_distance = own_distance;
          zero_distance = zero_distance;
          nodes = nodes;
        }

  -- 16 comes if and only if no check fits, R admits no vector and the budget has a node for every opened prefix
  pub nothing_exactly : dimension t ≤ 23 → (answer ≡ refused (outside_radius R)) ↔ NothingToFind checks t target R budget
  nothing_exactly small = (there, back)
    where
      there : answer ≡ refused (outside_radius R) → NothingToFind checks t target R budget
      there q =
          let (f, w) = refused_above_15 (outside_radius R) q (lit< tt) in
          let r = call.ready f in
          let x = (outside_exactly t target r.limits R r.finite r.plus budget).0 (w.0, w.1, small_walk small w.2) in
          (f, x.0, length (opened_prefixes t target R), number_of_prefixes r, x.1)

      back : NothingToFind checks t target R budget → answer ≡ refused (outside_radius R)
      back (f, n, k, o, h) =
          let r = call.ready f in
          let w = (outside_exactly t target r.limits R r.finite r.plus budget).1 (n, le_trans (le_of_eq (only_number_of_prefixes r o)) h) in
          by_walk f ∙ ap (end_of_nearest R) (search_small t target R budget small ∙ w.2) ∙ end_nothing R w.0 w.1
