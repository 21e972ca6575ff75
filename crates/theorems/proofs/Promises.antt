-- Each call keeps its promises, for every input of doubles: the records of `specs/Promises.antt` for the calls of the specification. Assumes nothing.
use mathlib.Core.Path.{◌≡◌, refl, sym, ap, ◌∙◌, subst}
use mathlib.Core.List.{List}
use mathlib.Core.Logic.{inl, inr}
use Prim.Native.Nat.{ℕ, ◌≤◌}
use native.Mathlib.Nat.{le_refl}
use lib.Dec.{T, lit≤}
use lib.ListN.{length}
use lib.IntN.{ℤ}
use lib.Ieee.{Float, binary64, fits, lt}
use lib.Ieee.Scale.{finite}
use Rattle.definitions.specs.Table.{Table, dimension, plus_zero, minus_zero, largest_dimension, largest_searched}
use Rattle.definitions.specs.Distance.{distance}
use Rattle.definitions.specs.Admitted.{all_i64, is_vector}
use Rattle.definitions.specs.Listing.{list_walk}
use Rattle.definitions.specs.Running.{list_search}
use Rattle.definitions.specs.Seeds.{nearest_plane, widened}
use Rattle.definitions.specs.Refusals.{Refusal}
use Rattle.definitions.specs.Checks.{Verdict, pass, first_refusal, radius_check, handed_on}
use Rattle.definitions.specs.Calls.{Answer, found, refused, after, distance_checks, point_distance, NearestPoint, nearest_within, search_checks, nearest, widened_search, nearest_seeded, ml_radius, nearest_ml, nearest_output, ListAnswer, end_of_list, list, list_distances, list_points, checks_of_round, round, round_output, plane, plane_output, plane_coefficients}
use Rattle.definitions.proofs.Verdicts.{append_passes}
use Rattle.definitions.proofs.Admissions.{vector_intro}
use Rattle.definitions.proofs.Passed.{SearchPassed, radius_passed, nearest_passed, SeededPassed, seeded_passed, ml_passed, list_passed, round_refused, round_written, plane_refused, plane_written}
use Rattle.definitions.proofs.Answers.{after_pass, after_refuse, found≢refused, refused_same, nearest_checks_are, nearest_is, widened_search_is, seeded_checks_are, seeded_is, ml_checks_are, ml_is, list_checks_are, list_is, list_search_small, distances_found, points_found, round_is, plane_is}
use Rattle.definitions.proofs.HandedOn.{own_finite, handed_on_finite, handed_on_nonneg, handed_on_above, handed_on_below, nearest_again, seeded_again, list_again, minus_as_plus}
use Rattle.theorems.specs.Doubles.{of_doubles}
use Rattle.theorems.specs.Refusals.{NoneFits, FirstFits}
use Rattle.theorems.specs.Ordered.{StrictlyOrdered}
use Rattle.theorems.specs.Answers.{Listed, SameAdmitted, Demand1}
use Rattle.theorems.specs.Promises.{nearest_call_checks, NearestPromises, seeded_call_checks, SeededPromises, ml_call_checks, MlPromises, distance_call_checks, DistancePromises, list_call_checks, ListPromises, RoundPromises, plane_call_checks, PlanePromises}
use Rattle.theorems.proofs.Limits.{Limits}
use Rattle.theorems.proofs.WiderRadius.{same_admitted}
use Rattle.theorems.proofs.Others.{Radius, OwnList, listed_same, bounds_at}
use Rattle.theorems.proofs.Checked.{held, failed, limits_of_checks}
use Rattle.theorems.proofs.Seeded.{widened_same, nearest_plane_vector, ml_radius_finite, ml_radius_nonneg, ml_radius_within}
use Rattle.theorems.proofs.FirstRefusal.{Decision, decision, first_refuses, first_least, numbers_below, none_passes}
use Rattle.theorems.proofs.RefusedCalls.{demand_1, verdict_demand_1, slices_unchanged, list_own_numbers}
use Rattle.theorems.proofs.CallNumbers.{nearest_numbered, nearest_indices, seeded_numbered, seeded_indices, ml_numbered, ml_indices, distance_numbered, distance_indices, list_numbered, list_indices, round_numbered, round_index, plane_numbered, plane_indices}
use Rattle.theorems.proofs.Accepted.{nearest_accepts, seeded_accepts, ml_accepts, distance_accepts, list_accepts, round_accepts, plane_accepts}
use Rattle.theorems.proofs.MinusZero.{nearest_clear, seeded_clear, ml_clear, list_clear, call_clear}
use Rattle.theorems.proofs.EndsAsWalk.{ends_as_list_walk}
use Rattle.theorems.proofs.SearchCalls.{Ready, ready_from, SearchCall, demand_16, found_first, search_promises, nothing_exactly}
use Rattle.theorems.proofs.CandidateCalls.{widening, ready_widened, Candidate, candidate_demand, from_candidate}
use Rattle.theorems.proofs.ListCall.{list_found, list_no_minus_zero, list_search_radius, list_numbers}

-- ---- the checks passed, on a table and a target of doubles
limits_of_search : (largest : ℕ) (t : Table) (target : List Float) (out : List ℤ) → largest ≤ 64 → T (of_doubles t target) → SearchPassed largest t target out → Limits t target
limits_of_search largest t target out few d p = limits_of_checks largest t target few d p.checked (sym p.shape.shape.target_length) p.targets

ready_at : (t : Table) (target : List Float) → Limits t target → (R : Float) → T (fits binary64 R) → radius_check R ≡ pass → Ready t target (handed_on R)
ready_at t target limits R d q = ready_from limits (handed_on_finite R d q) (handed_on_nonneg R d q)

-- a radius that passed, as the call was given it
own_radius : (R : Float) → T (fits binary64 R) → radius_check R ≡ pass → Radius R
own_radius R d q = record { finite = own_finite R d q; plus = failed (lt R plus_zero) (radius_passed R q).1 }

-- it admits and opens what the one handed on does
own_at : (t : Table) (target : List Float) → Limits t target → (R : Float) → T (fits binary64 R) → radius_check R ≡ pass → SameAdmitted t target R (handed_on R)
own_at t target limits R d q =
    let r = ready_at t target limits R d q in
    let own = own_radius R d q in
    same_admitted t target limits R (handed_on R) own.finite own.plus r.finite r.plus (handed_on_above R d q) (handed_on_below R d q)

-- ---- list
module _ (t : Table) (target distances : List Float) (points : List ℤ) (R : Float) (budget : ℕ) (doubles : T (of_doubles t target)) (double : T (fits binary64 R)) where
  abbrev answer : Answer ListAnswer
  answer = list t target distances points R budget

  abbrev end : Answer ListAnswer
  end = end_of_list (length distances) (list_search t target (handed_on R) budget)

  pub is : answer ≡ after (first_refusal (list_call_checks t target distances points R budget)) end
  is = list_is t target distances points R budget ∙ ap (λ (v : Verdict). after v end) (list_checks_are t target distances points R budget)

  pub list_pass : NoneFits (list_call_checks t target distances points R budget) → Limits t target × (radius_check R ≡ pass)
  list_pass f =
      let p = list_passed largest_searched t target distances points R budget (list_checks_are t target distances points R budget ∙ none_passes (list_call_checks t target distances points R budget) f) in
      (limits_of_checks largest_searched t target (lit≤ tt) doubles p.checked (sym p.shape.target_length) p.targets, p.radius)

  pub list_ready : NoneFits (list_call_checks t target distances points R budget) → Ready t target (handed_on R)
  list_ready f = let (limits, passed) = list_pass f in ready_at t target limits R double passed

  pub by_walk : NoneFits (list_call_checks t target distances points R budget) → answer ≡ end
  by_walk f = is ∙ after_pass (first_refusal (list_call_checks t target distances points R budget)) end (none_passes (list_call_checks t target distances points R budget) f)

  pub demand : Demand1 (list_call_checks t target distances points R budget) 15 18 answer ((list_distances answer distances ≡ distances) × (list_points answer points ≡ points))
  demand = demand_1 (numbers_below 15 (list_numbered t target distances points R budget) tt) (le_refl 15) (lit≤ tt) (λ f. list_own_numbers _ _) is (slices_unchanged answer distances points) (decision (list_call_checks t target distances points R budget))

  -- up to dimension 23 the walk is that of the smaller dimensions
  by_small : dimension t ≤ 23 → NoneFits (list_call_checks t target distances points R budget) → answer ≡ end_of_list (length distances) (list_walk t target (handed_on R) budget)
  by_small small f = by_walk f ∙ ap (end_of_list (length distances)) (list_search_small t target (handed_on R) budget small)

  listed_ordered : dimension t ≤ 23 → (a : ListAnswer) → answer ≡ found a → Listed t target (handed_on R) a.points a.nodes × StrictlyOrdered a.points
  listed_ordered small a q = let f = demand.answers.1 (inl (a, q)) in list_found (list_ready f) budget (length distances) (by_small small f) a q

  -- a list found, at the call's own radius
  pub own_list : dimension t ≤ 23 → (a : ListAnswer) → answer ≡ found a → OwnList t target R a
  own_list small a q =
      let f = demand.answers.1 (inl (a, q)) in
      let (limits, passed) = list_pass f in
      let (listed, ordered) = listed_ordered small a q in
      record { limits = limits; radius = own_radius R double passed; listed = listed_same (own_at t target limits R double passed) listed; ordered = ordered }

  pub list_promises : ListPromises t target distances points R budget answer (list_distances answer distances) (list_points answer points)
  list_promises =
      record {
        accepts = list_accepts t target distances points R budget;
        demand_1 = demand;
        least_number = first_least 0 (list_numbered t target distances points R budget) tt;
        first_indices = list_indices t target distances points R budget;
        no_minus_zero = call_clear (list_clear t target distances points R budget) is (λ f. list_no_minus_zero (list_ready f).nonneg (length distances) (list_search t target (handed_on R) budget) (list_search_radius (list_ready f) budget));
        ends = λ small f. ends_as_list_walk (list_walk t target (handed_on R) budget) distances points answer (by_small small f);
        exact = λ small a q. (listed_ordered small a q).0;
        order = λ small a q. (listed_ordered small a q).1;
        slices = λ a q. (ap (λ (x : Answer ListAnswer). list_distances x distances) q ∙ distances_found a distances, ap (λ (x : Answer ListAnswer). list_points x points) q ∙ points_found a points);
        numbers = λ small f. list_numbers (list_ready f) budget (length distances) (by_small small f);
        radius_bounds = λ small f. let (limits, passed) = list_pass f in bounds_at limits (own_radius R double passed);
        own_radius = λ f. let (limits, passed) = list_pass f in own_at t target limits R double passed;
        at_minus_zero = λ z.
            let same : answer ≡ list t target distances points plus_zero budget =
            ap (λ (r : Float). list t target distances points r budget) z ∙ minus_as_plus (λ r. list t target distances points r budget) (λ r. list_again t target r budget distances points)
            in
            (same, ap (λ (x : Answer ListAnswer). list_distances x distances) same, ap (λ (x : Answer ListAnswer). list_points x points) same);
      }

-- ---- a nearest search at minus zero, of the radii and the answers at them
zero_alike : (out : List ℤ) (call : Float → Answer NearestPoint) → ((R : Float) → call (handed_on R) ≡ call R) → (R : Float) → R ≡ minus_zero → (call R ≡ call plus_zero) × (nearest_output (call R) out ≡ nearest_output (call plus_zero) out)
zero_alike out call again R z = let same = ap call z ∙ minus_as_plus call again in (same, ap (λ (x : Answer NearestPoint). nearest_output x out) same)

-- ---- nearest
module _ (t : Table) (target : List Float) (out : List ℤ) (R : Float) (budget : ℕ) (doubles : T (of_doubles t target)) (double : T (fits binary64 R)) where
  pub nearest_pass : NoneFits (nearest_call_checks t target out R budget) → Limits t target × (radius_check R ≡ pass)
  nearest_pass f =
      let p = nearest_passed largest_searched t target out R budget (nearest_checks_are t target out R budget ∙ none_passes (nearest_call_checks t target out R budget) f) in
      (limits_of_search largest_searched t target out (lit≤ tt) doubles p.search, p.radius)

  pub nearest_call : SearchCall (nearest_call_checks t target out R budget) t target (handed_on R) budget (nearest t target out R budget)
  nearest_call = record {
    below = numbers_below 15 (nearest_numbered t target out R budget) tt;
    least = first_least 0 (nearest_numbered t target out R budget) tt;
    indices = nearest_indices t target out R budget;
    clear = nearest_clear t target out R budget;
    is = nearest_is t target out R budget ∙ ap (λ (v : Verdict). after v (nearest_within t target (handed_on R) budget)) (nearest_checks_are t target out R budget);
    ready = λ f. let (limits, passed) = nearest_pass f in ready_at t target limits R double passed;
  }

  pub nearest_promises : NearestPromises t target out R budget (nearest t target out R budget) (nearest_output (nearest t target out R budget) out)
  nearest_promises =
      record {
        accepts = nearest_accepts t target out R budget;
        search = search_promises nearest_call out (demand_16 nearest_call out);
        gives_16 = nothing_exactly nearest_call;
        list_first = λ small a q distances points b l e.
            let (listed, ordered) = listed_ordered t target distances points R b doubles double small l e in
            found_first nearest_call small a q l.points l.nodes listed ordered;
        own_radius = λ f. let (limits, passed) = nearest_pass f in own_at t target limits R double passed;
        at_minus_zero = zero_alike out (λ r. nearest t target out r budget) (λ r. nearest_again t target r budget out) R;
      }

-- ---- a search from a candidate: its answer as that of the search from the widened radius
widened_end : (t : Table) (target : List Float) (R : Float) (budget : ℕ) {v w : Verdict} → v ≡ w → after v (widened_search t target R budget) ≡ after w (nearest_within t target (widened (dimension t) R) budget)
widened_end t target R budget {w = w} are = ap (λ (x : Verdict). after x (widened_search t target R budget)) are ∙ ap (after w) (widened_search_is t target R budget)

-- ---- nearest_seeded
module _ (t : Table) (target : List Float) (out candidate : List ℤ) (R : Float) (budget : ℕ) (doubles : T (of_doubles t target)) (double : T (fits binary64 R)) (integers : T (all_i64 candidate)) where
  seeded_pass : NoneFits (seeded_call_checks t target out candidate R budget) → SeededPassed largest_dimension t target out candidate R budget
  seeded_pass f = seeded_passed largest_dimension t target out candidate R budget (seeded_checks_are t target out candidate R budget ∙ none_passes (seeded_call_checks t target out candidate R budget) f)

  seeded_candidate : NoneFits (seeded_call_checks t target out candidate R budget) → Candidate t target out candidate (handed_on R) budget
  seeded_candidate f =
      let p = seeded_pass f in
      record {
        start = widening (ready_at t target (limits_of_search largest_dimension t target out (lit≤ tt) doubles p.search) R double p.radius) p.wide;
        vector = vector_intro t candidate (sym p.candidate_length_lem) integers;
        within = failed (lt (handed_on R) (distance t target candidate)) p.inside;
        searched = (append_passes (search_checks largest_dimension t target out) _ (none_passes (seeded_call_checks t target out candidate R budget) f)).0;
        few = p.few;
      }

  seeded_call : SearchCall (seeded_call_checks t target out candidate R budget) t target (widened (dimension t) (handed_on R)) budget (nearest_seeded t target out candidate R budget)
  seeded_call = record {
    below = numbers_below 15 (seeded_numbered t target out candidate R budget) tt;
    least = first_least 0 (seeded_numbered t target out candidate R budget) tt;
    indices = seeded_indices t target out candidate R budget;
    clear = seeded_clear t target out candidate R budget;
    is = seeded_is t target out candidate R budget ∙ widened_end t target (handed_on R) budget (seeded_checks_are t target out candidate R budget);
    ready = λ f. ready_widened (seeded_candidate f).start;
  }

  pub seeded_promises : SeededPromises t target out candidate R budget (nearest_seeded t target out candidate R budget) (nearest_output (nearest_seeded t target out candidate R budget) out)
  seeded_promises =
      record {
        accepts = seeded_accepts t target out R budget candidate;
        search = search_promises seeded_call out (candidate_demand seeded_call out candidate seeded_candidate);
        from_candidate = from_candidate seeded_call out candidate seeded_candidate;
        own_radius = λ f. widened_same (dimension t) R (seeded_candidate f).start.before.limits.small double;
        at_minus_zero = zero_alike out (λ r. nearest_seeded t target out candidate r budget) (λ r. seeded_again t target r budget out candidate) R;
      }

-- ---- nearest_ml
module _ (t : Table) (target : List Float) (out : List ℤ) (budget : ℕ) (doubles : T (of_doubles t target)) where
  ml_candidate : NoneFits (ml_call_checks t target out budget) → Candidate t target out (nearest_plane t target).point (ml_radius t target) budget
  ml_candidate f =
      let passed = none_passes (ml_call_checks t target out budget) f in
      let p = ml_passed largest_dimension t target out budget (ml_checks_are t target out budget ∙ passed) in
      let limits = limits_of_search largest_dimension t target out (lit≤ tt) doubles p.search in
      let has = held (finite (ml_radius t target)) p.total in
      record {
        start = widening (ready_from limits (ml_radius_finite t target limits has) (ml_radius_nonneg t target limits has)) p.wide;
        vector = nearest_plane_vector t target;
        within = ml_radius_within t target limits has;
        searched = (append_passes (search_checks largest_dimension t target out) _ passed).0;
        few = p.few;
      }

  ml_call : SearchCall (ml_call_checks t target out budget) t target (widened (dimension t) (ml_radius t target)) budget (nearest_ml t target out budget)
  ml_call = record {
    below = numbers_below 15 (ml_numbered t target out budget) tt;
    least = first_least 0 (ml_numbered t target out budget) tt;
    indices = ml_indices t target out budget;
    clear = ml_clear t target out budget;
    is = ml_is t target out budget ∙ widened_end t target (ml_radius t target) budget (ml_checks_are t target out budget);
    ready = λ f. ready_widened (ml_candidate f).start;
  }

  pub ml_promises : MlPromises t target out budget (nearest_ml t target out budget) (nearest_output (nearest_ml t target out budget) out)
  ml_promises =
      record {
        accepts = ml_accepts t target out budget;
        search = search_promises ml_call out (candidate_demand ml_call out (nearest_plane t target).point ml_candidate);
        from_candidate = from_candidate ml_call out (nearest_plane t target).point ml_candidate;
      }

-- ---- round, nearest_plane
module _ (coefficients : List Float) (out : List ℤ) where
  pub round_promises : RoundPromises coefficients out (round coefficients out) (round_output (round coefficients out) coefficients out)
  round_promises =
      record {
        accepts = round_accepts coefficients out;
        demand_1 = verdict_demand_1 (round_is coefficients out) (λ e. round_refused coefficients out (round coefficients out)) (decision (checks_of_round coefficients out));
        least_number = first_least 0 (round_numbered coefficients out) tt;
        first_index = round_index coefficients out;
        output = round_written coefficients out (round coefficients out);
      }

module _ (t : Table) (coefficients : List Float) (out : List ℤ) where
  abbrev verdict : Verdict
  verdict = plane t coefficients out

  pub plane_promises : PlanePromises t coefficients out verdict (plane_coefficients verdict t coefficients) (plane_output verdict t coefficients out)
  plane_promises =
      record {
        accepts = plane_accepts t coefficients out;
        demand_1 = verdict_demand_1 (plane_is t coefficients out) (λ e. plane_refused coefficients out t verdict) (decision (plane_call_checks t coefficients out));
        least_number = first_least 0 (plane_numbered t coefficients out) tt;
        first_indices = plane_indices t coefficients out;
        output = λ q. let w = plane_written coefficients out t verdict q in (w.0, subst (λ (z : List ℤ). T (is_vector t z)) (sym w.0) (nearest_plane_vector t coefficients));
        residuals = λ q. (plane_written coefficients out t verdict q).1;
      }

-- ---- distance
module _ (t : Table) (target : List Float) (point : List ℤ) where
  abbrev sum : Float
  sum = distance t target point

  distance_is : point_distance t target point ≡ after (first_refusal (distance_call_checks t target point)) (found sum)
  unfolding point_distance distance_checks
  distance_is = refl

  told : Decision (distance_call_checks t target point) → (e : Refusal) → point_distance t target point ≡ refused e → FirstFits (distance_call_checks t target point) e
  told (inl (d, f, q)) e r = subst (FirstFits (distance_call_checks t target point)) (refused_same (sym (distance_is ∙ after_refuse _ (found sum) d q) ∙ r)) f
  told (inr (none, q)) e r = absurd (found≢refused (sym (distance_is ∙ after_pass _ (found sum) q) ∙ r))

  fits_none : Decision (distance_call_checks t target point) → point_distance t target point ≡ found sum → NoneFits (distance_call_checks t target point)
  fits_none (inl (d, f, q)) r = absurd (found≢refused (sym r ∙ distance_is ∙ after_refuse _ (found sum) d q))
  fits_none (inr (none, q)) r = none

  pub distance_promises : DistancePromises t target point (point_distance t target point)
  distance_promises =
      let decided = decision (distance_call_checks t target point) in
      record {
        accepts = distance_accepts t target point;
        refuses = λ e. (λ f. distance_is ∙ after_refuse _ (found sum) e (first_refuses f), told decided e);
        answers = (λ f. distance_is ∙ after_pass _ (found sum) (none_passes (distance_call_checks t target point) f), fits_none decided);
        least_number = first_least 0 (distance_numbered t target point) tt;
        first_indices = distance_indices t target point;
      }
