-- No check of a call fits exactly where the call accepts its input. Assumes nothing.
use mathlib.Core.Path.{◌≡◌, refl, sym, ap, ◌∙◌, subst}
use mathlib.Core.Bool.{Bool, true, false, not, ◌&&◌, ◌||◌}
use mathlib.Core.List.Memᴰ
use mathlib.Core.List.{List}
use mathlib.Core.Logic.{◌↔◌, ⊎_elim}
use Prim.Native.Nat.{ℕ, ◌+◌, ◌*◌, ◌<◌, ◌≤◌}
use native.Mathlib.Omega.{arith}
use borrow.Author.Tests.{ltb-false, le-ltb, eq-eqb, eqb-true, not-false}
use lib.Dec.{T, ltb, eqb}
use lib.ListN.{length, get_or}
use lib.IntN.{ℤ}
use lib.Ieee.{Float, nan, lt}
use lib.Ieee.Scale.{finite}
use Rattle.rounding.specs.Doubles.{magnitude}
use Rattle.lists.specs.All.{All, none, more}
use Rattle.lists.proofs.Each.{all_append}
use Rattle.definitions.specs.Table.{Table, dimension, weight, coordinate, plus_zero, coord_limit, largest_dimension, largest_searched, largest_list}
use Rattle.definitions.specs.Distance.{distance}
use Rattle.definitions.specs.Seeds.{widened}
use Rattle.definitions.specs.Refusals.{Refusal, table_size, mu_non_finite, mu_range, weight_range, length_mismatch, non_finite, candidate_length, candidate_distance, candidate_outside, widened_radius, list_size}
use Rattle.definitions.specs.Checks.{Verdict, pass, first_refusal, refuse_if, refuse_at_first, read_indices, not_finite, beyond_limit, weight_fault, target_fault, table_size_check, mu_non_finite_check, mu_range_check, weight_range_check, table_checks, length_check, target_check, finite_check, radius_check, handed_on, budget_check, candidate_length_check, candidate_distance_check, candidate_outside_check, widened_radius_check}
use Rattle.definitions.specs.Calls.{search_checks, ml_radius, checks_of_round}
use Rattle.definitions.proofs.Verdicts.{refuse≢pass, clean_passes, no_fault, passed}
use Rattle.definitions.proofs.Tables.{CheckedTable, table_passed, neither, both_false, target_passed}
use Rattle.definitions.proofs.Passed.{all_passed, length_passed, plane_length_passed, radius_passed, radius_passes, budget_passed, budget_passes, candidate_length_passed, total_passed, outside_passed, widened_passed}
use Rattle.theorems.specs.Refusals.{NoneFits}
use Rattle.theorems.specs.Accepted.{Bounded, TableAccepted, TargetAccepted, SearchAccepted, RadiusAccepted, NearestAccepted, SeededAccepted, MlAccepted, DistanceAccepted, ListAccepted, RoundAccepted, PlaneAccepted}
use Rattle.theorems.specs.Promises.{nearest_call_checks, seeded_call_checks, ml_call_checks, distance_call_checks, list_call_checks, plane_call_checks}
use Rattle.theorems.proofs.Booleans.{of_true, of_false, to_true}
use Rattle.theorems.proofs.FirstFaults.{read_exactly}
use Rattle.theorems.proofs.FirstRefusal.{none_passes}

-- ---- a list of checks: none fits exactly where each passes
abbrev Pass : Verdict → Type 0
Pass v = v ≡ pass

abbrev pub Passing : List Verdict → Type 0
Passing vs = All Pass vs

pub passing : (vs : List Verdict) → NoneFits vs → Passing vs
passing vs f = all_passed vs (none_passes vs f)

pub none_fits : {vs : List Verdict} → Passing vs → NoneFits vs
none_fits none e m = Memᴰ.not-nil m
none_fits (more p rest) e m = ⊎_elim (λ same. refuse≢pass (same ∙ p)) (none_fits rest e) (Memᴰ.cases_cons m)

-- ---- tests
denied : (b : Bool) → T (not b) → b ≡ false
denied true h = absurd h
denied false h = refl

neither_is : {a b : Bool} → a ≡ false → b ≡ false → (a || b) ≡ false
neither_is {b = b} p q = ap (λ (x : Bool). x || b) p ∙ q

pub and_true : {a b : Bool} → a ≡ true → b ≡ true → (a && b) ≡ true
and_true {b = b} p q = ap (λ (x : Bool). x && b) p ∙ q

pub not_refused : {b : Bool} (e : Refusal) → b ≡ false → refuse_if b e ≡ pass
not_refused e p = ap (λ (x : Bool). refuse_if x e) p

pub is_finite : (x : Float) → not_finite x ≡ false → T (finite x)
is_finite x p = of_true (not-false (finite x) p)

finite_passes : (x : Float) → T (finite x) → not_finite x ≡ false
finite_passes x h = ap not (to_true (finite x) h)

bounded : (x : Float) → not_finite x ≡ false → beyond_limit x ≡ false → Bounded x
bounded x p q = record { is_finite = is_finite x p; most = of_false q }

-- ---- each check
pub length_passes : (expected found : ℕ) → found ≡ expected → length_check expected found ≡ pass
length_passes expected found e = not_refused (length_mismatch expected found) (ap not (eq-eqb expected found (sym e)))

module _ (largest : ℕ) (t : Table) where
  abbrev n : ℕ
  n = dimension t

  table_accepted : CheckedTable largest t → TableAccepted largest t
  table_accepted c =
      record {
        few = c.small;
        square = c.square;
        entries = λ j i left below. bounded _ (c.finite_entry j i left below) (c.within_limit j i left below);
        weights = λ i below. let p = both_false (not_finite (weight t i)) (not (lt plus_zero (weight t i))) (c.weighted i below) in record { is_finite = is_finite (weight t i) p.0; above = of_true (not-false (lt plus_zero (weight t i)) p.1) };
      }

  -- a check of the entries that are read
  entries_pass : (fault : Float → Bool) (e : ℕ → Refusal) → ((j i : ℕ) → i < j → j < n → fault (get_or t.mu (j * n + i) nan) ≡ false) → refuse_at_first (λ k. fault (get_or t.mu k nan)) e (read_indices n n) ≡ pass
  entries_pass fault e clean = clean_passes (λ k. fault (get_or t.mu k nan)) e (read_indices n n) λ k m.
      let r = (read_exactly n n k).0 m in
      subst (λ (x : ℕ). fault (get_or t.mu x nan) ≡ false) (sym r.place) (clean r.j r.i r.left r.below)

  module _ (a : TableAccepted largest t) where
    pub size_passes : table_size_check largest t ≡ pass
    size_passes = not_refused (table_size n) (neither_is (le-ltb largest n a.few) (ap not (eq-eqb _ _ a.square)))

    pub finite_entries : mu_non_finite_check t ≡ pass
    finite_entries = entries_pass not_finite mu_non_finite (λ j i left below. finite_passes (get_or t.mu (j * n + i) nan) (a.entries j i left below).is_finite)

    pub bounded_entries : mu_range_check t ≡ pass
    bounded_entries = entries_pass beyond_limit mu_range (λ j i left below. denied (lt coord_limit (magnitude (get_or t.mu (j * n + i) nan))) (a.entries j i left below).most)

    pub weights_pass : weight_range_check t ≡ pass
    weights_pass =
        no_fault (λ k. weight_fault (weight t k)) weight_range n (λ k below. neither_is (finite_passes (weight t k) (a.weights k below).is_finite) (ap not (to_true (lt plus_zero (weight t k)) (a.weights k below).above)))

-- 7, with the limit and without
pub targets_pass : (n : ℕ) (target : List Float) → length target ≡ n → ((i : ℕ) → i < n → Bounded (coordinate target i)) → target_check target ≡ pass
unfolding target_check
targets_pass n target e clean =
    no_fault (λ k. target_fault (coordinate target k)) non_finite (length target) (λ k below. let x = clean k (omega arith) in neither_is (finite_passes (coordinate target k) x.is_finite) (denied (lt coord_limit (magnitude (coordinate target k))) x.most))

pub targets_bounded : (n : ℕ) (target : List Float) → length target ≡ n → target_check target ≡ pass → (i : ℕ) → i < n → Bounded (coordinate target i)
targets_bounded n target e q i below =
    let p = both_false (not_finite (coordinate target i)) (beyond_limit (coordinate target i)) (target_passed target q i (omega arith)) in
    bounded _ p.0 p.1

coefficients_pass : (coefficients : List Float) → ((i : ℕ) → i < length coefficients → T (finite (coordinate coefficients i))) → finite_check coefficients ≡ pass
unfolding finite_check
coefficients_pass coefficients clean = no_fault (λ k. not_finite (coordinate coefficients k)) non_finite (length coefficients) (λ k below. finite_passes (coordinate coefficients k) (clean k below))

coefficients_finite : (coefficients : List Float) → finite_check coefficients ≡ pass → (i : ℕ) → i < length coefficients → T (finite (coordinate coefficients i))
unfolding finite_check
coefficients_finite coefficients q i below = is_finite (coordinate coefficients i) (passed (λ k. not_finite (coordinate coefficients k)) non_finite (length coefficients) q i below)

-- 8 and 9
pub radius_accepted : (R : Float) (budget : ℕ) → radius_check R ≡ pass → budget_check budget ≡ pass → RadiusAccepted R budget
radius_accepted R budget p q =
    let r = radius_passed R p in
    record { is_finite = is_finite R r.0; not_negative = of_false r.1; budget_most = budget_passed budget q }

pub radius_pass : (R : Float) (budget : ℕ) → RadiusAccepted R budget → radius_check R ≡ pass
radius_pass R budget a = radius_passes R (finite_passes R a.is_finite) (denied (lt R plus_zero) a.not_negative)

-- 10 to 13
candidate_length_passes : (expected found : ℕ) → found ≡ expected → candidate_length_check expected found ≡ pass
candidate_length_passes expected found e = not_refused (candidate_length expected found) (ap not (eq-eqb expected found (sym e)))

pub total_passes : (total : Float) → T (finite total) → candidate_distance_check total ≡ pass
total_passes total h = not_refused (candidate_distance total) (finite_passes total h)

outside_passes : (R d : Float) → T (not (lt R d)) → candidate_outside_check R d ≡ pass
unfolding candidate_outside_check
outside_passes R d h = not_refused (candidate_outside R) (denied (lt R d) h)

pub widened_passes : (R : Float) → T (finite R) → widened_radius_check R ≡ pass
widened_passes R h = not_refused (widened_radius R) (finite_passes R h)

-- ---- the calls
module _ (largest : ℕ) (t : Table) (target : List Float) where
  target_accepted : CheckedTable largest t → length_check (dimension t) (length target) ≡ pass → target_check target ≡ pass → TargetAccepted largest t target
  target_accepted c p6 p7 =
      let e = sym (length_passed (dimension t) (length target) p6) in
      record { table = table_accepted largest t c; target_length = e; targets = targets_bounded (dimension t) target e p7 }

  target_passes : TargetAccepted largest t target → target_check target ≡ pass
  target_passes a = targets_pass (dimension t) target a.target_length a.targets

  target_length_passes : TargetAccepted largest t target → length_check (dimension t) (length target) ≡ pass
  target_length_passes a = length_passes (dimension t) (length target) a.target_length

-- 2 to 5, 6 and 7, each by itself
module _ (largest : ℕ) (t : Table) (target : List Float) (out : List ℤ) where
  pub search_accepted : table_size_check largest t ≡ pass → mu_non_finite_check t ≡ pass → mu_range_check t ≡ pass → weight_range_check t ≡ pass → length_check (dimension t) (length target) ≡ pass → length_check (dimension t) (length out) ≡ pass → target_check target ≡ pass → SearchAccepted largest t target out
  search_accepted p2 p3 p4 p5 a b p7 =
      record { table_target = target_accepted largest t target (table_passed largest t p2 p3 p4 p5) a p7; output_length = sym (length_passed (dimension t) (length out) b) }

  pub search_passing : SearchAccepted largest t target out → Passing (search_checks largest t target out)
  unfolding search_checks table_checks
  search_passing a =
      let table = a.table_target.table in
      more (size_passes largest t table) (more (finite_entries largest t table) (more (bounded_entries largest t table) (more (weights_pass largest t table)
      (more (target_length_passes largest t target a.table_target) (more (length_passes (dimension t) (length out) a.output_length) (more (target_passes largest t target a.table_target) none))))))

-- a search whose checks pass with n up to one number passes them with n up to another that n is within
pub search_passes_at : (largest other : ℕ) (t : Table) (target : List Float) (out : List ℤ) → dimension t ≤ other → first_refusal (search_checks largest t target out) ≡ pass → first_refusal (search_checks other t target out) ≡ pass
unfolding search_checks table_checks
search_passes_at largest other t target out few q = go (all_passed (search_checks largest t target out) q)
  where
    go : Passing (search_checks largest t target out) → first_refusal (search_checks other t target out) ≡ pass
    go (more p2 (more p3 (more p4 (more p5 (more a (more b (more p7 none))))))) =
        let c = search_accepted largest t target out p2 p3 p4 p5 a b p7 in
        let table = c.table_target.table in
        none_passes (search_checks other t target out)
        (none_fits (search_passing other t target out (record {
          table_target = record { table = record { few = few; square = table.square; entries = table.entries; weights = table.weights }; target_length = c.table_target.target_length; targets = c.table_target.targets };
          output_length = c.output_length;
        })))

module _ (t : Table) (target : List Float) (out : List ℤ) (R : Float) (budget : ℕ) where
  pub nearest_accepts : NoneFits (nearest_call_checks t target out R budget) ↔ NearestAccepted t target out R budget
  unfolding search_checks table_checks
  nearest_accepts = (λ f. go (passing (nearest_call_checks t target out R budget) f), λ a. none_fits (all_append (search_passing largest_searched t target out a.search) (more (radius_pass R budget a.within) (more (budget_passes budget a.within.budget_most) none))))
    where
      go : Passing (nearest_call_checks t target out R budget) → NearestAccepted t target out R budget
      go (more p2 (more p3 (more p4 (more p5 (more a (more b (more p7 (more p8 (more p9 none))))))))) =
          record { search = search_accepted largest_searched t target out p2 p3 p4 p5 a b p7; within = radius_accepted R budget p8 p9 }

  pub seeded_accepts : (candidate : List ℤ) → NoneFits (seeded_call_checks t target out candidate R budget) ↔ SeededAccepted t target out candidate R budget
  unfolding search_checks table_checks
  seeded_accepts candidate = (λ f. go (passing (seeded_call_checks t target out candidate R budget) f), back)
    where
      d : Float
      d = distance t target candidate

      wide : Float
      wide = widened (dimension t) (handed_on R)

      go : Passing (seeded_call_checks t target out candidate R budget) → SeededAccepted t target out candidate R budget
      go (more p2 (more p3 (more p4 (more p5 (more a (more b (more p7 (more p8 (more p9 (more p10 (more p11 (more p12 (more p13 none))))))))))))) =
          record {
            search = search_accepted largest_dimension t target out p2 p3 p4 p5 a b p7;
            within = radius_accepted R budget p8 p9;
            candidate_length_lem = sym (candidate_length_passed (dimension t) (length candidate) p10);
            candidate_finite = is_finite d (total_passed d p11);
            candidate_inside = of_false (outside_passed (handed_on R) d p12);
            widened_finite = is_finite wide (widened_passed wide p13);
          }

      back : SeededAccepted t target out candidate R budget → NoneFits (seeded_call_checks t target out candidate R budget)
      back a =
          none_fits
          (all_append (search_passing largest_dimension t target out a.search)
          (more (radius_pass R budget a.within) (more (budget_passes budget a.within.budget_most)
          (more (candidate_length_passes (dimension t) (length candidate) a.candidate_length_lem) (more (total_passes d a.candidate_finite)
          (more (outside_passes (handed_on R) d a.candidate_inside) (more (widened_passes wide a.widened_finite) none)))))))

module _ (t : Table) (target : List Float) (out : List ℤ) (budget : ℕ) where
  pub ml_accepts : NoneFits (ml_call_checks t target out budget) ↔ MlAccepted t target out budget
  unfolding search_checks table_checks
  ml_accepts = (λ f. go (passing (ml_call_checks t target out budget) f), back)
    where
      d : Float
      d = ml_radius t target

      wide : Float
      wide = widened (dimension t) d

      go : Passing (ml_call_checks t target out budget) → MlAccepted t target out budget
      go (more p2 (more p3 (more p4 (more p5 (more a (more b (more p7 (more p9 (more p11 (more p13 none)))))))))) =
          record {
            search = search_accepted largest_dimension t target out p2 p3 p4 p5 a b p7;
            budget_most = budget_passed budget p9;
            candidate_finite = is_finite d (total_passed d p11);
            widened_finite = is_finite wide (widened_passed wide p13);
          }

      back : MlAccepted t target out budget → NoneFits (ml_call_checks t target out budget)
      back a =
          none_fits
          (all_append (search_passing largest_dimension t target out a.search)
          (more (budget_passes budget a.budget_most) (more (total_passes d a.candidate_finite) (more (widened_passes wide a.widened_finite) none))))

module _ (t : Table) (target : List Float) (point : List ℤ) where
  pub distance_accepts : NoneFits (distance_call_checks t target point) ↔ DistanceAccepted t target point
  unfolding search_checks table_checks
  distance_accepts = (λ f. go (passing (distance_call_checks t target point) f), λ a. none_fits (all_append (search_passing largest_dimension t target point a.search) (more (total_passes (distance t target point) a.sum_finite) none)))
    where
      go : Passing (distance_call_checks t target point) → DistanceAccepted t target point
      go (more p2 (more p3 (more p4 (more p5 (more a (more b (more p7 (more p11 none)))))))) =
          record { search = search_accepted largest_dimension t target point p2 p3 p4 p5 a b p7; sum_finite = is_finite (distance t target point) (total_passed (distance t target point) p11) }

module _ (t : Table) (target distances : List Float) (points : List ℤ) (R : Float) (budget : ℕ) where
  pub list_accepts : NoneFits (list_call_checks t target distances points R budget) ↔ ListAccepted t target distances points R budget
  unfolding table_checks
  list_accepts = (λ f. go (passing (list_call_checks t target distances points R budget) f), back)
    where
      matches : Bool
      matches = eqb (length points) (dimension t * length distances)

      go : Passing (list_call_checks t target distances points R budget) → ListAccepted t target distances points R budget
      go (more p2 (more p3 (more p4 (more p5 (more p6 (more p7 (more p8 (more p9 (more p14 none))))))))) =
          let sizes = neither (ltb largest_list (length distances)) (not matches) (list_size (length distances)) p14 in
          record {
            table_target = target_accepted largest_searched t target (table_passed largest_searched t p2 p3 p4 p5) p6 p7;
            within = radius_accepted R budget p8 p9;
            places_most = ltb-false largest_list (length distances) sizes.0;
            points_length = eqb-true (length points) (dimension t * length distances) (not-false matches sizes.1);
          }

      back : ListAccepted t target distances points R budget → NoneFits (list_call_checks t target distances points R budget)
      back a =
          let table = a.table_target.table in
          let size = not_refused (list_size (length distances)) (neither_is (le-ltb largest_list (length distances) a.places_most) (ap not (eq-eqb _ _ a.points_length))) in
          none_fits
          (more (size_passes largest_searched t table) (more (finite_entries largest_searched t table) (more (bounded_entries largest_searched t table) (more (weights_pass largest_searched t table)
          (more (target_length_passes largest_searched t target a.table_target) (more (target_passes largest_searched t target a.table_target)
          (more (radius_pass R budget a.within) (more (budget_passes budget a.within.budget_most) (more size none)))))))))

pub round_accepts : (coefficients : List Float) (out : List ℤ) → NoneFits (checks_of_round coefficients out) ↔ RoundAccepted coefficients out
round_accepts coefficients out = (λ f. go (passing (checks_of_round coefficients out) f), λ a. none_fits (more (length_passes (length coefficients) (length out) a.output_length) (more (coefficients_pass coefficients a.coefficients_finite) none)))
  where
    go : Passing (checks_of_round coefficients out) → RoundAccepted coefficients out
    go (more p6 (more p7 none)) =
        record { output_length = sym (length_passed (length coefficients) (length out) p6); coefficients_finite = coefficients_finite coefficients p7 }

module _ (t : Table) (coefficients : List Float) (out : List ℤ) where
  pub plane_accepts : NoneFits (plane_call_checks t coefficients out) ↔ PlaneAccepted t coefficients out
  unfolding table_checks
  plane_accepts = (λ f. go (passing (plane_call_checks t coefficients out) f), back)
    where
      go : Passing (plane_call_checks t coefficients out) → PlaneAccepted t coefficients out
      go (more p2 (more p3 (more p4 (more p5 (more p6 (more p7 none)))))) =
          let lengths = plane_length_passed (dimension t) (length coefficients) (length out) p6 in
          record {
            table = table_accepted largest_dimension t (table_passed largest_dimension t p2 p3 p4 p5);
            coefficients_length = sym lengths.0;
            output_length = sym lengths.1;
            coefficients_finite = λ i below. coefficients_finite coefficients p7 i (omega (arith, lengths.0));
          }

      back : PlaneAccepted t coefficients out → NoneFits (plane_call_checks t coefficients out)
      back a =
          let table = a.table in
          let both = and_true (eq-eqb (dimension t) (length coefficients) (sym a.coefficients_length)) (eq-eqb (dimension t) (length out) (sym a.output_length)) in
          none_fits
          (more (size_passes largest_dimension t table) (more (finite_entries largest_dimension t table) (more (bounded_entries largest_dimension t table) (more (weights_pass largest_dimension t table)
          (more (not_refused (length_mismatch (dimension t) (length coefficients)) (ap not both)) (more (coefficients_pass coefficients (λ i below. a.coefficients_finite i (omega (arith, a.coefficients_length)))) none))))))
