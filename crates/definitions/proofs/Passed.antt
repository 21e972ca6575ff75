-- What the checks of `round`, `nearest_plane` and the searches leave of the lengths where they pass, and what a refusal leaves in the slices. Assumes nothing.
use mathlib.Core.Path.{◌≡◌, refl, sym, ap, ◌∙◌}
use mathlib.Core.Bool.{Bool, true, false, not, ◌&&◌, ◌||◌, false≢true}
use mathlib.Core.List.{List, [], ◌∷◌, ◌++◌}
use Prim.Native.Nat.{ℕ, ◌*◌, ◌≤◌}
use borrow.Author.Tests.{eqb-true, ltb-false, le-ltb, not-false}
use lib.Dec.{eqb, ltb}
use lib.ListN.{length}
use lib.IntN.{ℤ}
use lib.Ieee.{Float, lt}
use Rattle.lists.specs.All.{All, none, more}
use Rattle.definitions.specs.Table.{Table, dimension, plus_zero, largest_budget, largest_list}
use Rattle.definitions.specs.Shapes.{Shaped, ShapedOut, WalkShaped}
use Rattle.definitions.specs.Distance.{distance}
use Rattle.definitions.specs.Seeds.{rounded, nearest_plane, widened}
use Rattle.definitions.specs.Refusals.{Refusal, length_mismatch, invalid_radius, budget_range, candidate_length, candidate_distance, candidate_outside, widened_radius, list_size}
use Rattle.definitions.specs.Checks.{Verdict, pass, refuse, first_refusal, refuse_if, table_size_check, mu_non_finite_check, mu_range_check, weight_range_check, table_checks, length_check, plane_length_check, target_check, not_finite, radius_check, handed_on, budget_check, candidate_length_check, candidate_distance_check, candidate_outside_check, widened_radius_check}
use Rattle.definitions.specs.Calls.{search_checks, checks_of_nearest, nearest_checks, checks_of_seeded, seeded_checks, ml_radius, checks_of_ml, ml_checks, checks_of_list, list_checks, checks_of_round, round, round_output, checks_of_plane, plane_output, plane_coefficients}
use Rattle.definitions.proofs.Verdicts.{refuse≢pass}
use Rattle.definitions.proofs.Tables.{CheckedTable, table_passed, neither}

-- ---- lengths
same_if : (b : Bool) (e : Refusal) → refuse_if (not b) e ≡ pass → b ≡ true
same_if true e q = refl
same_if false e q = absurd (refuse≢pass q)

pub length_passed : (expected found : ℕ) → length_check expected found ≡ pass → expected ≡ found
length_passed expected found q = eqb-true expected found (same_if (eqb expected found) (length_mismatch expected found) q)

pub plane_length_passed : (n a b : ℕ) → plane_length_check n a b ≡ pass → (n ≡ a) × (n ≡ b)
plane_length_passed n a b q = both (eqb n a) (eqb n b) refl refl (same_if (eqb n a && eqb n b) (length_mismatch n a) q)
  where
    both : (x y : Bool) → eqb n a ≡ x → eqb n b ≡ y → (x && y) ≡ true → (n ≡ a) × (n ≡ b)
    both true true p r e = (eqb-true n a p, eqb-true n b r)
    both true false p r e = absurd (false≢true e)
    both false y p r e = absurd (false≢true e)

-- ---- the calls
-- each check of a list that passes
pub all_passed : (vs : List Verdict) → first_refusal vs ≡ pass → All (λ (v : Verdict). v ≡ pass) vs
unfolding first_refusal
all_passed [] q = none
all_passed (pass ∷ vs) q = more refl (all_passed vs q)
all_passed (refuse e ∷ vs) q = absurd (refuse≢pass q)

-- a table whose checks pass
pub table_checked : (largest : ℕ) (t : Table) → first_refusal (table_checks largest t) ≡ pass → CheckedTable largest t
unfolding table_checks
table_checked largest t q = go (all_passed (table_checks largest t) q)
  where
    go : All (λ (v : Verdict). v ≡ pass) (table_checks largest t) → CheckedTable largest t
    go (more p2 (more p3 (more p4 (more p5 none)))) = table_passed largest t p2 p3 p4 p5

pub round_passed : (coefficients : List Float) (out : List ℤ) → round coefficients out ≡ pass → length coefficients ≡ length out
unfolding round
round_passed coefficients out q = go (all_passed (checks_of_round coefficients out) q)
  where
    go : All (λ (v : Verdict). v ≡ pass) (checks_of_round coefficients out) → length coefficients ≡ length out
    go (more p (more r none)) = length_passed (length coefficients) (length out) p

pub record PlanePassed (largest : ℕ) (t : Table) (coefficients : List Float) (out : List ℤ) : Type 0 where
  pub checked : CheckedTable largest t
  pub shape : ShapedOut largest t.weights t.mu coefficients out

pub plane_passed : (largest : ℕ) (t : Table) (coefficients : List Float) (out : List ℤ) → first_refusal (checks_of_plane largest t coefficients out) ≡ pass → PlanePassed largest t coefficients out
unfolding table_checks
plane_passed largest t coefficients out q = go (all_passed (checks_of_plane largest t coefficients out) q)
  where
    go : All (λ (v : Verdict). v ≡ pass) (checks_of_plane largest t coefficients out) → PlanePassed largest t coefficients out
    go (more p2 (more p3 (more p4 (more p5 (more p6 (more p7 none)))))) =
        let checked = table_passed largest t p2 p3 p4 p5 in
        let lengths = plane_length_passed (dimension t) (length coefficients) (length out) p6 in
        record { checked = checked; shape = record { shape = record { small = checked.small; square = checked.square; target_length = sym lengths.0 }; output_length = sym lengths.1 } }

pub record SearchPassed (largest : ℕ) (t : Table) (target : List Float) (out : List ℤ) : Type 0 where
  pub checked : CheckedTable largest t
  pub shape : ShapedOut largest t.weights t.mu target out
  pub targets : target_check target ≡ pass

module _ (largest : ℕ) (t : Table) (target : List Float) where
  search_from : (out : List ℤ) → table_size_check largest t ≡ pass → mu_non_finite_check t ≡ pass → mu_range_check t ≡ pass → weight_range_check t ≡ pass → length_check (dimension t) (length target) ≡ pass → length_check (dimension t) (length out) ≡ pass → target_check target ≡ pass → SearchPassed largest t target out
  search_from out p2 p3 p4 p5 target_fits out_fits p7 =
      let checked = table_passed largest t p2 p3 p4 p5 in
      let shape : Shaped largest t.weights t.mu target = record { small = checked.small; square = checked.square; target_length = sym (length_passed (dimension t) (length target) target_fits) } in
      record { checked = checked; shape = record { shape = shape; output_length = sym (length_passed (dimension t) (length out) out_fits) }; targets = p7 }

  pub search_passed : (out : List ℤ) → first_refusal (search_checks largest t target out) ≡ pass → SearchPassed largest t target out
  unfolding search_checks table_checks
  search_passed out q = go (all_passed (search_checks largest t target out) q)
    where
      go : All (λ (v : Verdict). v ≡ pass) (search_checks largest t target out) → SearchPassed largest t target out
      go (more p2 (more p3 (more p4 (more p5 (more a (more b (more p7 none))))))) = search_from out p2 p3 p4 p5 a b p7

-- ---- the radius and the budget
pub radius_passed : (R : Float) → radius_check R ≡ pass → (not_finite R ≡ false) × (lt R plus_zero ≡ false)
unfolding radius_check
radius_passed R q = neither (not_finite R) (lt R plus_zero) (invalid_radius R) q

pub radius_passes : (R : Float) → not_finite R ≡ false → lt R plus_zero ≡ false → radius_check R ≡ pass
unfolding radius_check
radius_passes R finite plus = ap (λ (b : Bool). refuse_if (b || lt R plus_zero) (invalid_radius R)) finite ∙ ap (λ (b : Bool). refuse_if b (invalid_radius R)) plus

pub budget_passed : (budget : ℕ) → budget_check budget ≡ pass → budget ≤ largest_budget
budget_passed budget q = ltb-false largest_budget budget (neither false (ltb largest_budget budget) (budget_range budget) q).1

pub budget_passes : (budget : ℕ) → budget ≤ largest_budget → budget_check budget ≡ pass
budget_passes budget few = ap (λ (b : Bool). refuse_if b (budget_range budget)) (le-ltb largest_budget budget few)

-- what a search's checks leave, with the budget's
pub walk_shaped : {largest : ℕ} {t : Table} {target : List Float} {out : List ℤ} → SearchPassed largest t target out → (budget : ℕ) → budget ≤ largest_budget → WalkShaped largest t.weights t.mu target out budget
walk_shaped p budget few = record { shape = p.shape; bounded = few }

pub record NearestPassed (largest : ℕ) (t : Table) (target : List Float) (out : List ℤ) (R : Float) (budget : ℕ) : Type 0 where
  pub search : SearchPassed largest t target out
  pub radius : radius_check R ≡ pass
  pub few : budget ≤ largest_budget

pub nearest_passed : (largest : ℕ) (t : Table) (target : List Float) (out : List ℤ) (R : Float) (budget : ℕ) → nearest_checks largest t target out R budget ≡ pass → NearestPassed largest t target out R budget
unfolding nearest_checks search_checks table_checks
nearest_passed largest t target out R budget q = go (all_passed (checks_of_nearest largest t target out R budget) q)
  where
    go : All (λ (v : Verdict). v ≡ pass) (checks_of_nearest largest t target out R budget) → NearestPassed largest t target out R budget
    go (more p2 (more p3 (more p4 (more p5 (more a (more b (more p7 (more p8 (more p9 none))))))))) =
        record { search = search_from largest t target out p2 p3 p4 p5 a b p7; radius = p8; few = budget_passed budget p9 }

pub record ListPassed (largest : ℕ) (t : Table) (target distances : List Float) (points : List ℤ) (R : Float) (budget : ℕ) : Type 0 where
  pub checked : CheckedTable largest t
  pub shape : Shaped largest t.weights t.mu target
  pub targets : target_check target ≡ pass
  pub radius : radius_check R ≡ pass
  pub few : budget ≤ largest_budget
  pub places : length distances ≤ largest_list
  pub room : length points ≡ dimension t * length distances

pub list_passed : (largest : ℕ) (t : Table) (target distances : List Float) (points : List ℤ) (R : Float) (budget : ℕ) → list_checks largest t target distances points R budget ≡ pass → ListPassed largest t target distances points R budget
unfolding list_checks table_checks
list_passed largest t target distances points R budget q = go (all_passed (checks_of_list largest t target distances points R budget) q)
  where
    go : All (λ (v : Verdict). v ≡ pass) (checks_of_list largest t target distances points R budget) → ListPassed largest t target distances points R budget
    go (more p2 (more p3 (more p4 (more p5 (more p6 (more p7 (more p8 (more p9 (more p14 none))))))))) =
        let checked = table_passed largest t p2 p3 p4 p5 in
        let sizes = neither (ltb largest_list (length distances)) (not (eqb (length points) (dimension t * length distances))) (list_size (length distances)) p14 in
        record {
          checked = checked;
          shape = record { small = checked.small; square = checked.square; target_length = sym (length_passed (dimension t) (length target) p6) };
          targets = p7;
          radius = p8;
          few = budget_passed budget p9;
          places = ltb-false largest_list (length distances) sizes.0;
          room = eqb-true (length points) (dimension t * length distances) (not-false (eqb (length points) (dimension t * length distances)) sizes.1);
        }

-- ---- candidates
pub candidate_length_passed : (expected found : ℕ) → candidate_length_check expected found ≡ pass → expected ≡ found
candidate_length_passed expected found q = eqb-true expected found (same_if (eqb expected found) (candidate_length expected found) q)

-- what the checks up to 10 leave of a candidate
pub candidate_shaped : (largest : ℕ) (t : Table) (target : List Float) (out candidate : List ℤ) (R : Float) (budget : ℕ) → first_refusal (checks_of_nearest largest t target out R budget ++ candidate_length_check (dimension t) (length candidate) ∷ []) ≡ pass → ShapedOut largest t.weights t.mu target candidate
unfolding search_checks table_checks
candidate_shaped largest t target out candidate R budget q = go (all_passed (checks_of_nearest largest t target out R budget ++ candidate_length_check (dimension t) (length candidate) ∷ []) q)
  where
    go : All (λ (v : Verdict). v ≡ pass) (checks_of_nearest largest t target out R budget ++ candidate_length_check (dimension t) (length candidate) ∷ []) → ShapedOut largest t.weights t.mu target candidate
    go (more p2 (more p3 (more p4 (more p5 (more a (more b (more p7 (more p8 (more p9 (more p10 none)))))))))) =
        record { shape = (search_from largest t target out p2 p3 p4 p5 a b p7).shape.shape; output_length = sym (candidate_length_passed (dimension t) (length candidate) p10) }

pub total_passed : (total : Float) → candidate_distance_check total ≡ pass → not_finite total ≡ false
total_passed total q = (neither false (not_finite total) (candidate_distance total) q).1

pub outside_passed : (R d : Float) → candidate_outside_check R d ≡ pass → lt R d ≡ false
unfolding candidate_outside_check
outside_passed R d q = (neither false (lt R d) (candidate_outside R) q).1

pub widened_passed : (radius : Float) → widened_radius_check radius ≡ pass → not_finite radius ≡ false
widened_passed radius q = (neither false (not_finite radius) (widened_radius radius) q).1

pub record SeededPassed (largest : ℕ) (t : Table) (target : List Float) (out candidate : List ℤ) (R : Float) (budget : ℕ) : Type 0 where
  pub search : SearchPassed largest t target out
  pub radius : radius_check R ≡ pass
  pub few : budget ≤ largest_budget
  pub candidate_length_lem : dimension t ≡ length candidate
  pub total : not_finite (distance t target candidate) ≡ false
  pub inside : lt (handed_on R) (distance t target candidate) ≡ false
  pub wide : not_finite (widened (dimension t) (handed_on R)) ≡ false

pub seeded_passed : (largest : ℕ) (t : Table) (target : List Float) (out candidate : List ℤ) (R : Float) (budget : ℕ) → seeded_checks largest t target out candidate R budget ≡ pass → SeededPassed largest t target out candidate R budget
unfolding seeded_checks search_checks table_checks
seeded_passed largest t target out candidate R budget q = go (all_passed (checks_of_seeded largest t target out candidate R budget) q)
  where
    go : All (λ (v : Verdict). v ≡ pass) (checks_of_seeded largest t target out candidate R budget) → SeededPassed largest t target out candidate R budget
    go (more p2 (more p3 (more p4 (more p5 (more a (more b (more p7 (more p8 (more p9 (more p10 (more p11 (more p12 (more p13 none))))))))))))) =
        record {
          search = search_from largest t target out p2 p3 p4 p5 a b p7;
          radius = p8;
          few = budget_passed budget p9;
          candidate_length_lem = candidate_length_passed (dimension t) (length candidate) p10;
          total = total_passed (distance t target candidate) p11;
          inside = outside_passed (handed_on R) (distance t target candidate) p12;
          wide = widened_passed (widened (dimension t) (handed_on R)) p13;
        }

pub record MlPassed (largest : ℕ) (t : Table) (target : List Float) (out : List ℤ) (budget : ℕ) : Type 0 where
  pub search : SearchPassed largest t target out
  pub few : budget ≤ largest_budget
  pub total : not_finite (ml_radius t target) ≡ false
  pub wide : not_finite (widened (dimension t) (ml_radius t target)) ≡ false

pub ml_passed : (largest : ℕ) (t : Table) (target : List Float) (out : List ℤ) (budget : ℕ) → ml_checks largest t target out budget ≡ pass → MlPassed largest t target out budget
unfolding ml_checks search_checks table_checks
ml_passed largest t target out budget q = go (all_passed (checks_of_ml largest t target out budget) q)
  where
    go : All (λ (v : Verdict). v ≡ pass) (checks_of_ml largest t target out budget) → MlPassed largest t target out budget
    go (more p2 (more p3 (more p4 (more p5 (more a (more b (more p7 (more p9 (more p11 (more p13 none)))))))))) =
        record {
          search = search_from largest t target out p2 p3 p4 p5 a b p7;
          few = budget_passed budget p9;
          total = total_passed (ml_radius t target) p11;
          wide = widened_passed (widened (dimension t) (ml_radius t target)) p13;
        }

-- ---- what is left in the slices
module _ (coefficients : List Float) (out : List ℤ) where
  pub round_refused : (v : Verdict) {e : Refusal} → v ≡ refuse e → round_output v coefficients out ≡ out
  unfolding round_output
  round_refused v q = ap (λ (w : Verdict). round_output w coefficients out) q

  pub round_written : (v : Verdict) → v ≡ pass → round_output v coefficients out ≡ rounded coefficients
  unfolding round_output
  round_written v q = ap (λ (w : Verdict). round_output w coefficients out) q

  module _ (t : Table) where
    pub plane_refused : (v : Verdict) {e : Refusal} → v ≡ refuse e → (plane_output v t coefficients out ≡ out) × (plane_coefficients v t coefficients ≡ coefficients)
    unfolding plane_output plane_coefficients
    plane_refused v q = (ap (λ (w : Verdict). plane_output w t coefficients out) q, ap (λ (w : Verdict). plane_coefficients w t coefficients) q)

    pub plane_written : (v : Verdict) → v ≡ pass → (plane_output v t coefficients out ≡ (nearest_plane t coefficients).point) × (plane_coefficients v t coefficients ≡ (nearest_plane t coefficients).left)
    unfolding plane_output plane_coefficients
    plane_written v q = (ap (λ (w : Verdict). plane_output w t coefficients out) q, ap (λ (w : Verdict). plane_coefficients w t coefficients) q)
