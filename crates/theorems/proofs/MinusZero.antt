-- No check refuses with minus zero among its values: 8 lets it pass, 11 and 13 carry what is not finite, 12 the radius handed on, and the others no double. So no call does, if its end does not. Assumes nothing.
use mathlib.Core.Path.{◌≡◌, refl, sym, ap, ◌∙◌, subst}
use mathlib.Core.Bool.{Bool, true, false, not, ◌||◌, false≢true}
use mathlib.Core.List.Memᴰ
use mathlib.Core.List.{List, [], ◌∷◌, ◌++◌, Memᴰ}
use mathlib.Core.Logic.{⊎_elim}
use Prim.Native.Nat.{ℕ, ◌*◌}
use native.Mathlib.Omega.{arith}
use lib.Dec.{ltb, eqb}
use lib.ListN.{length}
use lib.IntN.{ℤ}
use lib.Ieee.{Float, lt}
use Rattle.lists.specs.All.{All, none, more}
use Rattle.definitions.specs.Table.{Table, dimension, plus_zero, minus_zero, largest_dimension, largest_searched, largest_budget, largest_list}
use Rattle.definitions.specs.Distance.{distance}
use Rattle.definitions.specs.Seeds.{widened}
use Rattle.definitions.specs.Refusals.{Value, whole, real, Refusal, table_size, length_mismatch, invalid_radius, budget_range, candidate_length, candidate_distance, candidate_outside, widened_radius, list_size}
use Rattle.definitions.specs.Checks.{Verdict, refuse, first_refusal, refuse_if, not_finite, table_checks, length_check, radius_check, handed_on, budget_check, candidate_distance_check, candidate_outside_check, widened_radius_check}
use Rattle.definitions.specs.Calls.{Answer, refused, after, search_checks, ml_radius}
use Rattle.definitions.proofs.Answers.{after_pass, after_refuse, refused_same}
use Rattle.definitions.proofs.HandedOn.{never_minus_zero, minus_zero_passes}
use Rattle.theorems.specs.Refusals.{Fits, NoneFits}
use Rattle.theorems.specs.Answers.{NoMinusZero}
use Rattle.theorems.specs.Promises.{nearest_call_checks, seeded_call_checks, ml_call_checks, list_call_checks}
use Rattle.theorems.proofs.FirstFaults.{AtFirst, mu_finite_first, mu_range_first, weight_first, target_first}
use Rattle.theorems.proofs.FirstRefusal.{decision, first_fits}
use Rattle.theorems.proofs.CheckNumbers.{refused_by}

-- ---- the values of a refusal
abbrev Absent : List Value → Type 0
Absent vs = Memᴰ (real minus_zero) vs → ⊥

real≢whole : {x : Float} {k : ℕ} → real x ≡ whole k → ⊥
real≢whole p = let z : ◌≡◌ {A = ℕ} 0 1 = cc in omega arith

real_same : {x y : Float} → real x ≡ real y → x ≡ y
real_same p = cc

pub no_values : Absent []
no_values m = Memᴰ.not-nil m

pub a_whole : {k : ℕ} {vs : List Value} → Absent vs → Absent (whole k ∷ vs)
a_whole rest m = ⊎_elim real≢whole rest (Memᴰ.cases_cons m)

pub a_double : {x : Float} {vs : List Value} → (x ≡ minus_zero → ⊥) → Absent vs → Absent (real x ∷ vs)
a_double other rest m = ⊎_elim (λ p. other (sym (real_same p))) rest (Memᴰ.cases_cons m)

pub one_whole : {k : ℕ} → Absent (whole k ∷ [])
one_whole = a_whole no_values

pub one_double : {x : Float} → (x ≡ minus_zero → ⊥) → Absent (real x ∷ [])
one_double other = a_double other no_values

-- ---- each check
abbrev pub Clear : Verdict → Type 0
Clear v = (e : Refusal) → v ≡ refuse e → NoMinusZero e

pub by_test : (b : Bool) (d : Refusal) → (b ≡ true → NoMinusZero d) → Clear (refuse_if b d)
by_test = refused_by NoMinusZero

pub by_index : {v : Verdict} {n : ℕ} {Index : ℕ → Type 0} {fault : ℕ → Bool} → AtFirst v n Index fault → Clear v
by_index law e q = subst NoMinusZero (sym (law e q).1) one_whole

-- a double with a fault that minus zero does not have
faulty : (fault : Float → Bool) → fault minus_zero ≡ false → (x : Float) → fault x ≡ true → x ≡ minus_zero → ⊥
faulty fault f x t z = false≢true (sym f ∙ ap fault (sym z) ∙ t)

pub length_clear : (expected found : ℕ) → Clear (length_check expected found)
length_clear expected found = by_test (not (eqb expected found)) (length_mismatch expected found) (λ q. a_whole one_whole)

pub radius_clear : (R : Float) → Clear (radius_check R)
unfolding radius_check
radius_clear R = by_test (not_finite R || lt R plus_zero) (invalid_radius R) (λ q. one_double (faulty (λ x. not_finite x || lt x plus_zero) minus_zero_passes R q))

pub budget_clear : (budget : ℕ) → Clear (budget_check budget)
budget_clear budget = by_test (ltb largest_budget budget) (budget_range budget) (λ q. one_whole)

pub total_clear : (total : Float) → Clear (candidate_distance_check total)
total_clear total = by_test (not_finite total) (candidate_distance total) (λ q. one_double (faulty not_finite refl total q))

outside_clear : (R d : Float) → Clear (candidate_outside_check (handed_on R) d)
unfolding candidate_outside_check
outside_clear R d = by_test (lt (handed_on R) d) (candidate_outside (handed_on R)) (λ q. one_double (never_minus_zero R))

pub widened_clear : (radius : Float) → Clear (widened_radius_check radius)
widened_clear radius = by_test (not_finite radius) (widened_radius radius) (λ q. one_double (faulty not_finite refl radius q))

-- ---- the checks of a table and of a search, before others
pub table_clear : (largest : ℕ) (t : Table) {vs : List Verdict} → All Clear vs → All Clear (table_checks largest t ++ vs)
unfolding table_checks
table_clear largest t rest =
    let n = dimension t in
    more (by_test (ltb largest n || not (eqb (length t.mu) (n * n))) (table_size n) (λ q. one_whole))
    (more (by_index (mu_finite_first t)) (more (by_index (mu_range_first t)) (more (by_index (weight_first t)) rest)))

pub search_clear : (largest : ℕ) (t : Table) (target : List Float) (out : List ℤ) {vs : List Verdict} → All Clear vs → All Clear (search_checks largest t target out ++ vs)
unfolding search_checks table_checks
search_clear largest t target out rest =
    let n = dimension t in
    table_clear largest t (more (length_clear n (length target)) (more (length_clear n (length out)) (more (by_index (target_first target)) rest)))

-- ---- the calls' checks
module _ (t : Table) (target : List Float) where
  pub nearest_clear : (out : List ℤ) (R : Float) (budget : ℕ) → All Clear (nearest_call_checks t target out R budget)
  nearest_clear out R budget = search_clear largest_searched t target out (more (radius_clear R) (more (budget_clear budget) none))

  pub seeded_clear : (out candidate : List ℤ) (R : Float) (budget : ℕ) → All Clear (seeded_call_checks t target out candidate R budget)
  seeded_clear out candidate R budget =
      let n = dimension t in
      let d = distance t target candidate in
      let tenth = by_test (not (eqb n (length candidate))) (candidate_length n (length candidate)) (λ q. a_whole one_whole) in
      let last = more (outside_clear R d) (more (widened_clear (widened n (handed_on R))) none) in
      search_clear largest_dimension t target out (more (radius_clear R) (more (budget_clear budget) (more tenth (more (total_clear d) last))))

  pub ml_clear : (out : List ℤ) (budget : ℕ) → All Clear (ml_call_checks t target out budget)
  ml_clear out budget =
      let d = ml_radius t target in
      search_clear largest_dimension t target out (more (budget_clear budget) (more (total_clear d) (more (widened_clear (widened (dimension t) d)) none)))

  pub list_clear : (distances : List Float) (points : List ℤ) (R : Float) (budget : ℕ) → All Clear (list_call_checks t target distances points R budget)
  list_clear distances points R budget =
      let n = dimension t in
      let last = by_test (ltb largest_list (length distances) || not (eqb (length points) (n * length distances))) (list_size (length distances)) (λ q. one_whole) in
      table_clear largest_searched t (more (length_clear n (length target)) (more (by_index (target_first target)) (more (radius_clear R) (more (budget_clear budget) (more last none)))))

-- ---- any call with such checks
fitting_clear : {vs : List Verdict} → All Clear vs → (e : Refusal) → Fits vs e → NoMinusZero e
fitting_clear none e m = absurd (Memᴰ.not-nil m)
fitting_clear (more own rest) e m = ⊎_elim (λ same. own e (sym same)) (fitting_clear rest e) (Memᴰ.cases_cons m)

pub call_clear : {A : Type 0} {checks : List Verdict} {end answer : Answer A} → All Clear checks → answer ≡ after (first_refusal checks) end → (NoneFits checks → (e : Refusal) → end ≡ refused e → NoMinusZero e) → (e : Refusal) → answer ≡ refused e → NoMinusZero e
call_clear {checks = checks} {end = end} clear is own e q =
    ⊎_elim
    (λ some. subst NoMinusZero (refused_same (sym (is ∙ after_refuse (first_refusal checks) end some.0 some.2) ∙ q)) (fitting_clear clear some.0 (first_fits some.1)))
    (λ other. own other.0 e (sym (is ∙ after_pass (first_refusal checks) end other.1) ∙ q))
    (decision checks)
