-- Promise 1 of any call, for all inputs: the first check that fits refuses, an input that none fits gets an answer or one of the walk's own refusals, and a refusal leaves the slices. Assumes nothing.
use mathlib.Core.Path.{◌≡◌, refl, sym, ap, ◌∙◌, subst}
use mathlib.Core.Bool.{Bool, true, false}
use mathlib.Core.List.{List}
use mathlib.Core.Logic.{◌⊎◌, inl, inr, ⊎_elim}
use Prim.Native.Nat.{ℕ, ◌≤◌, ◌<◌}
use native.Mathlib.Omega.{arith}
use lib.Dec.{ltb}
use lib.ListN.{length}
use lib.IntN.{ℤ}
use lib.Ieee.{Float}
use Rattle.definitions.specs.Walk.{Walked, ended, exhausted}
use Rattle.definitions.specs.Nearest.{Best, no_best, best}
use Rattle.definitions.specs.Listing.{ListPoint}
use Rattle.definitions.specs.Refusals.{Refusal}
use Rattle.definitions.specs.Checks.{Verdict, refuse, first_refusal}
use Rattle.definitions.specs.Calls.{Answer, found, refused, after, NearestPoint, end_of_nearest, nearest_output, ListAnswer, end_of_list, list_distances, list_points}
use Rattle.definitions.proofs.Answers.{after_pass, after_refuse, found≢refused, refused_same, end_exhausted, end_nothing, end_point, output_refused, list_exhausted, list_full_lem, list_sorted, distances_refused, points_refused}
use Rattle.definitions.proofs.Verdicts.{refuse≢pass}
use Rattle.theorems.specs.Refusals.{Fits, NoneFits, FirstFits}
use Rattle.theorems.specs.Answers.{Under, Demand1, VerdictDemand1}
use Rattle.theorems.proofs.FirstRefusal.{Decision, decision, first_fits, first_refuses}

-- ---- any call with these checks, whose numbers are other than those of the walk's own refusals
end_answers : {A : Type 0} {j k : ℕ} {end answer : Answer A} → ((e : Refusal) → end ≡ refused e → Under j k e) → answer ≡ end → (x : Answer A) → end ≡ x → ((a : A) × (answer ≡ found a)) ⊎ ((e : Refusal) × (answer ≡ refused e) × Under j k e)
end_answers own is (found a) q = inl (a, is ∙ q)
end_answers own is (refused e) q = inr (e, is ∙ q, own e q)

module _ {A : Type 0} {checks : List Verdict} {j k : ℕ} (apart : (e : Refusal) → Fits checks e → Under j k e → ⊥) {end answer : Answer A} (own : NoneFits checks → (e : Refusal) → end ≡ refused e → Under j k e) (is : answer ≡ after (first_refusal checks) end) where
  refused_by : (e : Refusal) → FirstFits checks e → (answer ≡ refused e) × (Under j k e → ⊥)
  refused_by e f = (is ∙ after_refuse (first_refusal checks) end e (first_refuses f), apart e (first_fits f))

  pub demand_apart : {Unchanged : Type 0} → ((e : Refusal) → answer ≡ refused e → Unchanged) → Decision checks → Demand1 checks j k answer Unchanged
  demand_apart unchanged (inl (d, f, q)) =
      record {
        refuses = λ e. (refused_by e, λ r. subst (FirstFits checks) (refused_same (sym (refused_by d f).0 ∙ r.0)) f);
        answers = (λ none. absurd (none d (first_fits f)), λ r. absurd (clash r));
        unchanged = unchanged;
      }
    where
      clash : ((a : A) × (answer ≡ found a)) ⊎ ((e : Refusal) × (answer ≡ refused e) × Under j k e) → ⊥
      clash (inl (a, r)) = found≢refused (sym r ∙ (refused_by d f).0)
      clash (inr (e, r, u)) = apart d (first_fits f) (subst (Under j k) (refused_same (sym r ∙ (refused_by d f).0)) u)
  demand_apart unchanged (inr (none, q)) =
      let a = is ∙ after_pass (first_refusal checks) end q in
      record {
        refuses = λ e. (refused_by e, λ r. absurd (r.1 (own none e (sym a ∙ r.0))));
        answers = (λ same. end_answers (own none) a end refl, λ r. none);
        unchanged = unchanged;
      }

-- as it is where their numbers are all smaller
module _ {A : Type 0} {checks : List Verdict} (below : (e : Refusal) → Fits checks e → e.number < 15) {j k : ℕ} (first : 15 ≤ j) (second : 15 ≤ k) {end answer : Answer A} (own : NoneFits checks → (e : Refusal) → end ≡ refused e → Under j k e) (is : answer ≡ after (first_refusal checks) end) where
  not_own : (e : Refusal) → Fits checks e → Under j k e → ⊥
  not_own e m (inl q) = let l = below e m in omega (arith, l, q, first)
  not_own e m (inr q) = let l = below e m in omega (arith, l, q, second)

  pub demand_1 : {Unchanged : Type 0} → ((e : Refusal) → answer ≡ refused e → Unchanged) → Decision checks → Demand1 checks j k answer Unchanged
  demand_1 = demand_apart not_own own is

  -- a refusal under 15 or above is the walk's own
  pub own_refusal : (e : Refusal) → answer ≡ refused e → 15 ≤ e.number → NoneFits checks
  own_refusal e r h = ⊎_elim (λ some. absurd (clash some.0 some.1)) (λ other. other.0) (decision checks)
    where
      clash : (d : Refusal) → FirstFits checks d → ⊥
      clash d f =
          let same : d.number ≡ e.number = ap (λ (x : Refusal). x.number) (refused_same (sym (refused_by not_own own is d f).0 ∙ r)) in
          omega (arith, below d (first_fits f), same, h)

refuse_same : {d e : Refusal} → refuse d ≡ refuse e → d ≡ e
refuse_same p = cc

pub verdict_demand_1 : {checks : List Verdict} {verdict : Verdict} {Unchanged : Type 0} → verdict ≡ first_refusal checks → ((e : Refusal) → verdict ≡ refuse e → Unchanged) → Decision checks → VerdictDemand1 checks verdict Unchanged
verdict_demand_1 {checks = checks} is unchanged (inl (d, f, q)) =
    record {
      refuses = λ e. (λ g. is ∙ first_refuses g, λ r. subst (FirstFits checks) (refuse_same (sym (is ∙ q) ∙ r)) f);
      passes = (λ none. absurd (none d (first_fits f)), λ r. absurd (refuse≢pass (sym (is ∙ q) ∙ r)));
      unchanged = unchanged;
    }
verdict_demand_1 is unchanged (inr (none, q)) =
    record {
      refuses = λ e. (λ g. is ∙ first_refuses g, λ r. absurd (refuse≢pass (sym r ∙ is ∙ q)));
      passes = (λ same. is ∙ q, λ r. none);
      unchanged = unchanged;
    }

-- a refusal leaves the slices
pub output_unchanged : (answer : Answer NearestPoint) (out : List ℤ) (e : Refusal) → answer ≡ refused e → nearest_output answer out ≡ out
output_unchanged answer out e q = ap (λ (a : Answer NearestPoint). nearest_output a out) q ∙ output_refused e out

pub slices_unchanged : (answer : Answer ListAnswer) (distances : List Float) (points : List ℤ) (e : Refusal) → answer ≡ refused e → (list_distances answer distances ≡ distances) × (list_points answer points ≡ points)
slices_unchanged answer distances points e q = (ap (λ (a : Answer ListAnswer). list_distances a distances) q ∙ distances_refused e distances, ap (λ (a : Answer ListAnswer). list_points a points) q ∙ points_refused e points)

-- the search's own refusals: under which numbers a walk ends a call
pub nearest_own_numbers : (R : Float) (w : Walked Best) (e : Refusal) → end_of_nearest R w ≡ refused e → Under 15 16 e
nearest_own_numbers R (exhausted m S) e q = inl (ap (λ (r : Refusal). r.number) (refused_same (sym q ∙ end_exhausted R m S)))
nearest_own_numbers R (ended no_best S m) e q = inr (ap (λ (r : Refusal). r.number) (refused_same (sym q ∙ end_nothing R S m)))
nearest_own_numbers R (ended (best zs) S m) e q = absurd (found≢refused (sym (end_point R zs S m) ∙ q))

pub list_own_numbers : (places : ℕ) (w : Walked (List ListPoint)) (e : Refusal) → end_of_list places w ≡ refused e → Under 15 18 e
list_own_numbers places (exhausted m R) e q = inl (ap (λ (r : Refusal). r.number) (refused_same (sym q ∙ list_exhausted places m R)))
list_own_numbers places (ended ps R m) e q = go (ltb places (length ps)) refl
  where
    go : (b : Bool) → ltb places (length ps) ≡ b → Under 15 18 e
    go true full = inr (ap (λ (r : Refusal). r.number) (refused_same (sym q ∙ list_full_lem places ps R m full)))
    go false room = absurd (found≢refused (sym (list_sorted places ps R m room) ∙ q))
