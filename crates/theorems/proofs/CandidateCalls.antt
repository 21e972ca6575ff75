-- What a search from a candidate promises, by one law: of any call that searches from the widened radius, a vector being within the radius. Its walk never ends with nothing. Assumes nothing.
use mathlib.Core.Path.{◌≡◌, refl, sym, ap, ◌∙◌}
use mathlib.Core.Bool.{not, false}
use mathlib.Core.List.{List, [], ◌∷◌}
use mathlib.Core.Logic.{◌⊎◌, inl, inr}
use Prim.Native.Nat.{ℕ, ◌≤◌}
use native.Mathlib.Nat.{le_trans, le_of_eq}
use borrow.Author.Tests.{not-true}
use lib.Dec.{T, lit≤}
use lib.ListN.{length}
use lib.IntN.{ℤ}
use lib.Ieee.{Float, binary64, lt}
use lib.Ieee.Scale.{finite}
use Rattle.rounding.specs.Kinds.{Finite}
use Rattle.definitions.specs.Table.{Table, dimension, plus_zero, largest_dimension, largest_searched, largest_budget}
use Rattle.definitions.specs.Distance.{center, distance}
use Rattle.definitions.specs.Admitted.{is_vector}
use Rattle.definitions.specs.Walk.{Walked, ended, exhausted, still, walk as walk_down}
use Rattle.definitions.specs.Nearest.{Best, no_best, best, consider, nearest_walk}
use Rattle.definitions.specs.Seeds.{widened}
use Rattle.definitions.specs.Refusals.{budget_exhausted}
use Rattle.definitions.specs.Checks.{Verdict, pass, first_refusal, not_finite, radius_check, budget_check}
use Rattle.definitions.specs.Calls.{Answer, refused, NearestPoint, end_of_nearest, nearest_within, search_checks, nearest_checks, nearest, nearest_output}
use Rattle.definitions.proofs.Verdicts.{first_alone, passes_append}
use Rattle.definitions.proofs.Passed.{search_passed, radius_passes, budget_passes}
use Rattle.definitions.proofs.Answers.{after_pass, search_small, nearest_checked}
use Rattle.definitions.proofs.HandedOn.{plus_handed_on}
use Rattle.theorems.specs.Prefixes.{opened_prefixes}
use Rattle.theorems.specs.Refusals.{NoneFits}
use Rattle.theorems.specs.Answers.{EndsAsWalk, Demand1}
use Rattle.theorems.specs.Promises.{PointWritten, FromCandidate}
use Rattle.theorems.proofs.Booleans.{to_true}
use Rattle.theorems.proofs.Checked.{held}
use Rattle.theorems.proofs.Accepted.{search_passes_at}
use Rattle.theorems.proofs.Budget.{nearest_exhausted}
use Rattle.theorems.proofs.Least.{nearest_enough}
use Rattle.theorems.proofs.Seeded.{widened_double, widened_nonneg, candidate_below, seeded_finds}
use Rattle.theorems.proofs.FirstRefusal.{none_passes}
use Rattle.theorems.proofs.EndsAsWalk.{ends_as_walk}
use Rattle.theorems.proofs.SearchCalls.{Ready, ready_from, only_number_of_prefixes, SearchCall, small_walk, by_walk, demand_15}

-- ---- the radius before and after the widening
pub record Widening (t : Table) (target : List Float) (R : Float) : Type 0 where
  pub before : Ready t target R
  pub after : Finite binary64 (widened (dimension t) R)

pub widening : {t : Table} {target : List Float} {R : Float} → Ready t target R → not_finite (widened (dimension t) R) ≡ false → Widening t target R
widening {t} {target} {R} r q = record { before = r; after = record { fit = widened_double (dimension t) R; fin = held (finite (widened (dimension t) R)) q } }

pub ready_widened : {t : Table} {target : List Float} {R : Float} → Widening t target R → Ready t target (widened (dimension t) R)
ready_widened {t} {target} {R} w = let r = w.before in ready_from r.limits w.after (widened_nonneg t target r.limits R r.finite r.nonneg w.after)

-- ---- the plain search
-- where a search's checks, the radius's and the budget's pass, those of `nearest` do
nearest_passes : (t : Table) (target : List Float) (out : List ℤ) (R : Float) (budget : ℕ) → first_refusal (search_checks largest_dimension t target out) ≡ pass → radius_check R ≡ pass → budget ≤ largest_budget → nearest_checks largest_searched t target out R budget ≡ pass
unfolding nearest_checks
nearest_passes t target out R budget searched radius few =
    passes_append (search_checks largest_searched t target out) (radius_check R ∷ budget_check budget ∷ []) (search_passes_at largest_dimension largest_searched t target out (le_trans (search_passed largest_dimension t target out searched).checked.small (lit≤ tt)) searched)
    (passes_append (radius_check R ∷ []) (budget_check budget ∷ []) (first_alone (radius_check R) ∙ radius) (first_alone (budget_check budget) ∙ budget_passes budget few))

-- at n = 0 the start of its walk is a leaf
empty_walk : (t : Table) (target : List Float) (R : Float) (budget : ℕ) → dimension t ≡ 0 → nearest_walk t target R budget ≡ ended (best []) plus_zero 0
unfolding nearest_walk walk_down consider
empty_walk t target R budget e = ap (λ (n : ℕ). walk_down consider (still (center t target)) t budget n [] plus_zero (ended no_best R 0)) e

-- ---- the call
-- what the checks of such a call leave where none fits: the vector z is within the radius R, and the checks of every search and the budget's have passed
pub record Candidate (t : Table) (target : List Float) (out z : List ℤ) (R : Float) (budget : ℕ) : Type 0 where
  pub start : Widening t target R
  pub vector : T (is_vector t z)
  pub within : T (not (lt R (distance t target z)))
  pub searched : first_refusal (search_checks largest_dimension t target out) ≡ pass
  pub few : budget ≤ largest_budget

module _ {checks : List Verdict} {t : Table} {target : List Float} {R : Float} {budget : ℕ} {answer : Answer NearestPoint} (call : SearchCall checks t target (widened (dimension t) R) budget answer) (out z : List ℤ)
    (candidate : NoneFits checks → Candidate t target out z R budget) where
  abbrev wide : Float
  wide = widened (dimension t) R

  abbrev walk : Walked Best
  walk = nearest_walk t target wide budget

  small : NoneFits checks → dimension t ≤ 23
  small f = (search_passed largest_dimension t target out (candidate f).searched).checked.small

  finds : NoneFits checks → (S : Float) (m : ℕ) → walk ≡ ended no_best S m → ⊥
  finds f =
      let c = candidate f in
      let r = c.start.before in
      seeded_finds t target r.limits R r.finite r.nonneg c.start.after z c.vector c.within budget

  pub candidate_demand : Demand1 checks 15 15 answer (nearest_output answer out ≡ out)
  candidate_demand = demand_15 call (λ f S m w. finds f S m (small_walk call (small f) w)) out

  module _ (f : NoneFits checks) where
    abbrev c : Candidate t target out z R budget
    c = candidate f

    ready : Ready t target wide
    ready = ready_widened c.start

    ends : EndsAsWalk wide walk out answer (nearest_output answer out)
    ends = ends_as_walk wide walk out answer (by_walk call f ∙ ap (end_of_nearest wide) (search_small t target wide budget (small f)))

    written : (zs : List ℤ) (S : Float) (m : ℕ) → walk ≡ ended (best zs) S m → PointWritten answer (nearest_output answer out)
    written zs S m w = let e = ends.point zs S m w in (record { nodes = m; distance = S; point = zs }, e.0, e.1)

    point_or_15 : (w : Walked Best) → walk ≡ w → PointWritten answer (nearest_output answer out) ⊎ ((S : Float) × (answer ≡ refused (budget_exhausted budget S)) × (nearest_output answer out ≡ out))
    point_or_15 (exhausted m S) w =
        let e = ends.exhaustion m S w in
        inr (S, e.0 ∙ ap (λ (k : ℕ). refused (budget_exhausted k S)) (nearest_exhausted t target wide budget m S w), e.1)
    point_or_15 (ended no_best S m) w = absurd (finds f S m w)
    point_or_15 (ended (best zs) S m) w = inl (written zs S m w)

    gives_point : length (opened_prefixes t target wide) ≤ budget → (w : Walked Best) → walk ≡ w → PointWritten answer (nearest_output answer out)
    gives_point h (exhausted m S) w = absurd (nearest_enough t target ready.limits wide ready.finite ready.plus budget h m S w)
    gives_point h (ended no_best S m) w = absurd (finds f S m w)
    gives_point h (ended (best zs) S m) w = written zs S m w

    wide_passes : radius_check wide ≡ pass
    wide_passes = radius_passes wide (ap not (to_true (finite wide) ready.finite.fin)) (not-true (lt wide plus_zero) (to_true (not (lt wide plus_zero)) ready.plus))

    as_nearest : answer ≡ nearest t target out wide budget
    as_nearest =
        call.is ∙ after_pass (first_refusal checks) (nearest_within t target wide budget) (none_passes checks f)
        ∙ sym (nearest_checked t target out wide budget (nearest_passes t target out wide budget c.searched wide_passes c.few) ∙ ap (λ (S : Float). nearest_within t target S budget) (plus_handed_on wide ready.nonneg))

    pub from_candidate : FromCandidate t target z wide budget out answer (nearest_output answer out)
    from_candidate =
        let r = c.start.before in
        record {
          above = candidate_below t target r.limits R r.finite r.nonneg c.start.after z c.vector c.within;
          empty_point = λ e. ends.point [] plus_zero 0 (empty_walk t target wide budget e);
          gives_point = λ k o h. gives_point (le_trans (le_of_eq (only_number_of_prefixes ready o)) h) walk refl;
          point_or_15 = point_or_15 walk refl;
          as_nearest = (as_nearest, ap (λ (a : Answer NearestPoint). nearest_output a out) as_nearest);
        }
