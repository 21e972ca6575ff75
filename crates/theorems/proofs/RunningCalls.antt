-- What `nearest` and `list` promise of the walk with running centres, and of budgets whatever n (specs/Running.antt). Assumes nothing.
use mathlib.Core.Path.{◌≡◌, refl, sym, ap, ◌∙◌, subst}
use mathlib.Core.Logic.{inl, inr, ⊎_elim}
use Prim.Native.Nat.{ℕ, ◌*◌, ◌≤◌, ◌<◌, ◌^◌}
use native.Mathlib.Nat.{le_trans, le_of_eq, not-le_of_lt}
use native.Mathlib.Omega.{arith}
use mathlib.Core.List.Memᴰ
use mathlib.Core.List.{List, [], ◌∷◌, ◌++◌, Memᴰ}
use mathlib.Core.Bool.{Bool, true, false}
use borrow.Author.Tests.{lt-ltb, le-ltb}
use lib.Dec.{T, ltb}
use lib.ListN.{length}
use lib.IntN.{ℤ}
use lib.Ieee.{Float, binary64, fits}
use Rattle.rounding.proofs.Interface.{zero_nonneg, nonneg_not_lt, not_lt→le}
use Rattle.definitions.specs.Table.{Table, dimension, largest_searched}
use Rattle.definitions.specs.Admitted.{is_vector}
use Rattle.definitions.specs.Walk.{Walked, ended, exhausted}
use Rattle.definitions.specs.Nearest.{Best, best}
use Rattle.definitions.specs.Listing.{ListPoint, sorted}
use Rattle.definitions.specs.Running.{running_nearest, running_list, nearest_search, list_search}
use Rattle.definitions.specs.Refusals.{Refusal, budget_exhausted, outside_radius, list_full}
use Rattle.definitions.specs.Checks.{Verdict, pass, refuse, first_refusal, table_checks, length_check, target_check, radius_check, handed_on, budget_check, list_size_check}
use Rattle.definitions.specs.Calls.{Answer, found, refused, after, NearestPoint, end_of_nearest, search_checks, nearest, nearest_output, ListAnswer, end_of_list, list, list_distances, list_points}
use Rattle.definitions.proofs.Passed.{budget_passes}
use Rattle.definitions.proofs.Answers.{after_pass, after_refuse, by_dimension, search_small, search_large, list_search_small, list_search_large, end_exhausted, end_nothing, within_is, found≢refused, refused_same, list_exhausted, list_full_lem, list_sorted, list_walked}
use Rattle.theorems.specs.Doubles.{of_doubles}
use Rattle.theorems.specs.Counting.{count}
use Rattle.theorems.specs.Ordered.{vectors_of, StrictlyOrdered}
use Rattle.theorems.specs.Unbudgeted.{Progress, nearest_all, list_all}
use Rattle.theorems.specs.Refusals.{NoneFits}
use Rattle.theorems.specs.Promises.{nearest_call_checks, list_call_checks}
use Rattle.theorems.specs.Running.{CentersAs, FiniteCenters, Between, Exhausted, Ended, NearestRunning, ListRunning}
use Rattle.theorems.proofs.Limits.{Limits}
use Rattle.theorems.proofs.RunningCenters.{reached_steady, reached_finite}
use Rattle.theorems.proofs.RunningWords.{starts_as, changed_by}
use Rattle.theorems.proofs.Unbudgeted.{Agrees}
use Rattle.theorems.proofs.Budget.{agrees_ended, agrees_exhausted, alike, nearest_agrees, list_agrees}
use Rattle.theorems.proofs.RunningWalks.{UpTo}
use Rattle.theorems.proofs.RunningNearest.{running_radius, running_point, nearest_running_agrees}
use Rattle.theorems.proofs.Sorting.{Every, every_sorted, sorted_count, sorted_length}
use Rattle.theorems.proofs.RunningLists.{PointFound, running_points, list_running_agrees, running_list_once, running_ordered}
use Rattle.theorems.proofs.Endings.{exhausted_same, refused_exhausted}
use Rattle.theorems.proofs.FirstRefusal.{none_passes}
use Rattle.theorems.proofs.Accepted.{nearest_accepts, list_accepts}
use Rattle.theorems.proofs.EndsAsWalk.{ends_as_walk, ends_as_list_walk}
use Rattle.theorems.proofs.SearchCalls.{Ready, plus_sign, SearchCall, by_walk, refused_above_15, demand_16, walked, written}
use Rattle.theorems.proofs.ListCall.{list_search_radius}
use Rattle.theorems.proofs.Promises.{nearest_pass, nearest_call}
use Rattle.theorems.proofs.Promises as P

-- ---- by a walk without a budget, whatever n
pub record Budgeted {K : Type 0} (walk : ℕ → Walked K) : Type 0 where
  pub all : Progress K
  pub agrees : (budget : ℕ) → Agrees budget all (walk budget)

nearest_budgeted : (t : Table) (target : List Float) (R : Float) → Budgeted (nearest_search t target R)
nearest_budgeted t target R = ⊎_elim
    (λ small. record { all = _; agrees = λ b. subst (Agrees b (nearest_all t target R)) (sym (search_small t target R b small)) (nearest_agrees t target R b) })
    (λ large. record { all = _; agrees = λ b. subst (Agrees b _) (sym (search_large t target R b large)) (nearest_running_agrees t target R b) })
    (by_dimension t)

list_budgeted : (t : Table) (target : List Float) (R : Float) → Budgeted (list_search t target R)
list_budgeted t target R = ⊎_elim
    (λ small. record { all = _; agrees = λ b. subst (Agrees b (list_all t target R)) (sym (list_search_small t target R b small)) (list_agrees t target R b) })
    (λ large. record { all = _; agrees = λ b. subst (Agrees b _) (sym (list_search_large t target R b large)) (list_running_agrees t target R b) })
    (by_dimension t)

-- the nodes that a walk needs: a budget is exhausted exactly if it is below them
module _ {K : Type 0} {walk : ℕ → Walked K} (budgets : Budgeted walk) where
  exhausted_below : (b m : ℕ) (S : Float) → walk b ≡ exhausted m S → b < budgets.all.nodes
  exhausted_below b m S e = (agrees_exhausted budgets.all b (walk b) (budgets.agrees b) m S e).0

  below_exhausted : (b : ℕ) → b < budgets.all.nodes → (S : Float) × (walk b ≡ exhausted b S)
  below_exhausted b h = go (budgets.agrees b)
    where
      go : Agrees b budgets.all (walk b) → (S : Float) × (walk b ≡ exhausted b S)
      go (inl (l, e)) = absurd (not-le_of_lt h l)
      go (inr (l, S, e)) = (S, e)

-- an answer that is not 15, by a walk that ends so at the larger budget, too
module _ {A K : Type 0} (end : Walked K → Answer A) (gives_15 : (m : ℕ) (S : Float) → end (exhausted m S) ≡ refused (budget_exhausted m S)) where
  same_later : (v : Verdict) (w w' : Walked K) → ((k : K) (S : Float) (m : ℕ) → w ≡ ended k S m → w' ≡ ended k S m) → Ended (after v (end w)) → after v (end w') ≡ after v (end w)
  same_later (refuse e) w w' later over = after_refuse (refuse e) (end w') e refl ∙ sym (after_refuse (refuse e) (end w) e refl)
  same_later pass (exhausted m S) w' later over = absurd (over m S (after_pass pass (end (exhausted m S)) refl ∙ gives_15 m S))
  same_later pass (ended k S m) w' later over = ap (λ (x : Walked K). after pass (end x)) (later k S m refl)

between : {R d : Float} → UpTo R d → Between R d
between u = record { not_minus_zero = plus_sign u.plus refl; not_below = not_lt→le binary64 u.plus.num (zero_nonneg binary64).num (nonneg_not_lt u.plus); not_above = u.within }

centers_as : {t : Table} {target : List Float} → Limits t target → length t.mu ≡ dimension t * dimension t → CentersAs t target
centers_as {t} {target} limits square = record {
  start = starts_as t target limits.target_length square;
  update = λ r p level h z. let s = reached_steady t target limits p in changed_by t square level h z r s.point_length s.centers_length;
}

finite_centers : {t : Table} {target : List Float} → Limits t target → FiniteCenters t target
finite_centers {t} {target} limits r p level h = (reached_finite t target limits r p level h).fin

-- ---- nearest
module _ (t : Table) (target : List Float) (out : List ℤ) (R : Float) (budget : ℕ) (doubles : T (of_doubles t target)) (double : T (fits binary64 R)) where
  abbrev answer : Answer NearestPoint
  answer = nearest t target out R budget

  abbrev checks : List Verdict
  checks = nearest_call_checks t target out R budget

  call : SearchCall checks t target (handed_on R) budget answer
  call = nearest_call t target out R budget doubles double

  none_found : (a : NearestPoint) → answer ≡ found a → NoneFits checks
  none_found a q = (demand_16 call out).answers.1 (inl (a, q))

  none_15 : (m : ℕ) (S : Float) → answer ≡ refused (budget_exhausted m S) → NoneFits checks
  none_15 m S q = (demand_16 call out).answers.1 (inr (budget_exhausted m S, q, inl refl))

  at_15 : (m : ℕ) (S : Float) → answer ≡ refused (budget_exhausted m S) → nearest_search t target (handed_on R) budget ≡ exhausted m S
  at_15 m S q = refused_exhausted (handed_on R) (nearest_search t target (handed_on R) budget) m S (sym (by_walk call (none_15 m S q)) ∙ q)

  budgets : Budgeted (nearest_search t target (handed_on R))
  budgets = nearest_budgeted t target (handed_on R)

  large_walk : 24 ≤ dimension t → {w : Walked Best} → nearest_search t target (handed_on R) budget ≡ w → running_nearest t target (handed_on R) budget ≡ w
  large_walk large e = sym (search_large t target (handed_on R) budget large) ∙ e

  pub nearest_running : NearestRunning t target out R budget answer (nearest_output answer out)
  nearest_running = record {
    centers = λ f. centers_as (nearest_pass t target out R budget doubles double f).0 ((nearest_accepts t target out R budget).0 f).search.table_target.table.square;
    finite_centers = λ f. finite_centers (nearest_pass t target out R budget doubles double f).0;
    ends = λ large f. ends_as_walk (handed_on R) (running_nearest t target (handed_on R) budget) out answer (by_walk call f ∙ ap (end_of_nearest (handed_on R)) (search_large t target (handed_on R) budget large));
    point = λ large a q.
        let (r, w) = walked call a q in
        let (vector, u) = running_point t target r.limits (handed_on R) r.finite r.nonneg budget a.point a.distance a.nodes (large_walk large w) in
        (subst (λ (zs : List ℤ). T (is_vector t zs)) (sym (written call out a q)) vector, between u);
    needed = budgets.all.nodes;
    exhausts = λ f other l. (exhausted_at other l f, at_exhausted other l f);
    nodes = λ a q. sym (agrees_ended budgets.all budget _ (budgets.agrees budget) (best a.point) a.distance a.nodes (walked call a q).1).3;
    count_of_15 = λ m S q. (agrees_exhausted budgets.all budget _ (budgets.agrees budget) m S (at_15 m S q)).1;
    radius_of_15 = λ large m S q. let r = call.ready (none_15 m S q) in between (running_radius t target r.limits (handed_on R) r.finite r.nonneg budget m S (large_walk large (at_15 m S q)));
    value_of_16 = at_16;
    larger_budget = later;
  }
    where
      -- the checks at a budget within its limit
      verdict : Verdict → Verdict
      verdict v = first_refusal (search_checks largest_searched t target out ++ radius_check R ∷ v ∷ [])

      at : (b : ℕ) → b ≤ 2 ^ 60 → nearest t target out R b ≡ after (verdict pass) (end_of_nearest (handed_on R) (nearest_search t target (handed_on R) b))
      at b h = (nearest_call t target out R b doubles double).is ∙ ap (after (verdict (budget_check b))) (within_is t target (handed_on R) b) ∙ ap (λ (v : Verdict). after (verdict v) (end_of_nearest (handed_on R) (nearest_search t target (handed_on R) b))) (budget_passes b h)

      -- they pass at every such budget, if they do at the call's
      passing : NoneFits checks → verdict pass ≡ pass
      passing f = ap verdict (sym (budget_passes budget ((nearest_accepts t target out R budget).0 f).within.budget_most)) ∙ none_passes checks f

      at_passing : (b : ℕ) → b ≤ 2 ^ 60 → NoneFits checks → nearest t target out R b ≡ end_of_nearest (handed_on R) (nearest_search t target (handed_on R) b)
      at_passing b l f = at b l ∙ after_pass (verdict pass) (end_of_nearest (handed_on R) (nearest_search t target (handed_on R) b)) (passing f)

      exhausted_at : (other : ℕ) → other ≤ 2 ^ 60 → NoneFits checks → Exhausted (nearest t target out R other) → other < budgets.all.nodes
      exhausted_at other l f (m, S, q) = exhausted_below budgets other m S (refused_exhausted (handed_on R) (nearest_search t target (handed_on R) other) m S (sym (at_passing other l f) ∙ q))

      at_exhausted : (other : ℕ) → other ≤ 2 ^ 60 → NoneFits checks → other < budgets.all.nodes → Exhausted (nearest t target out R other)
      at_exhausted other l f h = let (S, w) = below_exhausted budgets other h in (other, S, at_passing other l f ∙ ap (end_of_nearest (handed_on R)) w ∙ end_exhausted (handed_on R) other S)

      at_16 : (e : Refusal) → answer ≡ refused e → e.number ≡ 16 → e ≡ outside_radius (handed_on R)
      at_16 e q n =
          let (f, w) = refused_above_15 call e q (omega (arith, n)) in
          refused_same (sym q ∙ by_walk call f ∙ ap (end_of_nearest (handed_on R)) w.2 ∙ end_nothing (handed_on R) w.0 w.1)

      later : Ended answer → (larger : ℕ) → budget ≤ larger → larger ≤ 2 ^ 60 → nearest t target out R larger ≡ answer
      later over larger h l =
          let own = at budget (le_trans h l) in
          at larger l
          ∙ same_later (end_of_nearest (handed_on R)) (end_exhausted (handed_on R)) (verdict pass) (nearest_search t target (handed_on R) budget) (nearest_search t target (handed_on R) larger) (alike budgets.all budget larger _ _ h (budgets.agrees budget) (budgets.agrees larger)) (λ m S q. over m S (own ∙ q))
          ∙ sym own

-- ---- list
-- an answer with 15 comes of a walk that was exhausted so
list_at_15 : (places : ℕ) (w : Walked (List ListPoint)) (m : ℕ) (S : Float) → end_of_list places w ≡ refused (budget_exhausted m S) → w ≡ exhausted m S
list_at_15 places (exhausted k U) m S e = exhausted_same k U m S (sym (list_exhausted places k U) ∙ e)
list_at_15 places (ended ps U k) m S e = go (ltb places (length ps)) refl
  where
    go : (b : Bool) → ltb places (length ps) ≡ b → ended ps U k ≡ exhausted m S
    go true full = let n : ◌≡◌ {A = ℕ} 18 15 = ap (λ (r : Refusal). r.number) (refused_same (sym (list_full_lem places ps U k full) ∙ e)) in absurd (omega (arith, n))
    go false room = absurd (found≢refused (sym (list_sorted places ps U k room) ∙ e))

every_member : (P : ListPoint → Type 0) (ps : List ListPoint) → Every P ps → (p : ListPoint) → Memᴰ p ps → P p
every_member P [] h p m = absurd (Memᴰ.not-nil m)
every_member P (q ∷ ps) h p m = ⊎_elim (λ same. subst P (sym same) h.0) (every_member P ps h.1 p) (Memᴰ.cases_cons m)

module _ (t : Table) (target distances : List Float) (points : List ℤ) (R : Float) (budget : ℕ) (doubles : T (of_doubles t target)) (double : T (fits binary64 R)) where
  abbrev listed : Answer ListAnswer
  listed = list t target distances points R budget

  abbrev places : ℕ
  places = length distances

  abbrev list_checks : List Verdict
  list_checks = list_call_checks t target distances points R budget

  none_listed : (a : ListAnswer) → listed ≡ found a → NoneFits list_checks
  none_listed a q = (P.demand t target distances points R budget doubles double).answers.1 (inl (a, q))

  none_spent : (m : ℕ) (S : Float) → listed ≡ refused (budget_exhausted m S) → NoneFits list_checks
  none_spent m S q = (P.demand t target distances points R budget doubles double).answers.1 (inr (budget_exhausted m S, q, inl refl))

  by : NoneFits list_checks → listed ≡ end_of_list places (list_search t target (handed_on R) budget)
  by = P.by_walk t target distances points R budget doubles double

  ready : NoneFits list_checks → Ready t target (handed_on R)
  ready = P.list_ready t target distances points R budget doubles double

  spent : (m : ℕ) (S : Float) → listed ≡ refused (budget_exhausted m S) → list_search t target (handed_on R) budget ≡ exhausted m S
  spent m S q = list_at_15 places (list_search t target (handed_on R) budget) m S (sym (by (none_spent m S q)) ∙ q)

  -- the points of a list, before they were sorted
  pub record Walked24 (a : ListAnswer) : Type 0 where
    pub ready : Ready t target (handed_on R)
    pub found : List ListPoint
    pub stood : Float
    pub walk : list_search t target (handed_on R) budget ≡ ended found stood a.nodes
    pub points_are : a.points ≡ sorted found

  walked_list : (a : ListAnswer) → listed ≡ found a → Walked24 a
  walked_list a q =
      let f = none_listed a q in
      let w = list_walked places (list_search t target (handed_on R) budget) a (sym (by f) ∙ q) in
      record { ready = ready f; found = w.0; stood = w.1; walk = w.2; points_are = w.3 }

  list_budgets : Budgeted (list_search t target (handed_on R))
  list_budgets = list_budgeted t target (handed_on R)

  large_list : 24 ≤ dimension t → {w : Walked (List ListPoint)} → list_search t target (handed_on R) budget ≡ w → running_list t target (handed_on R) budget ≡ w
  large_list large e = sym (list_search_large t target (handed_on R) budget large) ∙ e

  pub list_running : ListRunning t target distances points R budget listed (list_distances listed distances) (list_points listed points)
  list_running = record {
    centers = λ f. centers_as (P.list_pass t target distances points R budget doubles double f).0 ((list_accepts t target distances points R budget).0 f).table_target.table.square;
    finite_centers = λ f. finite_centers (P.list_pass t target distances points R budget doubles double f).0;
    ends = λ large f. ends_as_list_walk (running_list t target (handed_on R) budget) distances points listed (by f ∙ ap (end_of_list places) (list_search_large t target (handed_on R) budget large));
    vectors = λ large a q p m.
        let w = walked_list a q in
        let r = w.ready in
        let every = every_sorted (PointFound t target r.limits (handed_on R) r.finite r.nonneg) w.found (running_points t target r.limits (handed_on R) r.finite r.nonneg budget w.found w.stood a.nodes (large_list large w.walk)) in
        let (vector, u) = every_member (PointFound t target r.limits (handed_on R) r.finite r.nonneg) a.points (subst (Every (PointFound t target r.limits (handed_on R) r.finite r.nonneg)) (sym w.points_are) every) p m in
        (vector, between u);
    once = λ large a q x.
        let w = walked_list a q in
        let r = w.ready in
        le_trans (le_of_eq (ap (λ (ps : List ListPoint). count x (vectors_of ps)) w.points_are ∙ sorted_count x w.found))
        (running_list_once t target r.limits (handed_on R) r.finite r.nonneg budget w.found w.stood a.nodes (large_list large w.walk) x);
    order = λ large a q.
        let w = walked_list a q in
        let r = w.ready in
        subst StrictlyOrdered (sym w.points_are) (running_ordered t target r.limits (handed_on R) r.finite r.nonneg budget w.found w.stood a.nodes (large_list large w.walk));
    needed = list_budgets.all.nodes;
    exhausts = λ f other l. (exhausted_at other l f, at_exhausted other l f);
    nodes = λ a q. let w = walked_list a q in sym (agrees_ended list_budgets.all budget _ (list_budgets.agrees budget) w.found w.stood a.nodes w.walk).3;
    values_of_15 = λ m S q. ((agrees_exhausted list_budgets.all budget _ (list_budgets.agrees budget) m S (spent m S q)).1, list_search_radius (ready (none_spent m S q)) budget m S (spent m S q));
    larger_budget = later;
    other_places = elsewhere;
  }
    where
      -- the checks at a budget within its limit
      verdict : Verdict → Verdict
      verdict v = first_refusal (table_checks largest_searched t ++ length_check (dimension t) (length target) ∷ target_check target ∷ radius_check R ∷ v ∷ list_size_check (dimension t) places (length points) ∷ [])

      at : (b : ℕ) → b ≤ 2 ^ 60 → list t target distances points R b ≡ after (verdict pass) (end_of_list places (list_search t target (handed_on R) b))
      at b h = P.is t target distances points R b doubles double ∙ ap (λ (v : Verdict). after (verdict v) (end_of_list places (list_search t target (handed_on R) b))) (budget_passes b h)

      -- they pass at every such budget, if they do at the call's
      passing : NoneFits list_checks → verdict pass ≡ pass
      passing f = ap verdict (sym (budget_passes budget ((list_accepts t target distances points R budget).0 f).within.budget_most)) ∙ none_passes list_checks f

      at_passing : (b : ℕ) → b ≤ 2 ^ 60 → NoneFits list_checks → list t target distances points R b ≡ end_of_list places (list_search t target (handed_on R) b)
      at_passing b l f = at b l ∙ after_pass (verdict pass) (end_of_list places (list_search t target (handed_on R) b)) (passing f)

      exhausted_at : (other : ℕ) → other ≤ 2 ^ 60 → NoneFits list_checks → Exhausted (list t target distances points R other) → other < list_budgets.all.nodes
      exhausted_at other l f (m, S, q) = exhausted_below list_budgets other m S (list_at_15 places (list_search t target (handed_on R) other) m S (sym (at_passing other l f) ∙ q))

      at_exhausted : (other : ℕ) → other ≤ 2 ^ 60 → NoneFits list_checks → other < list_budgets.all.nodes → Exhausted (list t target distances points R other)
      at_exhausted other l f h = let (S, w) = below_exhausted list_budgets other h in (other, S, at_passing other l f ∙ ap (end_of_list places) w ∙ list_exhausted places other S)

      -- the walk does not read the slices
      elsewhere : (a : ListAnswer) → listed ≡ found a → (others : List Float) (room : List ℤ) → NoneFits (list_call_checks t target others room R budget) →
          (length a.points ≤ length others → list t target others room R budget ≡ found a)
          × (length others < length a.points → list t target others room R budget ≡ refused (list_full (length a.points)))
      elsewhere a q others room f =
          let w = walked_list a q in
          let by_other = P.by_walk t target others room R budget doubles double f ∙ ap (end_of_list (length others)) w.walk in
          let many : length a.points ≡ length w.found = ap (λ (ps : List ListPoint). length ps) w.points_are ∙ sorted_length w.found in (
            λ h. by_other ∙ list_sorted (length others) w.found w.stood a.nodes (le-ltb (length others) (length w.found) (omega arith)) ∙ ap (λ (ps : List ListPoint). found (record { nodes = a.nodes; points = ps })) (sym w.points_are),
            λ h. by_other ∙ list_full_lem (length others) w.found w.stood a.nodes (lt-ltb (length others) (length w.found) (omega arith)) ∙ ap (λ (k : ℕ). refused (list_full k)) (sym many),
          )

      later : Ended listed → (larger : ℕ) → budget ≤ larger → larger ≤ 2 ^ 60 → list t target distances points R larger ≡ listed
      later over larger h l =
          let own = at budget (le_trans h l) in
          at larger l
          ∙ same_later (end_of_list places) (list_exhausted places) (verdict pass) (list_search t target (handed_on R) budget) (list_search t target (handed_on R) larger) (alike list_budgets.all budget larger _ _ h (list_budgets.agrees budget) (list_budgets.agrees larger)) (λ m S q. over m S (own ∙ q))
          ∙ sym own
