-- The calls' answers and outputs, a clause each, as equations: proofs above rewrite with these and open no definition. Assumes nothing.
use mathlib.Core.Path.{◌≡◌, refl, sym, ap, ◌∙◌}
use mathlib.Core.Bool.{Bool, true, false, cond}
use mathlib.Core.List.{List, [], ◌∷◌, ◌++◌, map}
use Prim.Native.Nat.{ℕ, ◌≤◌, ◌<◌}
use native.Mathlib.Omega.{arith}
use mathlib.Core.Logic.{◌⊎◌, inl, inr}
use borrow.Author.Tests.{leb-true, leb-false, le-leb, lt-leb}
use lib.Dec.{ltb, leb}
use lib.ListN.{length}
use lib.IntN.{ℤ}
use lib.Ieee.{Float}
use Rattle.definitions.specs.Table.{Table, dimension, largest_dimension, largest_searched}
use Rattle.definitions.specs.Walk.{Walked, ended, exhausted}
use Rattle.definitions.specs.Nearest.{no_best, best, nearest_walk}
use Rattle.definitions.specs.Listing.{ListPoint, list_walk, sorted}
use Rattle.definitions.specs.Running.{running_nearest, running_list, nearest_search, list_search}
use Rattle.definitions.specs.Seeds.{widened}
use Rattle.definitions.specs.Refusals.{Refusal, budget_exhausted, outside_radius, list_full}
use Rattle.definitions.specs.Checks.{Verdict, pass, refuse, first_refusal, handed_on}
use Rattle.definitions.specs.Calls.{Answer, found, refused, after, NearestPoint, end_of_nearest, nearest_within, checks_of_nearest, nearest_checks, nearest, widened_search, checks_of_seeded, seeded_checks, nearest_seeded, ml_radius, checks_of_ml, ml_checks, nearest_ml, nearest_output, ListAnswer, end_of_list, checks_of_list, list_checks, list, written, coordinates, list_distances, list_points, checks_of_round, round, checks_of_plane, plane}

pub after_pass : {A : Type 0} (v : Verdict) (a : Answer A) → v ≡ pass → after v a ≡ a
unfolding after
after_pass {A} v a q = ap (λ (w : Verdict). after w a) q

pub after_refuse : {A : Type 0} (v : Verdict) (a : Answer A) (e : Refusal) → v ≡ refuse e → after v a ≡ refused e
unfolding after
after_refuse {A} v a e q = ap (λ (w : Verdict). after w a) q

pub found≢refused : {A : Type 0} {a : A} {e : Refusal} → found a ≡ refused e → ⊥
found≢refused p = let z : ◌≡◌ {A = ℕ} 0 1 = cc in omega arith

pub refused_same : {A : Type 0} {d e : Refusal} → ◌≡◌ {A = Answer A} (refused d) (refused e) → d ≡ e
refused_same p = cc

-- a found answer passed its checks
pub found_passed : {A : Type 0} (v : Verdict) (a : Answer A) (x : A) → after v a ≡ found x → (v ≡ pass) × (a ≡ found x)
found_passed pass a x e = (refl, sym (after_pass pass a refl) ∙ e)
found_passed (refuse r) a x e = absurd (found≢refused (sym e ∙ after_refuse (refuse r) a r refl))

-- ---- how a nearest search from R ends
module _ (R : Float) where
  pub end_exhausted : (m : ℕ) (S : Float) → end_of_nearest R (exhausted m S) ≡ refused (budget_exhausted m S)
  unfolding end_of_nearest
  end_exhausted m S = refl

  pub end_nothing : (S : Float) (m : ℕ) → end_of_nearest R (ended no_best S m) ≡ refused (outside_radius R)
  unfolding end_of_nearest
  end_nothing S m = refl

  pub end_point : (zs : List ℤ) (S : Float) (m : ℕ) → end_of_nearest R (ended (best zs) S m) ≡ found (record { nodes = m; distance = S; point = zs })
  unfolding end_of_nearest
  end_point zs S m = refl

pub within_is : (t : Table) (target : List Float) (R : Float) (budget : ℕ) → nearest_within t target R budget ≡ end_of_nearest R (nearest_search t target R budget)
unfolding nearest_within
within_is t target R budget = refl

-- ---- the walk that a call makes, by n
pub by_dimension : (t : Table) → (dimension t ≤ 23) ⊎ (23 < dimension t)
by_dimension t = go (leb (dimension t) 23) refl
  where
    go : (b : Bool) → leb (dimension t) 23 ≡ b → (dimension t ≤ 23) ⊎ (23 < dimension t)
    go true e = inl (leb-true (dimension t) 23 e)
    go false e = inr (leb-false (dimension t) 23 e)

module _ (t : Table) (target : List Float) (R : Float) (budget : ℕ) where
  pub search_small : dimension t ≤ 23 → nearest_search t target R budget ≡ nearest_walk t target R budget
  unfolding nearest_search
  search_small h = simp le-leb

  pub search_large : 23 < dimension t → nearest_search t target R budget ≡ running_nearest t target R budget
  unfolding nearest_search
  search_large h = simp lt-leb

  pub list_search_small : dimension t ≤ 23 → list_search t target R budget ≡ list_walk t target R budget
  unfolding list_search
  list_search_small h = simp le-leb

  pub list_search_large : 23 < dimension t → list_search t target R budget ≡ running_list t target R budget
  unfolding list_search
  list_search_large h = simp lt-leb

-- the search of all three up to dimension 23
pub within_small : (t : Table) (target : List Float) (R : Float) (budget : ℕ) → dimension t ≤ 23 → nearest_within t target R budget ≡ end_of_nearest R (nearest_walk t target R budget)
within_small t target R budget h = within_is t target R budget ∙ ap (end_of_nearest R) (search_small t target R budget h)

pub output_found : (a : NearestPoint) (out : List ℤ) → nearest_output (found a) out ≡ a.point
unfolding nearest_output
output_found a out = refl

pub output_refused : (e : Refusal) (out : List ℤ) → nearest_output (refused e) out ≡ out
unfolding nearest_output
output_refused e out = refl

module _ (t : Table) (target : List Float) (out : List ℤ) (R : Float) (budget : ℕ) where
  pub nearest_checks_are : nearest_checks largest_searched t target out R budget ≡ first_refusal (checks_of_nearest largest_searched t target out R budget)
  unfolding nearest_checks
  nearest_checks_are = refl

  pub nearest_is : nearest t target out R budget ≡ after (nearest_checks largest_searched t target out R budget) (nearest_within t target (handed_on R) budget)
  unfolding nearest
  nearest_is = refl

  pub nearest_checked : nearest_checks largest_searched t target out R budget ≡ pass → nearest t target out R budget ≡ nearest_within t target (handed_on R) budget
  nearest_checked q = nearest_is ∙ after_pass (nearest_checks largest_searched t target out R budget) (nearest_within t target (handed_on R) budget) q

  pub nearest_refused : (e : Refusal) → nearest_checks largest_searched t target out R budget ≡ refuse e → nearest t target out R budget ≡ refused e
  nearest_refused e q = nearest_is ∙ after_refuse (nearest_checks largest_searched t target out R budget) (nearest_within t target (handed_on R) budget) e q

-- ---- seeded and ml: the search of `nearest` at the widened radius
pub widened_search_is : (t : Table) (target : List Float) (R : Float) (budget : ℕ) → widened_search t target R budget ≡ nearest_within t target (widened (dimension t) R) budget
unfolding widened_search
widened_search_is t target R budget = refl

module _ (t : Table) (target : List Float) (out candidate : List ℤ) (R : Float) (budget : ℕ) where
  pub seeded_checks_are : seeded_checks largest_dimension t target out candidate R budget ≡ first_refusal (checks_of_seeded largest_dimension t target out candidate R budget)
  unfolding seeded_checks
  seeded_checks_are = refl

  pub seeded_is : nearest_seeded t target out candidate R budget ≡ after (seeded_checks largest_dimension t target out candidate R budget) (widened_search t target (handed_on R) budget)
  unfolding nearest_seeded
  seeded_is = refl

  pub seeded_checked : seeded_checks largest_dimension t target out candidate R budget ≡ pass → nearest_seeded t target out candidate R budget ≡ widened_search t target (handed_on R) budget
  seeded_checked q = seeded_is ∙ after_pass (seeded_checks largest_dimension t target out candidate R budget) (widened_search t target (handed_on R) budget) q

  pub seeded_refused : (e : Refusal) → seeded_checks largest_dimension t target out candidate R budget ≡ refuse e → nearest_seeded t target out candidate R budget ≡ refused e
  seeded_refused e q = seeded_is ∙ after_refuse (seeded_checks largest_dimension t target out candidate R budget) (widened_search t target (handed_on R) budget) e q

module _ (t : Table) (target : List Float) (out : List ℤ) (budget : ℕ) where
  pub ml_checks_are : ml_checks largest_dimension t target out budget ≡ first_refusal (checks_of_ml largest_dimension t target out budget)
  unfolding ml_checks
  ml_checks_are = refl

  pub ml_is : nearest_ml t target out budget ≡ after (ml_checks largest_dimension t target out budget) (widened_search t target (ml_radius t target) budget)
  unfolding nearest_ml
  ml_is = refl

  pub ml_checked : ml_checks largest_dimension t target out budget ≡ pass → nearest_ml t target out budget ≡ widened_search t target (ml_radius t target) budget
  ml_checked q = ml_is ∙ after_pass (ml_checks largest_dimension t target out budget) (widened_search t target (ml_radius t target) budget) q

  pub ml_refused : (e : Refusal) → ml_checks largest_dimension t target out budget ≡ refuse e → nearest_ml t target out budget ≡ refused e
  ml_refused e q = ml_is ∙ after_refuse (ml_checks largest_dimension t target out budget) (widened_search t target (ml_radius t target) budget) e q

-- ---- how a list ends
module _ (places : ℕ) where
  pub list_exhausted : (m : ℕ) (R : Float) → end_of_list places (exhausted m R) ≡ refused (budget_exhausted m R)
  unfolding end_of_list
  list_exhausted m R = refl

  list_ended : (ps : List ListPoint) (R : Float) (m : ℕ) → end_of_list places (ended ps R m) ≡ cond (ltb places (length ps)) (refused (list_full (length ps))) (found (record { nodes = m; points = sorted ps }))
  unfolding end_of_list
  list_ended ps R m = refl

  pub list_full_lem : (ps : List ListPoint) (R : Float) (m : ℕ) → ltb places (length ps) ≡ true → end_of_list places (ended ps R m) ≡ refused (list_full (length ps))
  list_full_lem ps R m q = list_ended ps R m ∙ ap (λ (b : Bool). cond b (refused (list_full (length ps))) (found (record { nodes = m; points = sorted ps }))) q

  pub list_sorted : (ps : List ListPoint) (R : Float) (m : ℕ) → ltb places (length ps) ≡ false → end_of_list places (ended ps R m) ≡ found (record { nodes = m; points = sorted ps })
  list_sorted ps R m q = list_ended ps R m ∙ ap (λ (b : Bool). cond b (refused (list_full (length ps))) (found (record { nodes = m; points = sorted ps }))) q

-- a list found is the walk's points in their order
pub list_walked : (places : ℕ) (w : Walked (List ListPoint)) (a : ListAnswer) → end_of_list places w ≡ found a → (ps : List ListPoint) × (S : Float) × (w ≡ ended ps S a.nodes) × (a.points ≡ sorted ps)
list_walked places (exhausted m R) a e = absurd (found≢refused (sym e ∙ list_exhausted places m R))
list_walked places (ended ps R m) a e = go (ltb places (length ps)) refl
  where
    go : (b : Bool) → ltb places (length ps) ≡ b → (qs : List ListPoint) × (S : Float) × (ended ps R m ≡ ended qs S a.nodes) × (a.points ≡ sorted qs)
    go true q = absurd (found≢refused (sym e ∙ list_full_lem places ps R m q))
    go false q =
        let f : found (record { nodes = m; points = sorted ps }) ≡ found a = sym (list_sorted places ps R m q) ∙ e in
        let r : record { nodes = m; points = sorted ps } ≡ a = cc in
        (ps, R, ap (λ (b : ListAnswer). ended ps R b.nodes) r, sym (ap (λ (b : ListAnswer). b.points) r))

pub distances_found : (a : ListAnswer) (distances : List Float) → list_distances (found a) distances ≡ written (map (λ (p : ListPoint). p.distance) a.points) distances
unfolding list_distances
distances_found a distances = refl

pub distances_refused : (e : Refusal) (distances : List Float) → list_distances (refused e) distances ≡ distances
unfolding list_distances
distances_refused e distances = refl

pub points_found : (a : ListAnswer) (points : List ℤ) → list_points (found a) points ≡ written (coordinates a.points) points
unfolding list_points
points_found a points = refl

pub points_refused : (e : Refusal) (points : List ℤ) → list_points (refused e) points ≡ points
unfolding list_points
points_refused e points = refl

pub coordinates_nil : coordinates [] ≡ []
unfolding coordinates
coordinates_nil = refl

pub coordinates_cons : (p : ListPoint) (ps : List ListPoint) → coordinates (p ∷ ps) ≡ p.point ++ coordinates ps
unfolding coordinates
coordinates_cons p ps = refl

module _ (t : Table) (target : List Float) (distances : List Float) (points : List ℤ) (R : Float) (budget : ℕ) where
  pub list_checks_are : list_checks largest_searched t target distances points R budget ≡ first_refusal (checks_of_list largest_searched t target distances points R budget)
  unfolding list_checks
  list_checks_are = refl

  pub list_is : list t target distances points R budget ≡ after (list_checks largest_searched t target distances points R budget) (end_of_list (length distances) (list_search t target (handed_on R) budget))
  unfolding list
  list_is = refl

  pub list_checked : list_checks largest_searched t target distances points R budget ≡ pass → list t target distances points R budget ≡ end_of_list (length distances) (list_search t target (handed_on R) budget)
  list_checked q = list_is ∙ after_pass (list_checks largest_searched t target distances points R budget) (end_of_list (length distances) (list_search t target (handed_on R) budget)) q

  pub list_refused : (e : Refusal) → list_checks largest_searched t target distances points R budget ≡ refuse e → list t target distances points R budget ≡ refused e
  list_refused e q = list_is ∙ after_refuse (list_checks largest_searched t target distances points R budget) (end_of_list (length distances) (list_search t target (handed_on R) budget)) e q

-- ---- round, nearest_plane
pub round_is : (coefficients : List Float) (out : List ℤ) → round coefficients out ≡ first_refusal (checks_of_round coefficients out)
unfolding round
round_is coefficients out = refl

pub plane_is : (t : Table) (coefficients : List Float) (out : List ℤ) → plane t coefficients out ≡ first_refusal (checks_of_plane largest_dimension t coefficients out)
unfolding plane
plane_is t coefficients out = refl
