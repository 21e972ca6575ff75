-- What each call promises of its answer and of the slices it leaves (docs/SPECIFICATION.md, "What is promised"): a record for each call, for every input of doubles. Definitions only.
-- `answer` and the primed slices are what the caller gets. Beside "where no check fits", n ≤ 23 stands where a promise is made up to dimension 23 and the checks of `nearest` and `list` do not say so; the searches from a candidate share the record.
use Rattle.std.specs.Prelude.{◌≡◌, List, [], map, ◌⊎◌, ◌↔◌, ℕ, ◌≤◌, ◌<◌, T, length, ℤ, Float}
use Rattle.std.specs.Float.Ieee.{lt}
use Rattle.rounding.specs.Integers.{round_away}
use Rattle.definitions.specs.Table.{Table, dimension, largest_dimension, largest_searched, plus_zero, minus_zero}
use Rattle.definitions.specs.Distance.{distance, has_distance}
use Rattle.definitions.specs.Admitted.{is_vector, admitted, opened}
use Rattle.definitions.specs.Nearest.{nearest_walk}
use Rattle.definitions.specs.Listing.{ListPoint, list_walk}
use Rattle.definitions.specs.Seeds.{nearest_plane, widened}
use Rattle.definitions.specs.Refusals.{Refusal, budget_exhausted, outside_radius, list_full}
use Rattle.definitions.specs.Checks.{Verdict, pass, not_finite, target_fault, handed_on}
use Rattle.definitions.specs.Calls.{Answer, found, refused, NearestPoint, checks_of_nearest, nearest, checks_of_seeded, nearest_seeded, ml_radius, checks_of_ml, nearest_output, checks_of_distance, ListAnswer, list, list_distances, list_points, written, coordinates, checks_of_list, checks_of_round, checks_of_plane}
use Rattle.theorems.specs.Counting.{NumberOf}
use Rattle.theorems.specs.Ordered.{BeginsAt, StrictlyOrdered}
use Rattle.theorems.specs.Refusals.{NoneFits, FirstFits, FirstIsLeast, NumberIndex, FirstIndices}
use Rattle.theorems.specs.Accepted.{NearestAccepted, SeededAccepted, MlAccepted, DistanceAccepted, ListAccepted, RoundAccepted, PlaneAccepted}
use Rattle.theorems.specs.Answers.{Nearest, Listed, EndsAsWalk, EndsAsListWalk, SameAdmitted, RadiusBounds, NoMinusZero, Demand1, VerdictDemand1}

-- ---- nearest, nearest_seeded, nearest_ml: R is the radius that the walk starts from

-- a radius that can have stood: R, or the distance of a vector admitted at R
abbrev pub StandingRadius : Table → List Float → Float → Float → Type 0
StandingRadius t target R S = (S ≡ R) ⊎ ((z : List ℤ) × T (admitted t target R z) × (S ≡ distance t target z))

-- the nodes of a nearest search, its checks having passed
pub record NearestNodes (t : Table) (target : List Float) (R : Float) (budget : ℕ) (answer : Answer NearestPoint) : Type 0 where
  -- the number of prefixes opened at R
  pub prefixes : ℕ
  pub opened_number : NumberOf (opened t target R) prefixes
  -- a budget of at least that number is never exhausted
  pub enough_budget : prefixes ≤ budget → (m : ℕ) (S : Float) → answer ≡ refused (budget_exhausted m S) → ⊥
  -- a point found has cost no more nodes than that
  pub most_nodes : (a : NearestPoint) → answer ≡ found a → a.nodes ≤ prefixes
  -- 15 carries the budget as its count, and the radius that stood
  pub values_of_15 : (m : ℕ) (S : Float) → answer ≡ refused (budget_exhausted m S) → (m ≡ budget) × StandingRadius t target R S

-- what all three promise, whose checks are these; once they have passed, 15 and k are the only refusals: k is 16 for `nearest`, and 15 for the other two
pub record SearchPromises (checks : List Verdict) (k : ℕ) (t : Table) (target : List Float) (R : Float) (budget : ℕ) (out : List ℤ) (answer : Answer NearestPoint) (out' : List ℤ) : Type 0 where
  -- refused by the first check that fits, with its number and values; where none fits, a point or 15 or k; a refusal leaves out as it was
  pub demand_1 : Demand1 checks 15 k answer (out' ≡ out)
  -- the first check that fits has the least number that fits
  pub least_number : FirstIsLeast checks
  -- 3, 4, 5 and 7 carry the first index
  pub first_indices : FirstIndices checks t target_fault target
  -- no refusal carries minus zero
  pub no_minus_zero : (e : Refusal) → answer ≡ refused e → NoMinusZero e
  -- where no check fits: the same point, count and distance as the walk, or the same refusal and numbers; and out
  pub ends : dimension t ≤ 23 → NoneFits checks → EndsAsWalk R (nearest_walk t target R budget) out answer out'
  -- a point found: out holds a vector of n signed 64-bit integers, admitted at R, and no such vector has a smaller computed distance
  pub point : dimension t ≤ 23 → (a : NearestPoint) → answer ≡ found a → Nearest t target R out'
  -- its distance is the computed distance of what out holds, which does not overflow
  pub own_distance : dimension t ≤ 23 → (a : NearestPoint) → answer ≡ found a → (a.distance ≡ distance t target out') × T (has_distance t target out')
  -- plus zero at n = 0
  pub zero_distance : dimension t ≡ 0 → (a : NearestPoint) → answer ≡ found a → a.distance ≡ plus_zero
  -- where no check fits: the number of opened prefixes, and what it says of the budget and the count
  pub nodes : dimension t ≤ 23 → NoneFits checks → NearestNodes t target R budget answer

-- a point is found, and out holds it
abbrev pub PointWritten : Answer NearestPoint → List ℤ → Type 0
PointWritten answer out' = (a : NearestPoint) × (answer ≡ found a) × (out' ≡ a.point)

-- no check fits, no vector is admitted, and the budget is at least the number of opened prefixes
abbrev pub NothingToFind : List Verdict → Table → List Float → Float → ℕ → Type 0
NothingToFind checks t target R budget =
    NoneFits checks × ((y : List ℤ) → T (admitted t target R y) → ⊥) × (k : ℕ) × NumberOf (opened t target R) k × (k ≤ budget)

-- `nearest`
module _ (t : Table) (target : List Float) (out : List ℤ) (radius : Float) (budget : ℕ) where
  abbrev pub nearest_call_checks : List Verdict
  nearest_call_checks = checks_of_nearest largest_searched t target out radius budget

  pub record NearestPromises (answer : Answer NearestPoint) (out' : List ℤ) : Type 0 where
    -- no check fits exactly where the input is one that the call accepts
    pub accepts : NoneFits nearest_call_checks ↔ NearestAccepted t target out radius budget
    pub search : let R = handed_on radius in SearchPromises nearest_call_checks 16 t target R budget out answer out'
    -- 16 if and only if no check fits, no vector is admitted, and the budget has a node for every opened prefix
    pub gives_16 : dimension t ≤ 23 → let R = handed_on radius in (answer ≡ refused (outside_radius R)) ↔ NothingToFind nearest_call_checks t target R budget
    -- where no check fits, the call's own radius admits and opens what the radius handed on does
    pub own_radius : NoneFits nearest_call_checks → SameAdmitted t target radius (handed_on radius)
    -- at minus zero the answer and what out holds are those at plus zero
    pub at_minus_zero : radius ≡ minus_zero → let zero = nearest t target out plus_zero budget in (answer ≡ zero) × (out' ≡ nearest_output zero out)
    -- a point found: every list of the same table, target and radius that succeeds, whatever its slices and its budget, begins at the
    -- point's distance; its first point may be another one that is as near (case I)
    pub list_first : dimension t ≤ 23 → (a : NearestPoint) → answer ≡ found a →
        (distances : List Float) (points : List ℤ) (list_budget : ℕ) (l : ListAnswer) → list t target distances points radius list_budget ≡ found l →
        BeginsAt a.distance l.points

-- what a search from a candidate promises beside, its checks having passed; R is the widened radius
pub record FromCandidate (t : Table) (target : List Float) (candidate : List ℤ) (R : Float) (budget : ℕ) (out : List ℤ) (answer : Answer NearestPoint) (out' : List ℤ) : Type 0 where
  -- n of 1 or more: R is strictly above the candidate's distance
  pub above : 1 ≤ dimension t → T (lt (distance t target candidate) R)
  -- n = 0: the empty point, without a node
  pub empty_point : dimension t ≡ 0 → (answer ≡ found (record { nodes = 0; distance = plus_zero; point = [] })) × (out' ≡ [])
  -- a budget with a node for every prefix opened at R: a point is written
  pub gives_point : (prefixes : ℕ) → NumberOf (opened t target R) prefixes → prefixes ≤ budget → PointWritten answer out'
  -- every budget: a point is written, or the answer is 15; nothing else
  pub point_or_15 : PointWritten answer out' ⊎ ((S : Float) × (answer ≡ refused (budget_exhausted budget S)) × (out' ≡ out))
  -- the answer and what out holds are those of `nearest` at R
  pub as_nearest : let same = nearest t target out R budget in (answer ≡ same) × (out' ≡ nearest_output same out)

-- `nearest_seeded`
module _ (t : Table) (target : List Float) (out candidate : List ℤ) (radius : Float) (budget : ℕ) where
  abbrev pub seeded_call_checks : List Verdict
  seeded_call_checks = checks_of_seeded largest_dimension t target out candidate radius budget

  pub record SeededPromises (answer : Answer NearestPoint) (out' : List ℤ) : Type 0 where
    pub accepts : NoneFits seeded_call_checks ↔ SeededAccepted t target out candidate radius budget
    pub search : let R = widened (dimension t) (handed_on radius) in SearchPromises seeded_call_checks 15 t target R budget out answer out'
    pub from_candidate : NoneFits seeded_call_checks → FromCandidate t target candidate (widened (dimension t) (handed_on radius)) budget out answer out'
    -- where no check fits, the call's own radius is widened to what the radius handed on is
    pub own_radius : NoneFits seeded_call_checks → widened (dimension t) radius ≡ widened (dimension t) (handed_on radius)
    -- at minus zero the answer and what out holds are those at plus zero
    pub at_minus_zero : radius ≡ minus_zero → let zero = nearest_seeded t target out candidate plus_zero budget in (answer ≡ zero) × (out' ≡ nearest_output zero out)

-- `nearest_ml`
module _ (t : Table) (target : List Float) (out : List ℤ) (budget : ℕ) where
  abbrev pub ml_call_checks : List Verdict
  ml_call_checks = checks_of_ml largest_dimension t target out budget

  pub record MlPromises (answer : Answer NearestPoint) (out' : List ℤ) : Type 0 where
    pub accepts : NoneFits ml_call_checks ↔ MlAccepted t target out budget
    pub search : let R = widened (dimension t) (ml_radius t target) in SearchPromises ml_call_checks 15 t target R budget out answer out'
    pub from_candidate : NoneFits ml_call_checks → FromCandidate t target (nearest_plane t target).point (widened (dimension t) (ml_radius t target)) budget out answer out'

-- ---- distance
module _ (t : Table) (target : List Float) (point : List ℤ) where
  abbrev pub distance_call_checks : List Verdict
  distance_call_checks = checks_of_distance largest_dimension t target point

  pub record DistancePromises (answer : Answer Float) : Type 0 where
    pub accepts : NoneFits distance_call_checks ↔ DistanceAccepted t target point
    -- refused exactly by the first check that fits, with its number and values; where none fits, the computed distance
    pub refuses : (e : Refusal) → FirstFits distance_call_checks e ↔ (answer ≡ refused e)
    pub answers : NoneFits distance_call_checks ↔ (answer ≡ found (distance t target point))
    pub least_number : FirstIsLeast distance_call_checks
    pub first_indices : FirstIndices distance_call_checks t target_fault target

-- ---- list

-- the numbers of opened prefixes and admitted vectors say how a list ends, its checks having passed
pub record ListNumbers (t : Table) (target : List Float) (R : Float) (budget places : ℕ) (answer : Answer ListAnswer) : Type 0 where
  pub prefixes : ℕ
  pub opened_number : NumberOf (opened t target R) prefixes
  pub vectors : ℕ
  pub admitted_number : NumberOf (admitted t target R) vectors
  -- a list exactly where the budget and the places are enough
  pub gives_list : ((a : ListAnswer) × (answer ≡ found a)) ↔ ((prefixes ≤ budget) × (vectors ≤ places))
  -- 18 exactly where the budget is enough and the places are not; it carries the number of admitted vectors
  pub gives_18 : (k : ℕ) → (answer ≡ refused (list_full k)) ↔ ((prefixes ≤ budget) × (places < vectors) × (k ≡ vectors))
  -- 15 exactly where the budget is below the number of opened prefixes; it carries the budget and R
  pub gives_15 : (m : ℕ) (S : Float) → (answer ≡ refused (budget_exhausted m S)) ↔ ((budget < prefixes) × (m ≡ budget) × (S ≡ R))

-- `list`
module _ (t : Table) (target distances : List Float) (points : List ℤ) (radius : Float) (budget : ℕ) where
  abbrev pub list_call_checks : List Verdict
  list_call_checks = checks_of_list largest_searched t target distances points radius budget

  pub record ListPromises (answer : Answer ListAnswer) (distances' : List Float) (points' : List ℤ) : Type 0 where
    pub accepts : NoneFits list_call_checks ↔ ListAccepted t target distances points radius budget
    -- refused by the first check that fits, with its number and values; where none fits, a list or 15 or 18;
    -- a refusal leaves both slices as they were
    pub demand_1 : Demand1 list_call_checks 15 18 answer ((distances' ≡ distances) × (points' ≡ points))
    pub least_number : FirstIsLeast list_call_checks
    pub first_indices : FirstIndices list_call_checks t target_fault target
    -- no refusal carries minus zero
    pub no_minus_zero : (e : Refusal) → answer ≡ refused e → NoMinusZero e
    -- where no check fits: the same list and count as the walk, or the same refusal and numbers; and both slices
    pub ends : dimension t ≤ 23 → NoneFits list_call_checks → EndsAsListWalk (list_walk t target (handed_on radius) budget) distances points answer distances' points'
    -- every admitted vector once, nothing else, each with its own distance; as many nodes as there are opened prefixes
    pub exact : dimension t ≤ 23 → (a : ListAnswer) → answer ≡ found a → Listed t target (handed_on radius) a.points a.nodes
    -- strictly in the list's order
    pub order : dimension t ≤ 23 → (a : ListAnswer) → answer ≡ found a → StrictlyOrdered a.points
    -- the slices begin with them, and what lies behind the last point stays as it was
    pub slices : (a : ListAnswer) → answer ≡ found a →
        (distances' ≡ written (map (λ (p : ListPoint). p.distance) a.points) distances) × (points' ≡ written (coordinates a.points) points)
    pub numbers : dimension t ≤ 23 → NoneFits list_call_checks → ListNumbers t target (handed_on radius) budget (length distances) answer
    -- where no check fits: an admitted vector has a distance of at most the radius, and one that is not admitted, so not listed, has none below it
    pub radius_bounds : dimension t ≤ 23 → NoneFits list_call_checks → RadiusBounds t target radius
    -- where no check fits, the call's own radius admits and opens what the radius handed on does
    pub own_radius : NoneFits list_call_checks → SameAdmitted t target radius (handed_on radius)
    -- at minus zero the answer and what both slices hold are those at plus zero
    pub at_minus_zero : radius ≡ minus_zero →
        let zero = list t target distances points plus_zero budget in
        (answer ≡ zero) × (distances' ≡ list_distances zero distances) × (points' ≡ list_points zero points)

-- ---- round, nearest_plane

-- `round`
pub record RoundPromises (coefficients : List Float) (out : List ℤ) (verdict : Verdict) (out' : List ℤ) : Type 0 where
  pub accepts : NoneFits (checks_of_round coefficients out) ↔ RoundAccepted coefficients out
  -- refused exactly by the first check that fits, with its number and values, and out is as it was
  pub demand_1 : VerdictDemand1 (checks_of_round coefficients out) verdict (out' ≡ out)
  pub least_number : FirstIsLeast (checks_of_round coefficients out)
  pub first_index : NumberIndex (checks_of_round coefficients out) not_finite coefficients
  -- otherwise out holds `round_away` of each coefficient
  pub output : verdict ≡ pass → out' ≡ map round_away coefficients

-- `nearest_plane`
module _ (t : Table) (coefficients : List Float) (out : List ℤ) where
  abbrev pub plane_call_checks : List Verdict
  plane_call_checks = checks_of_plane largest_dimension t coefficients out

  pub record PlanePromises (verdict : Verdict) (coefficients' : List Float) (out' : List ℤ) : Type 0 where
    pub accepts : NoneFits plane_call_checks ↔ PlaneAccepted t coefficients out
    -- refused exactly by the first check that fits, with its number and values, and both slices are as they were
    pub demand_1 : VerdictDemand1 plane_call_checks verdict ((out' ≡ out) × (coefficients' ≡ coefficients))
    pub least_number : FirstIsLeast plane_call_checks
    pub first_indices : FirstIndices plane_call_checks t not_finite coefficients
    -- otherwise out holds the nearest-plane point, a vector of n signed 64-bit integers, and the coefficients t - z
    pub output : verdict ≡ pass → (out' ≡ (nearest_plane t coefficients).point) × T (is_vector t out')
    pub residuals : verdict ≡ pass → coefficients' ≡ (nearest_plane t coefficients).left
