-- What is promised of `nearest` and `list` beside `Promises.antt`: of the walk with running centres, and of every budget (docs/SPECIFICATION.md, "What is promised"). Definitions only.
use Rattle.std.specs.Prelude.{◌≡◌, ◌↔◌, ℕ, zero, suc, ◌-◌, ◌≤◌, ◌<◌, ◌^◌, T, length, get_or, ℤ, pos, Float}
use mathlib.Core.List.{List, Memᴰ}
use Rattle.std.specs.Float.{nan, binary64}
use Rattle.std.specs.Float.Ieee.{add, sub, mul, le}
use Rattle.std.specs.Float.Ieee.Scale.{finite}
use Rattle.rounding.specs.Integers.{is_i64, to_double}
use Rattle.definitions.specs.Table.{Table, dimension, entry, coordinate, plus_zero, minus_zero}
use Rattle.definitions.specs.Admitted.{is_vector}
use Rattle.definitions.specs.Listing.{ListPoint}
use Rattle.definitions.specs.Running.{Running, initialize_centers, update_centers, running_nearest, running_list}
use Rattle.definitions.specs.Refusals.{Refusal, budget_exhausted, outside_radius, list_full}
use Rattle.definitions.specs.Checks.{handed_on}
use Rattle.definitions.specs.Calls.{Answer, found, refused, NearestPoint, nearest, ListAnswer, list}
use Rattle.theorems.specs.Counting.{count}
use Rattle.theorems.specs.Ordered.{vectors_of, StrictlyOrdered}
use Rattle.theorems.specs.Refusals.{NoneFits}
use Rattle.theorems.specs.Answers.{EndsAsWalk, EndsAsListWalk}
use Rattle.theorems.specs.Promises.{nearest_call_checks, list_call_checks}

-- the running centres of the start, and from any of them those after a level has taken an i64: those that a walk comes to are among them
pub data Reached (t : Table) (target : List Float) : Running → Type 0 where
  starts : Reached t target (initialize_centers t target)
  takes : (r : Running) → Reached t target r → (level : ℕ) → level < dimension t → (z : ℤ) → T (is_i64 z) → Reached t target (update_centers t level z r)

-- none of them overflows
abbrev pub FiniteCenters : Table → List Float → Type 0
FiniteCenters t target = (r : Running) → Reached t target r → (level : ℕ) → level < dimension t → T (finite (get_or r.centers level nan))

-- ---- which doubles the running centres are, in words of their own
-- c with the products target[j]·mu(j, level) added one by one, j rising, so many
abbrev pub products_from : ℕ → List Float → List Float → ℕ → ℕ → ℕ → Float → Float
products_from n mu target level j zero c = c
products_from n mu target level j (suc k) c = products_from n mu target level (suc j) k (add binary64 c (mul binary64 (coordinate target j) (entry n mu j level)))

-- at the start: every coordinate is 0, and a level's centre is its target with the products of the levels above it
pub record StartsAs (t : Table) (target : List Float) (r : Running) : Type 0 where
  pub coordinates : (level : ℕ) → level < dimension t → get_or r.point level (pos 0) ≡ pos 0
  pub centers_are : (level : ℕ) → level < dimension t → get_or r.centers level nan ≡ products_from (dimension t) t.mu target level (suc level) (dimension t - suc level) (coordinate target level)

-- r' is r once a level has taken z
pub record ChangedBy (t : Table) (level : ℕ) (z : ℤ) (r r' : Running) : Type 0 where
  pub taken : get_or r'.point level (pos 0) ≡ z
  pub other_coordinates : (k : ℕ) → (k ≡ level → ⊥) → get_or r'.point k (pos 0) ≡ get_or r.point k (pos 0)
  -- the same coordinate: nothing changes
  pub same : z ≡ get_or r.point level (pos 0) → r' ≡ r
  -- another: each centre below takes in the rounded product of the rounded difference, old less new, and mu(level, lower)
  pub below : (z ≡ get_or r.point level (pos 0) → ⊥) → (lower : ℕ) → lower < level → get_or r'.centers lower nan ≡ add binary64 (get_or r.centers lower nan) (mul binary64 (sub binary64 (to_double (get_or r.point level (pos 0))) (to_double z)) (entry (dimension t) t.mu level lower))
  -- the others stay
  pub not_below : (k : ℕ) → level ≤ k → get_or r'.centers k nan ≡ get_or r.centers k nan

-- so the centres start, and so each update changes those that a walk can come to
pub record CentersAs (t : Table) (target : List Float) : Type 0 where
  pub start : StartsAs t target (initialize_centers t target)
  pub update : (r : Running) → Reached t target r → (level : ℕ) → level < dimension t → (z : ℤ) → ChangedBy t level z r (update_centers t level z r)

-- from plus zero to R, so finite where R is
pub record Between (R d : Float) : Type 0 where
  pub not_below : T (le plus_zero d)
  pub not_minus_zero : d ≡ minus_zero → ⊥
  pub not_above : T (le d R)

-- 15
abbrev pub Exhausted : {A : Type 0} → Answer A → Type 0
Exhausted answer = (m : ℕ) × (S : Float) × (answer ≡ refused (budget_exhausted m S))

-- not 15
abbrev pub Ended : {A : Type 0} → Answer A → Type 0
Ended answer = (m : ℕ) (S : Float) → answer ≡ refused (budget_exhausted m S) → ⊥

-- `nearest`
module _ (t : Table) (target : List Float) (out : List ℤ) (radius : Float) (budget : ℕ) where
  pub record NearestRunning (answer : Answer NearestPoint) (out' : List ℤ) : Type 0 where
    pub centers : NoneFits (nearest_call_checks t target out radius budget) → CentersAs t target
    pub finite_centers : NoneFits (nearest_call_checks t target out radius budget) → FiniteCenters t target
    -- where no check fits: the same point, count and distance as the walk with running centres, or the same refusal and numbers; and out
    pub ends : 24 ≤ dimension t → NoneFits (nearest_call_checks t target out radius budget) → EndsAsWalk (handed_on radius) (running_nearest t target (handed_on radius) budget) out answer out'
    -- out holds n signed 64-bit integers, and the distance told is within the radius
    pub point : 24 ≤ dimension t → (a : NearestPoint) → answer ≡ found a → T (is_vector t out') × Between (handed_on radius) a.distance
    -- every n: so many nodes are needed; where no check fits, a budget is exhausted exactly if it is below that number, and a point found has cost just so many
    pub needed : ℕ
    pub exhausts : NoneFits (nearest_call_checks t target out radius budget) → (other : ℕ) → other ≤ 2 ^ 60 → Exhausted (nearest t target out radius other) ↔ (other < needed)
    pub nodes : (a : NearestPoint) → answer ≡ found a → a.nodes ≡ needed
    -- every n: 15 carries the budget as its count, and 16 the radius handed on
    pub count_of_15 : (m : ℕ) (S : Float) → answer ≡ refused (budget_exhausted m S) → m ≡ budget
    pub radius_of_15 : 24 ≤ dimension t → (m : ℕ) (S : Float) → answer ≡ refused (budget_exhausted m S) → Between (handed_on radius) S
    pub value_of_16 : (e : Refusal) → answer ≡ refused e → e.number ≡ 16 → e ≡ outside_radius (handed_on radius)
    -- every n: an answer that is not 15 is that of every larger budget up to 2^60
    pub larger_budget : Ended answer → (larger : ℕ) → budget ≤ larger → larger ≤ 2 ^ 60 → nearest t target out radius larger ≡ answer

-- `list`
module _ (t : Table) (target distances : List Float) (points : List ℤ) (radius : Float) (budget : ℕ) where
  pub record ListRunning (answer : Answer ListAnswer) (distances' : List Float) (points' : List ℤ) : Type 0 where
    pub centers : NoneFits (list_call_checks t target distances points radius budget) → CentersAs t target
    pub finite_centers : NoneFits (list_call_checks t target distances points radius budget) → FiniteCenters t target
    -- where no check fits: the same list and count as the walk with running centres, or the same refusal and numbers; and both slices
    pub ends : 24 ≤ dimension t → NoneFits (list_call_checks t target distances points radius budget) → EndsAsListWalk (running_list t target (handed_on radius) budget) distances points answer distances' points'
    -- each point is of n signed 64-bit integers, with a distance within the radius
    pub vectors : 24 ≤ dimension t → (a : ListAnswer) → answer ≡ found a → (p : ListPoint) → Memᴰ p a.points → T (is_vector t p.point) × Between (handed_on radius) p.distance
    -- no vector twice, and strictly in the list's order
    pub once : 24 ≤ dimension t → (a : ListAnswer) → answer ≡ found a → (x : List ℤ) → count x (vectors_of a.points) ≤ 1
    pub order : 24 ≤ dimension t → (a : ListAnswer) → answer ≡ found a → StrictlyOrdered a.points
    -- every n: so many nodes are needed; where no check fits, a budget is exhausted exactly if it is below that number, and a list has cost just so many
    pub needed : ℕ
    pub exhausts : NoneFits (list_call_checks t target distances points radius budget) → (other : ℕ) → other ≤ 2 ^ 60 → Exhausted (list t target distances points radius other) ↔ (other < needed)
    pub nodes : (a : ListAnswer) → answer ≡ found a → a.nodes ≡ needed
    -- every n: 15 carries the budget as its count, and the radius handed on
    pub values_of_15 : (m : ℕ) (S : Float) → answer ≡ refused (budget_exhausted m S) → (m ≡ budget) × (S ≡ handed_on radius)
    -- every n: an answer that is not 15 is that of every larger budget up to 2^60
    pub larger_budget : Ended answer → (larger : ℕ) → budget ≤ larger → larger ≤ 2 ^ 60 → list t target distances points radius larger ≡ answer
    -- every n: with other slices that pass the checks a list is the same, or 18 with its number of points if there are fewer places
    pub other_places : (a : ListAnswer) → answer ≡ found a → (others : List Float) (room : List ℤ) → NoneFits (list_call_checks t target others room radius budget) →
        (length a.points ≤ length others → list t target others room radius budget ≡ found a)
        × (length others < length a.points → list t target others room radius budget ≡ refused (list_full (length a.points)))
