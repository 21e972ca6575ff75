-- What the code's values stand for, and what the leaves leave of them. Definitions only.
use Rattle.std.specs.Prelude.{◌≡◌, Bool, true, false, cond, List, ℕ, ◌+◌, ◌*◌, ◌≤◌, ◌<◌, min, ltb, length, take, replicate, ℤ, pos, Float}
use Rattle.definitions.specs.Table.{largest_dimension, largest_budget}
use Rattle.definitions.specs.Shapes.{Shaped}
use Rattle.definitions.specs.Walk.{Walked, ended, exhausted}
use Rattle.definitions.specs.Nearest.{Best, best, no_best}
use Rattle.definitions.specs.Rows.{rows}
use Rattle.search.specs.Kept.{Kept, leaf}
use Rattle.search.specs.declared.RecursiveSearch.{RecursiveSearch}

-- ---- what the walk carries
-- A search: the code's struct, and beside it whether there is a best, whether the budget ran out, and how many points were found for the list.
pub record Search : Type 0 where
  pub point : List ℤ
  pub best : List ℤ
  pub radius : Float
  pub nodes : ℕ
  pub found : Bool
  pub exhausted : Bool
  pub listed : ℕ

-- The code lends one number for both calls: the points found for the list, or 0 while `nearest` has no best.
abbrev pub carried : Bool → RecursiveSearch → ℕ → Bool → Search
carried listing s found spent = record {
  point = s.point;
  best = s.best;
  radius = s.radius;
  nodes = s.nodes;
  found = cond listing false (ltb 0 found);
  exhausted = spent;
  listed = cond listing found 0;
}

-- the start of a walk
abbrev pub new_search : Float → RecursiveSearch
new_search radius = record { point = replicate largest_dimension (pos 0); best = replicate largest_dimension (pos 0); radius = radius; nodes = 0 }

-- a struct with the point under trial as its best
abbrev pub with_best : RecursiveSearch → Float → RecursiveSearch
with_best s d = record { point = s.point; best = s.point; radius = d; nodes = s.nodes }

-- ---- what it keeps
abbrev pub best_where : Bool → List ℤ → Best
best_where found point = cond found (best point) no_best

abbrev pub best_of : ℕ → Search → Best
best_of n s = best_where s.found (take n s.best)

abbrev pub kept : ℕ → Search → List Float → List ℤ → Kept
kept n s distances points = record { best = best_of n s; count = s.listed; stored = rows n (min s.listed (length distances)) distances points }

-- what a search has come to
abbrev pub seen : ℕ → Search → List Float → List ℤ → Walked Kept
seen n s distances points = cond s.exhausted (exhausted s.nodes s.radius) (ended (kept n s distances points) s.radius s.nodes)

-- ---- a leaf
-- What the leaf of `nearest` leaves of a struct s and the number found: with ', what it gives back.
pub record Considered (n : ℕ) (s : RecursiveSearch) (d : Float) (found : ℕ) (s' : RecursiveSearch) (found' : ℕ) : Type 0 where
  pub seen_as : (distances : List Float) (points : List ℤ) → seen n (carried false s' found' false) distances points ≡ leaf false (length distances) (take n s.point) d (kept n (carried false s found false) distances points) s.radius s.nodes
  pub point : s'.point ≡ s.point
  pub nodes : s'.nodes ≡ s.nodes

-- The best and the point under trial have n coordinates.
pub record BeforeReady (n : ℕ) (point best : List ℤ) : Type 0 where
  pub point_fits : n ≤ length point
  pub best_fits : n ≤ length best

-- What the leaf of `list` asks for: a point of n coordinates, and n coordinates for each place.
pub record PushReady (n : ℕ) (point : List ℤ) (found : ℕ) (distances : List Float) (points : List ℤ) : Type 0 where
  pub point_fits : n ≤ length point
  pub bounded : found ≤ largest_budget
  pub points_length : length points ≡ length distances * n

-- What the leaf of `list` leaves of the places and the number found, for any struct with that point under trial.
pub record Pushed (n : ℕ) (point : List ℤ) (d : Float) (found found' : ℕ) (distances distances' : List Float) (points points' : List ℤ) : Type 0 where
  pub seen_as : (s : RecursiveSearch) → s.point ≡ point → seen n (carried true s found' false) distances' points' ≡ leaf true (length distances) (take n s.point) d (kept n (carried true s found false) distances points) s.radius s.nodes
  pub counted : found' ≡ found + 1
  pub distances_length : length distances' ≡ length distances
  pub points_length : length points' ≡ length points

-- ---- a level
-- What its generator asks for: a level of the table, and an array for the residuals above it.
pub record EnterReady (weights mu target rest : List Float) (level : ℕ) : Type 0 where
  pub shape : Shaped largest_dimension weights mu target
  pub rest_length : length rest ≡ largest_dimension
  pub below : level < length weights
