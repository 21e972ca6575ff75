-- What the functions ask for, and what they leave. Definitions only.
use Rattle.std.specs.Prelude.{◌≡◌, Result, false, List, map, reverse, ℕ, ◌*◌, ◌≤◌, ◌<◌, min, length, take, ℤ, Float}
use Rattle.std.specs.Float.{binary64}
use Rattle.rounding.specs.Kinds.{NonNegative}
use Rattle.lists.specs.All.{All, AllBelow}
use Rattle.definitions.specs.Table.{Table, table, dimension, weight, largest_searched, largest_list, largest_budget}
use Rattle.definitions.specs.Shapes.{Shaped}
use Rattle.definitions.specs.Walk.{Walked, ended}
use Rattle.definitions.specs.Listing.{ListPoint, sorted}
use Rattle.definitions.specs.Running.{list_search}
use Rattle.definitions.specs.Rows.{rows}
use Rattle.definitions.specs.Checks.{pass, weight_fault}
use Rattle.definitions.specs.Calls.{list_checks, written, coordinates}
use Rattle.sorting.specs.Ready.{PlacesReady}
use Rattle.listing.specs.declared.ListFound.{ListFound}
use Rattle.listing.specs.declared.Exhausted.{Exhausted}
use Rattle.listing.specs.View.{ending_of}

-- ---- the walk
pub record WalkReady (largest : ℕ) (weights mu target distances : List Float) (points : List ℤ) (budget : ℕ) : Type 0 where
  pub shape : Shaped largest weights mu target
  pub few : length distances ≤ largest_list
  pub points_length : length points ≡ length distances * length weights
  pub bounded : budget ≤ largest_budget

-- how the walk w ended; the first points that it found are stored in the order of finding, as many as there are places
pub record ListWalked (n places : ℕ) (w : Walked (List ListPoint)) (r : Result ListFound Exhausted) (distances : List Float) (points : List ℤ) : Type 0 where
  pub ending : r ≡ ending_of w
  pub stored : (ps : List ListPoint) (R : Float) (m : ℕ) → w ≡ ended ps R m → rows n (min (length ps) places) distances points ≡ take places (reverse ps)
  pub distances_length : length distances ≡ places
  pub points_length : length points ≡ places * n

-- ---- the private arrays
module _ (t : Table) (target distances : List Float) (points : List ℤ) (R : Float) (budget : ℕ) where
  -- the checks have passed, and there are at most so many places
  pub record ListFits (places : ℕ) : Type 0 where
    pub passed : list_checks largest_searched t target distances points R budget ≡ pass
    pub places_fit : length distances ≤ places

  -- arrays that are long enough; the coordinates may have room for fewer points
  pub record WithinReady (measured : List Float) (vectors : List ℤ) (order spare : List ℕ) : Type 0 where
    pub passed : list_checks largest_searched t target distances points R budget ≡ pass
    pub measured_fits : length distances ≤ length measured
    pub order_fits : length distances ≤ length order
    pub spare_fits : length distances ≤ length spare

  -- and as much of them as there are places, or as the coordinates have room for
  pub record IntoReady (measured : List Float) (vectors : List ℤ) (order spare : List ℕ) : Type 0 where
    pub passed : list_checks largest_searched t target distances points R budget ≡ pass
    pub measured_within : length measured ≤ length distances
    pub vectors_length : length vectors ≡ length measured * dimension t
    pub order_length : length order ≡ length measured
    pub spare_length : length spare ≡ length measured

-- ---- the output
pub record DistancesReady (found : List Float) (order : List ℕ) (distances : List Float) : Type 0 where
  pub order_fits : length order ≤ length distances
  pub below : AllBelow (length found) order

pub record PointsReady (found : List ℤ) (order : List ℕ) (n : ℕ) (points : List ℤ) : Type 0 where
  pub found_length : length found ≡ length order * n
  pub found_fits : length found ≤ length points
  pub below : AllBelow (length order) order

pub record WriteReady (n : ℕ) (measured : List Float) (vectors : List ℤ) (order spare : List ℕ) (distances : List Float) (points : List ℤ) : Type 0 where
  pub places : PlacesReady n measured vectors order spare
  pub distances_fit : length measured ≤ length distances
  pub points_fit : length vectors ≤ length points

pub record FirstReady (n k : ℕ) (measured : List Float) (vectors : List ℤ) (order spare : List ℕ) (distances : List Float) (points : List ℤ) : Type 0 where
  pub small : n ≤ 64
  pub few : k ≤ largest_list
  pub measured_fit : k ≤ length measured
  pub vectors_length : length vectors ≡ length measured * n
  pub distances_plus : All (NonNegative binary64) (take k measured)
  pub order_fits : k ≤ length order
  pub spare_fits : k ≤ length spare
  pub distances_fit : k ≤ length distances
  pub points_fit : k * n ≤ length points

-- these points are in the first places; the others keep their contents
pub record ListWritten (ps : List ListPoint) (distances distances' : List Float) (points points' : List ℤ) : Type 0 where
  pub writes_distances : distances' ≡ written (map (λ (p : ListPoint). p.distance) ps) distances
  pub writes_points : points' ≡ written (coordinates ps) points

-- ---- more places than the private arrays have room for
-- numbers whose product is far from the largest
pub record RoomsReady (n places : ℕ) : Type 0 where
  pub small : n ≤ largest_searched
  pub few : places ≤ largest_list

pub record Rooms (coordinates n places r : ℕ) : Type 0 where
  pub within : r ≤ places
  pub fits : r * n ≤ coordinates

-- a walk that finds as many points as there are places, over weights that have passed their check
pub record InPlaceReady (weights mu target distances : List Float) (points : List ℤ) (R : Float) (budget : ℕ) : Type 0 where
  pub ready : WalkReady largest_searched weights mu target distances points budget
  pub weighted : (i : ℕ) → i < length weights → weight_fault (weight (table weights mu) i) ≡ false
  pub found : List ListPoint
  pub stood : Float
  pub nodes : ℕ
  pub walk : list_search (table weights mu) target R budget ≡ ended found stood nodes
  pub count : length found ≡ length distances

-- the slices hold its points in the list's order
pub record InPlace (w : Walked (List ListPoint)) (distances : List Float) (points : List ℤ) : Type 0 where
  pub writes_distances : (ps : List ListPoint) (R : Float) (m : ℕ) → w ≡ ended ps R m → distances ≡ map (λ (p : ListPoint). p.distance) (sorted ps)
  pub writes_points : (ps : List ListPoint) (R : Float) (m : ℕ) → w ≡ ended ps R m → points ≡ coordinates (sorted ps)
