-- The whole walk: what it asks for and what it leaves. Definitions only.
use Rattle.std.specs.Prelude.{◌≡◌, Bool, true, false, List, ℕ, ◌*◌, ◌≤◌, length, ℤ, Float}
use Rattle.definitions.specs.Table.{Table, dimension, largest_searched, largest_list, largest_budget}
use Rattle.definitions.specs.Shapes.{Shaped}
use Rattle.definitions.specs.Walk.{Walked}
use Rattle.definitions.specs.Running.{running_nearest, running_list}
use Rattle.search.specs.Kept.{Kept, mapped, best_only, list_only}
use Rattle.search.specs.View.{carried, seen}
use Rattle.running.specs.Call.{search_of}
use Rattle.running.specs.declared.Standing.{Standing}

-- A table, a target and a budget in their ranges, the best's array, places for the list, and nothing found yet.
pub record SearchReady (weights mu target : List Float) (best : List ℤ) (distances : List Float) (points : List ℤ) (found : ℕ) (exhausted : Bool) (budget : ℕ) : Type 0 where
  pub shape : Shaped largest_searched weights mu target
  pub best_length : length best ≡ largest_searched
  pub few : length distances ≤ largest_list
  pub points_length : length points ≡ length distances * length weights
  pub bounded : budget ≤ largest_budget
  pub none_found : found ≡ 0
  pub not_exhausted : exhausted ≡ false

-- the walk of `nearest`, with its best; or that of `list`, with the number of its points and those that had one of so many places
abbrev pub searched : Bool → ℕ → Table → List Float → Float → ℕ → Walked Kept
searched false room t target R budget = mapped best_only (running_nearest t target R budget)
searched true room t target R budget = mapped (list_only room) (running_list t target R budget)

-- What it leaves, with ': the walk's end is seen in its result, in the best and in the places of the list.
pub record Searched (listing : Bool) (t : Table) (target : List Float) (R : Float) (budget : ℕ) (distances : List Float) (points : List ℤ) (r : Standing) (best' : List ℤ) (distances' : List Float) (points' : List ℤ) (found' : ℕ) (exhausted' : Bool) : Type 0 where
  pub seen_as : seen (dimension t) (carried listing (search_of best' best' r) found' exhausted') distances' points' ≡ searched listing (length distances) t target R budget
  pub counted : r.nodes ≤ budget
  pub best_length : length best' ≡ largest_searched
  pub distances_length : length distances' ≡ length distances
  pub points_length : length points' ≡ length points
