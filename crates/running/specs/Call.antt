-- A call of the walk: what it starts from, what it asks for and what it leaves. Definitions only.
use Rattle.std.specs.Prelude.{◌≡◌, Bool, false, List, ℕ, ◌+◌, ◌*◌, ◌≤◌, length, ℤ, Float}
use Rattle.std.specs.Borrow.{Bor, MutBor}
use denote.Triple.Both.{Both}
use Rattle.lists.specs.Places.{places}
use Rattle.definitions.specs.Table.{Table, table, dimension, largest_searched, largest_list, largest_budget}
use Rattle.definitions.specs.Walk.{Walked, walk}
use Rattle.definitions.specs.Running.{Beside, with_running, leaf_beside, running_centers}
use Rattle.search.specs.Kept.{Kept, leaf}
use Rattle.search.specs.View.{Search, carried, seen, Considered}
use Rattle.search.specs.declared.RecursiveSearch.{RecursiveSearch}
use Rattle.running.specs.Centers.{running_of}
use Rattle.running.specs.declared.Standing.{Standing}

-- the arrays that are lent and the struct that is passed, as the one struct of the smaller dimensions
abbrev pub search_of : List ℤ → List ℤ → Standing → RecursiveSearch
search_of point best s = record { point = point; best = best; radius = s.radius; nodes = s.nodes }

-- ---- the leaf of `nearest`
-- what it asks for
pub record ConsiderReady (n : ℕ) (point best : List ℤ) : Type 0 where
  pub small : n ≤ largest_searched
  pub point_length : length point ≡ largest_searched
  pub best_length : length best ≡ largest_searched

-- what it leaves, with '
pub record ConsideredBy (n : ℕ) (point best : List ℤ) (s : Standing) (d : Float) (found : ℕ) (best' : List ℤ) (s' : Standing) (found' : ℕ) : Type 0 where
  pub considered : Considered n (search_of point best s) d found (search_of point best' s') found'
  pub best_length : length best' ≡ largest_searched

-- ---- the walk
-- What the walk changes: the search, the centres beside its point under trial, and the places of the list.
pub record State : Type 0 where
  pub search : Search
  pub centers : List Float
  pub distances : List Float
  pub points : List ℤ

abbrev pub state : Search → List Float → List Float → List ℤ → State
state s centers distances points = record { search = s; centers = centers; distances = distances; points = points }

-- what it has come to, with the running centres beside what it keeps
abbrev pub view : ℕ → State → Walked (Beside Kept)
view n x = with_running (running_of n x.search.point x.centers) (seen n x.search x.distances x.points)

-- A call with `depth` levels left, `partial` being the sum of the terms above.
pub record Call : Type 0 where
  pub listing : Bool
  pub table : Table
  pub budget : ℕ
  pub depth : ℕ
  pub partial : Float
  pub from : State

abbrev pub size : Call → ℕ
size q = dimension q.table

-- the coordinates above the depth are those of the point under trial
abbrev pub prefix : Call → List ℤ
prefix q = places (size q) q.depth q.from.search.point

-- the walk of the definitions from there
abbrev pub walk_of : Call → Walked (Beside Kept)
walk_of q = walk (leaf_beside (leaf q.listing (length q.from.distances))) (running_centers q.table) q.table q.budget q.depth (prefix q) q.partial (view (size q) q.from)

-- What a call asks for: a table and a budget in their ranges, a search that is not exhausted, arrays of their lengths, and places for the list.
pub record Ready (q : Call) : Type 0 where
  pub small : size q ≤ largest_searched
  pub square : length q.table.mu ≡ size q * size q
  pub within : q.depth ≤ size q
  pub bounded : q.budget ≤ largest_budget
  pub counted : q.from.search.nodes ≤ q.budget
  pub not_exhausted : q.from.search.exhausted ≡ false
  pub listed : q.from.search.listed ≤ q.from.search.nodes
  pub point_length : length q.from.search.point ≡ largest_searched
  pub best_length : length q.from.search.best ≡ largest_searched
  pub centers_length : length q.from.centers ≡ largest_searched
  pub few : length q.from.distances ≤ largest_list
  pub points_length : length q.from.points ≡ length q.from.distances * size q

-- What stays of a call's state: the coordinates above the depth, and the lengths. A level reads its centre only when it is entered, so nothing is said of the
-- centres. Nodes are counted up to the budget; each point found costs a node, but the first.
pub record Preserved (q : Call) (x : State) : Type 0 where
  pub point_above : places (size q) q.depth x.search.point ≡ prefix q
  pub more : q.from.search.nodes ≤ x.search.nodes
  pub counted : x.search.nodes ≤ q.budget
  pub listed : x.search.listed + q.from.search.nodes ≤ x.search.nodes + q.from.search.listed + 1
  pub point_length : length x.search.point ≡ largest_searched
  pub best_length : length x.search.best ≡ largest_searched
  pub centers_length : length x.centers ≡ largest_searched
  pub distances_length : length x.distances ≡ length q.from.distances
  pub points_length : length x.points ≡ length q.from.points

-- What a call leaves: what the walk of the definitions comes to.
pub record Returned (q : Call) (x : State) : Type 0 where
  pub seen_as : view (size q) x ≡ walk_of q
  pub preserved : Preserved q x

-- ---- the arguments of `run`
abbrev pub call_of : Bor (List Float) → Bor (List Float) → MutBor (List ℤ) → MutBor (List ℤ) → MutBor (List Float) → MutBor (List Float) → MutBor (List ℤ) → MutBor ℕ → MutBor Bool → Bool → ℕ → ℕ → Float → Standing → Call
call_of mu weights point best centers distances points found exhausted listing budget depth partial s = record {
  listing = listing;
  table = table weights.now mu.now;
  budget = budget;
  depth = depth;
  partial = partial;
  from = state (carried listing (search_of point.now best.now s) found.now exhausted.now) centers.now distances.now points.now;
}

module _ {A B C D E F G H I : Type 0} where
  -- as they are at entry
  abbrev pub call_at : Both (Bor (List Float)) A → Both (Bor (List Float)) B → Both (MutBor (List ℤ)) C → Both (MutBor (List ℤ)) D → Both (MutBor (List Float)) E → Both (MutBor (List Float)) F → Both (MutBor (List ℤ)) G → Both (MutBor ℕ) H → Both (MutBor Bool) I → Bool → ℕ → ℕ → Float → Standing → Call
  call_at mu weights point best centers distances points found exhausted listing budget depth partial s =
      call_of mu.entry weights.entry point.entry best.entry centers.entry distances.entry points.entry found.entry exhausted.entry listing budget depth partial s

module _ {A B C D E F G : Type 0} where
  -- and at exit, with its result
  abbrev pub exit_state : Both A (MutBor (List ℤ)) → Both B (MutBor (List ℤ)) → Both C (MutBor (List Float)) → Both D (MutBor (List Float)) → Both E (MutBor (List ℤ)) → Both F (MutBor ℕ) → Both G (MutBor Bool) → Bool → Standing → State
  exit_state point best centers distances points found exhausted listing r =
      state (carried listing (search_of point.exit.now best.exit.now r) found.exit.now exhausted.exit.now) centers.exit.now distances.exit.now points.exit.now
