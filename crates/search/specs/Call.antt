-- A call of the walk: what it starts from, what it asks for and what it leaves. Definitions only.
use Rattle.std.specs.Prelude.{◌≡◌, Bool, false, List, ℕ, ◌+◌, ◌*◌, ◌≤◌, length, ℤ, Float}
use Rattle.std.specs.Borrow.{Bor, MutBor}
use denote.Triple.Both.{Both}
use Rattle.lists.specs.Places.{places}
use Rattle.definitions.specs.Table.{Table, table, dimension, largest_dimension, largest_list, largest_budget}
use Rattle.definitions.specs.Shapes.{Shaped}
use Rattle.definitions.specs.Distance.{center}
use Rattle.definitions.specs.Walk.{Walked, still, walk}
use Rattle.distance.specs.Residuals.{residuals}
use Rattle.search.specs.Kept.{Kept, leaf}
use Rattle.search.specs.View.{Search, carried, seen}
use Rattle.search.specs.declared.RecursiveSearch.{RecursiveSearch}

-- What the walk changes: the search, the residuals beside its point under trial, and the places of the list.
pub record State : Type 0 where
  pub search : Search
  pub rest : List Float
  pub distances : List Float
  pub points : List ℤ

abbrev pub state : Search → List Float → List Float → List ℤ → State
state s rest distances points = record { search = s; rest = rest; distances = distances; points = points }

-- A call with `depth` levels left, `partial` being the sum of the terms above.
pub record Call : Type 0 where
  pub listing : Bool
  pub table : Table
  pub target : List Float
  pub budget : ℕ
  pub depth : ℕ
  pub partial : Float
  pub from : State

abbrev pub size : Call → ℕ
size q = dimension q.table

-- the coordinates above the depth are those of the point under trial
abbrev pub prefix : Call → List ℤ
prefix q = places (size q) q.depth q.from.search.point

-- the walk of the definitions from there
abbrev pub walk_of : Call → Walked Kept
walk_of q =
    walk (leaf q.listing (length q.from.distances)) (still (center q.table q.target)) q.table q.budget q.depth (prefix q) q.partial (seen (size q) q.from.search q.from.distances q.from.points)

-- What a call asks for: a table, a target and a budget in their ranges, a search that is not exhausted, the residuals of the coordinates above, and places for the list.
pub record Ready (q : Call) : Type 0 where
  pub shape : Shaped largest_dimension q.table.weights q.table.mu q.target
  pub within : q.depth ≤ size q
  pub bounded : q.budget ≤ largest_budget
  pub counted : q.from.search.nodes ≤ q.budget
  pub not_exhausted : q.from.search.exhausted ≡ false
  pub listed : q.from.search.listed ≤ q.from.search.nodes
  pub rest_length : length q.from.rest ≡ largest_dimension
  pub rest_above : places (size q) q.depth q.from.rest ≡ residuals q.target q.depth (prefix q)
  pub few : length q.from.distances ≤ largest_list
  pub points_length : length q.from.points ≡ length q.from.distances * size q

-- What stays of a call's state: coordinates and residuals above the depth, and the lengths. Nodes are counted up to the budget; each point found costs a node, but the first.
pub record Preserved (q : Call) (x : State) : Type 0 where
  pub point_above : places (size q) q.depth x.search.point ≡ prefix q
  pub more : q.from.search.nodes ≤ x.search.nodes
  pub counted : x.search.nodes ≤ q.budget
  pub listed : x.search.listed + q.from.search.nodes ≤ x.search.nodes + q.from.search.listed + 1
  pub rest_length : length x.rest ≡ largest_dimension
  pub rest_above : places (size q) q.depth x.rest ≡ places (size q) q.depth q.from.rest
  pub distances_length : length x.distances ≡ length q.from.distances
  pub points_length : length x.points ≡ length q.from.points

-- What a call leaves: what the walk of the definitions comes to.
pub record Returned (q : Call) (x : State) : Type 0 where
  pub seen_as : seen (size q) x.search x.distances x.points ≡ walk_of q
  pub preserved : Preserved q x

-- ---- the arguments of `run`
abbrev pub call_of : Bor (List Float) → Bor (List Float) → Bor (List Float) → MutBor (List Float) → MutBor (List Float) → MutBor (List ℤ) → MutBor ℕ → MutBor Bool → Bool → ℕ → ℕ → Float → RecursiveSearch → Call
call_of mu weights target rest distances points found exhausted listing budget depth partial s = record {
  listing = listing;
  table = table weights.now mu.now;
  target = target.now;
  budget = budget;
  depth = depth;
  partial = partial;
  from = state (carried listing s found.now exhausted.now) rest.now distances.now points.now;
}

module _ {A B C D E F G H : Type 0} where
  -- as they are at entry
  abbrev pub call_at : Both (Bor (List Float)) A → Both (Bor (List Float)) B → Both (Bor (List Float)) C → Both (MutBor (List Float)) D → Both (MutBor (List Float)) E → Both (MutBor (List ℤ)) F → Both (MutBor ℕ) G → Both (MutBor Bool) H → Bool → ℕ → ℕ → Float → RecursiveSearch → Call
  call_at mu weights target rest distances points found exhausted listing budget depth partial s =
      call_of mu.entry weights.entry target.entry rest.entry distances.entry points.entry found.entry exhausted.entry listing budget depth partial s

module _ {A B C D E : Type 0} where
  -- and at exit, with its result
  abbrev pub exit_state : Both A (MutBor (List Float)) → Both B (MutBor (List Float)) → Both C (MutBor (List ℤ)) → Both D (MutBor ℕ) → Both E (MutBor Bool) → Bool → RecursiveSearch → State
  exit_state rest distances points found exhausted listing r = state (carried listing r found.exit.now exhausted.exit.now) rest.exit.now distances.exit.now points.exit.now
