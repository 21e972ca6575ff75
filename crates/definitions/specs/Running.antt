-- The walk of dimensions 24 to 64, with running centres: docs/SPECIFICATION.md, "Running centres". Each centre is kept from node to node and changed by the change
-- of one coordinate times an entry mu, so it depends on the walk's path. Definitions only.
use Rattle.std.specs.Prelude.{ℕ, zero, suc, ◌*◌, Bool, ◌&&◌, cond, List, [], ◌∷◌, leb, take, drop, get_or, set, replicate, ℤ, pos, Float}
use Rattle.std.specs.Int.Signed.{le_z}
use Rattle.std.specs.Float.{nan, binary64}
use Rattle.std.specs.Float.Ieee.{add, sub, mul, of_int}
use Rattle.rounding.specs.Integers.{to_double}
use Rattle.definitions.specs.Table.{Table, dimension, coordinate, plus_zero, largest_dimension}
use Rattle.definitions.specs.Walk.{Walked, ended, exhausted, Leaf, Centers, walk}
use Rattle.definitions.specs.Nearest.{Best, no_best, consider, nearest_walk}
use Rattle.definitions.specs.Listing.{ListPoint, collect, list_walk}

-- the last coordinate that each level took, 0 at first, and each level's centre; neither is set back when the walk goes up
pub record Running : Type 0 where
  pub point : List ℤ
  pub centers : List Float

-- the entries of a row, each times a factor, added to the centres from level 0 up: the product is rounded, then the sum
unfoldable pub add_row : Float → List Float → List Float → List Float
unfolding add mul
add_row factor [] cs = cs
add_row factor (m ∷ ms) [] = []
add_row factor (m ∷ ms) (c ∷ cs) = add binary64 c (mul binary64 factor m) ∷ add_row factor ms cs

-- the entries of row j that are read: mu(j, 0) to mu(j, j-1)
abbrev pub row_of : ℕ → List Float → ℕ → List Float
row_of n mu j = take j (drop (j * n) mu)

-- the rows below j, rising, each times its own target
unfoldable pub add_rows : ℕ → List Float → List Float → ℕ → List Float → List Float
unfolding add_row
add_rows n mu target zero cs = cs
add_rows n mu target (suc j) cs = add_row (coordinate target j) (row_of n mu j) (add_rows n mu target j cs)

-- `initialize_centers`: every coordinate is 0, and the centres are the target with all rows added
unfoldable pub initialize_centers : Table → List Float → Running
unfolding add_rows
initialize_centers t target = record {
  point = replicate (dimension t) (pos 0);
  centers = add_rows (dimension t) t.mu target (dimension t) target;
}

-- two integers are the same
abbrev pub same_integer : ℤ → ℤ → Bool
same_integer a b = le_z a b && le_z b a

-- `update_centers`, where a level takes z: nothing if that is its coordinate already; else its row is added to the centres below it, times the
-- old coordinate less z: both are converted to doubles, then subtracted
unfoldable pub update_centers : Table → ℕ → ℤ → Running → Running
unfolding add_row sub of_int
update_centers t level z r =
    let old = get_or r.point level (pos 0) in
    let change = sub binary64 (to_double old) (to_double z) in
    cond (same_integer old z) r (record { point = set r.point level z; centers = add_row change (row_of (dimension t) t.mu level) r.centers })

-- ---- the walk: that of the smaller dimensions, with these centres

-- what is kept, and the running centres beside it
pub record Beside (K : Type 0) : Type 0 where
  pub kept : K
  pub running : Running

abbrev pub beside : {K : Type 0} → K → Running → Beside K
beside k r = record { kept = k; running = r }

abbrev pub with_running : {K : Type 0} → Running → Walked K → Walked (Beside K)
with_running r (ended k standing nodes) = ended (beside k r) standing nodes
with_running r (exhausted nodes standing) = exhausted nodes standing

abbrev pub only_kept : {K : Type 0} → Walked (Beside K) → Walked K
only_kept (ended b standing nodes) = ended b.kept standing nodes
only_kept (exhausted nodes standing) = exhausted nodes standing

-- a leaf leaves the centres as they are
abbrev pub leaf_beside : {K : Type 0} → Leaf K → Leaf (Beside K)
leaf_beside leaf zs d b standing nodes = with_running b.running (leaf zs d b.kept standing nodes)

-- a level's centre is read when the level is entered, and each child updates those below, also where its sum fails the test
abbrev pub running_centers : {K : Type 0} → Table → Centers (Beside K)
running_centers t = record {
  at = λ level zs b. get_or b.running.centers level nan;
  moved = λ level z b. beside b.kept (update_centers t level z b.running);
}

-- the walk from its start: above level n - 1, with the partial sum plus zero, without nodes
unfoldable pub running_walk : {K : Type 0} → Leaf K → Table → List Float → K → Float → ℕ → Walked K
unfolding walk update_centers initialize_centers
running_walk leaf t target k R budget =
    only_kept (walk (leaf_beside leaf) (running_centers t) t budget (dimension t) [] plus_zero (ended (beside k (initialize_centers t target)) R 0))

-- `Search`
unfoldable pub running_nearest : Table → List Float → Float → ℕ → Walked Best
unfolding running_walk consider
running_nearest t target R budget = running_walk consider t target no_best R budget

-- `ListSearch`
unfoldable pub running_list : Table → List Float → Float → ℕ → Walked (List ListPoint)
unfolding running_walk collect
running_list t target R budget = running_walk collect t target [] R budget

-- ---- the walk that a call makes: up to dimension 23 that of the smaller dimensions

unfoldable pub nearest_search : Table → List Float → Float → ℕ → Walked Best
unfolding nearest_walk running_nearest
nearest_search t target R budget = cond (leb (dimension t) largest_dimension) (nearest_walk t target R budget) (running_nearest t target R budget)

unfoldable pub list_search : Table → List Float → Float → ℕ → Walked (List ListPoint)
unfolding list_walk running_list
list_search t target R budget = cond (leb (dimension t) largest_dimension) (list_walk t target R budget) (running_list t target R budget)
