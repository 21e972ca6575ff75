-- The walk without a budget: each level tries all its children. Definitions only.
use Prim.Native.Nat.{ℕ, zero, suc}
use Rattle.std.specs.Prelude.{Bool, cond, ℤ, Float}
use mathlib.Core.List.{List, [], ◌∷◌}
use Rattle.std.specs.Float.Ieee.{binary64, add, sub, le}
use Rattle.definitions.specs.Table.{Table, dimension, weight, plus_zero}
use Rattle.definitions.specs.Distance.{term, center}
use Rattle.definitions.specs.Walk.{Centers, still}
use Rattle.definitions.specs.Nearest.{Best, no_best, best, replaces}
use Rattle.definitions.specs.Listing.{ListPoint}
use Rattle.theorems.specs.Children.{children}

-- what is kept of the leaves, the standing radius and the nodes
pub record Progress (K : Type 0) : Type 0 where
  pub kept : K
  pub standing : Float
  pub nodes : ℕ

-- what a leaf does to what is kept and to the standing radius
abbrev pub Outcome : Type 0 → Type 0
Outcome K = List ℤ → Float → K → Float → K × Float

abbrev pub counted : {K : Type 0} → Progress K → Progress K
counted s = record { kept = s.kept; standing = s.standing; nodes = suc s.nodes }

-- below a child is walked if "partial + term ≤ the standing radius"
abbrev pub walked_below : {K : Type 0} → Float → Progress K → Bool
walked_below sum s = le sum s.standing

module _ {K : Type 0} (outcome : Outcome K) (centers : Centers K) (t : Table) where
  -- a level has taken an integer
  abbrev pub took : ℕ → ℤ → Progress K → Progress K
  took level z s = record { kept = centers.moved level z s.kept; standing = s.standing; nodes = s.nodes }

  -- a child costs a node; below it is walked if the test given holds
  abbrev pub after_child : Bool → (List ℤ → Float → Progress K → Progress K) → List ℤ → Float → Progress K → Progress K
  after_child passed down zs sum s = cond passed (down zs sum (counted s)) (counted s)

  unfoldable pub all_children : (List ℤ → Float → Progress K → Progress K) → ℕ → List ℤ → Float → Float → List ℤ → Progress K → Progress K
  unfolding term add le
  all_children down level zs p c [] s = s
  all_children down level zs p c (z ∷ cs) s =
      let sum = add binary64 p (term (weight t level) c z) in
      all_children down level zs p c cs (after_child (walked_below sum s) down (z ∷ zs) sum (took level z s))

  unfoldable pub walk_all : ℕ → List ℤ → Float → Progress K → Progress K
  unfolding all_children children sub
  walk_all zero zs p s = record { kept = (outcome zs p s.kept s.standing).0; standing = (outcome zs p s.kept s.standing).1; nodes = s.nodes }
  walk_all (suc level) zs p s =
      let c = centers.at level zs s.kept in
      all_children (walk_all level) level zs p c (children c (sub binary64 s.standing p) (weight t level)) s

-- the leaf of `nearest`: the best and the standing radius after it
abbrev pub nearer : Outcome Best
nearer zs d k standing = (cond (replaces zs d k standing) (best zs) k, cond (replaces zs d k standing) d standing)

-- the leaf of `list`
abbrev pub added : Outcome (List ListPoint)
added zs d found standing = (record { distance = d; point = zs } ∷ found, standing)

-- the walk of `nearest` and that of `list`
abbrev pub nearest_all : Table → List Float → Float → Progress Best
nearest_all t target R = walk_all nearer (still (center t target)) t (dimension t) [] plus_zero (record { kept = no_best; standing = R; nodes = 0 })

abbrev pub list_all : Table → List Float → Float → Progress (List ListPoint)
list_all t target R = walk_all added (still (center t target)) t (dimension t) [] plus_zero (record { kept = []; standing = R; nodes = 0 })
