-- The walk that `nearest` and `list` share: docs/SPECIFICATION.md, "Nearest" and "List". They differ in what a leaf does, and from dimension 24 on in their centres ("Running centres"). Definitions only.
use Prim.Native.Nat.{ℕ, zero, suc}
use Rattle.std.specs.Prelude.{Bool, List, ◌∷◌, leb, ℤ, Float}
use Rattle.std.proofs.Math.Bool.{true, false}
use Rattle.std.specs.Float.Ieee.{binary64, add, sub, le}
use Rattle.definitions.specs.Table.{Table, weight}
use Rattle.definitions.specs.Distance.{term}
use Rattle.definitions.specs.Zigzag.{Next, child, none, Start, open_level, no_children, start, next}

-- What a walk has come to: what it keeps of its leaves, the standing radius and the nodes; or its end by refusal 15, with the nodes and the standing radius
pub data Walked (K : Type 0) : Type 0 where
  ended : K → Float → ℕ → Walked K
  exhausted : ℕ → Float → Walked K

-- what a leaf does, of its point and distance, to what is kept and to the standing radius
abbrev pub Leaf : Type 0 → Type 0
Leaf K = List ℤ → Float → K → Float → ℕ → Walked K

-- a walk below a prefix, of its coordinates and partial sum
abbrev pub Descent : Type 0 → Type 0
Descent K = List ℤ → Float → Walked K → Walked K

-- where a walk has its centres from: that of a level, by the coordinates above it and what is kept; and what is kept once a level has taken an integer
pub record Centers (K : Type 0) : Type 0 where
  pub at : ℕ → List ℤ → K → Float
  pub moved : ℕ → ℤ → K → K

-- centres that the coordinates above them give alone
abbrev pub still : {K : Type 0} → (ℕ → List ℤ → Float) → Centers K
still center_of = record { at = λ level zs k. center_of level zs; moved = λ level z k. k }

module _ {K : Type 0} (leaf : Leaf K) (centers : Centers K) (t : Table) (budget : ℕ) where
  -- below a child, if its partial sum is within the standing radius: the test is given
  unfoldable pub descend_if : Bool → Descent K → List ℤ → Float → Walked K → Walked K
  descend_if true down zs sum w = down zs sum w
  descend_if false down zs sum w = w

  -- a child: 15 if the budget is used up, which is given; else one node more, then the descent
  unfoldable pub visit : Bool → Descent K → List ℤ → Float → K → Float → ℕ → Walked K
  unfolding descend_if le
  visit true down zs sum k standing nodes = exhausted nodes standing
  visit false down zs sum k standing nodes = descend_if (le sum standing) down zs sum (ended k standing (suc nodes))

  -- A level's children in zigzag order, from the child given. c is the centre, p the partial sum above.
  -- `fuel` makes the recursion plain. Each child costs a node, so `suc budget` never runs out (law `fuel_is_enough`).
  unfoldable pub try_children : Descent K → ℕ → List ℤ → Float → Float → ℕ → Next → Walked K → Walked K
  unfolding visit next term add
  try_children down level zs p c zero x w = w
  try_children down level zs p c (suc fuel) x (exhausted nodes standing) = exhausted nodes standing
  try_children down level zs p c (suc fuel) (none g) (ended k standing nodes) = ended k standing nodes
  try_children down level zs p c (suc fuel) (child z g) (ended k standing nodes) =
      try_children down level zs p c fuel (next g)
      (visit (leb budget nodes) down (z ∷ zs) (add binary64 p (term (weight t level) c z)) (centers.moved level z k) standing nodes)

  unfoldable pub try_level : Descent K → ℕ → List ℤ → Float → Float → Start → Walked K → Walked K
  unfolding try_children next
  try_level down level zs p c no_children w = w
  try_level down level zs p c (open_level g) w = try_children down level zs p c (suc budget) (next g) w

  -- a level is entered: R is the standing radius at that moment, and the zigzag keeps R - partial
  unfoldable pub enter : Descent K → ℕ → Descent K
  unfolding try_level start sub
  enter down level zs p (exhausted nodes standing) = exhausted nodes standing
  enter down level zs p (ended k standing nodes) =
      let c = centers.at level zs k in
      try_level down level zs p c (start c (sub binary64 standing p) (weight t level)) (ended k standing nodes)

  unfoldable pub at_leaf : Descent K
  at_leaf zs p (exhausted nodes standing) = exhausted nodes standing
  at_leaf zs p (ended k standing nodes) = leaf zs p k standing nodes

  -- the walk with so many levels left; with none left it is at a leaf
  unfoldable pub walk : ℕ → Descent K
  unfolding enter at_leaf
  walk zero = at_leaf
  walk (suc level) = enter (walk level) level
