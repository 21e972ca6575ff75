-- The nearest walk: docs/SPECIFICATION.md, "Nearest". Definitions only.
use Rattle.std.specs.Prelude.{ℕ, Bool, true, false, ◌&&◌, ◌||◌, cond, List, [], ◌∷◌, ℤ, Float}
use Rattle.std.specs.Int.Signed.{lt_z, le_z}
use Rattle.std.specs.Float.Ieee.{lt, eq}
use Rattle.definitions.specs.Table.{Table, dimension, plus_zero}
use Rattle.definitions.specs.Distance.{center}
use Rattle.definitions.specs.Walk.{Walked, ended, Leaf, still, walk}

-- the best so far
pub data Best : Type 0 where
  no_best : Best
  best : List ℤ → Best

-- lexicographic order, in which coordinate 0 is compared first
unfoldable pub lexicographic : List ℤ → List ℤ → Bool
lexicographic [] ys = false
lexicographic (x ∷ xs) [] = false
lexicographic (x ∷ xs) (y ∷ ys) = lt_z x y || (le_z x y && lexicographic xs ys)

-- whether a leaf replaces the best: there is none, or the leaf is nearer, or as near and lexicographically first.
-- A best stands at the standing radius, so the distance is compared with that.
unfoldable pub replaces : List ℤ → Float → Best → Float → Bool
unfolding lexicographic lt eq
replaces zs d no_best standing = true
replaces zs d (best b) standing = lt d standing || (eq d standing && lexicographic zs b)

-- a leaf of the nearest walk: if it replaces the best, its distance becomes the standing radius
unfoldable pub consider : Leaf Best
unfolding replaces
consider zs d k standing nodes = cond (replaces zs d k standing) (ended (best zs) d nodes) (ended k standing nodes)

-- the walk up to dimension 23, from its start: above level n - 1, with the partial sum plus zero, without nodes and without a best
unfoldable pub nearest_walk : Table → List Float → Float → ℕ → Walked Best
unfolding walk consider center
nearest_walk t target R budget = walk consider (still (center t target)) t budget (dimension t) [] plus_zero (ended no_best R 0)
