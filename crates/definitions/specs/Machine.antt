-- The nearest walk up to dimension 23 as a machine that can be put down and picked up: it holds what the recursion of `walk` holds, and each of its steps costs one node.
-- Definitions only.
use Prim.Native.Nat.{ℕ, zero, suc}
use Rattle.std.specs.Prelude.{Bool, cond, ℤ, Float}
use Rattle.std.proofs.Math.Bool.{true, false}
use mathlib.Core.List.{List, [], ◌∷◌}
use Rattle.std.specs.Float.Ieee.{binary64, add, sub, le}
use Rattle.definitions.specs.Table.{Table, dimension, weight, plus_zero}
use Rattle.definitions.specs.Distance.{term, center}
use Rattle.definitions.specs.Zigzag.{Zigzag, Next, child, none, Start, open_level, no_children, start, next}
use Rattle.definitions.specs.Walk.{Walked, ended, exhausted}
use Rattle.definitions.specs.Nearest.{Best, no_best, best, replaces}

-- An open level: the coordinates above it, their partial sum, its centre, the child that waits, which was taken before the budget was asked, and the
-- generator after that child. A level without a further child is not open.
pub record Frame : Type 0 where
  pub level : ℕ
  pub above : List ℤ
  pub partial : Float
  pub center : Float
  pub waiting : ℤ
  pub generator : Zigzag

-- A walk that is put down: its open levels, the lowest first, the best, the standing radius and the nodes. Without an open level it is over.
pub record Machine : Type 0 where
  pub stack : List Frame
  pub kept : Best
  pub standing : Float
  pub nodes : ℕ

abbrev pub machine : List Frame → Best → Float → ℕ → Machine
machine fs k standing nodes = record { stack = fs; kept = k; standing = standing; nodes = nodes }

-- a level with what its zigzag gives next
unfoldable pub push : ℕ → List ℤ → Float → Float → Next → List Frame → List Frame
push level zs p c (child z g) fs = record { level = level; above = zs; partial = p; center = c; waiting = z; generator = g } ∷ fs
push level zs p c (none g) fs = fs

-- a level that is entered
unfoldable pub opened : ℕ → List ℤ → Float → Float → Start → List Frame → List Frame
unfolding push next
opened level zs p c (open_level g) fs = push level zs p c (next g) fs
opened level zs p c no_children fs = fs

-- the best and the standing radius after a leaf
abbrev pub best_after : List ℤ → Float → Best → Float → Best
best_after zs d k standing = cond (replaces zs d k standing) (best zs) k

abbrev pub standing_after : List ℤ → Float → Best → Float → Float
standing_after zs d k standing = cond (replaces zs d k standing) d standing

module _ (t : Table) (target : List Float) where
  -- the walk below a prefix begins, with so many levels left: its first level is opened; a leaf is done at once
  unfoldable pub descend : ℕ → List ℤ → Float → List Frame → Best → Float → ℕ → Machine
  unfolding opened start sub center replaces
  descend zero zs p fs k standing nodes = machine fs (best_after zs p k standing) (standing_after zs p k standing) nodes
  descend (suc level) zs p fs k standing nodes =
      let c = center t target level zs in
      machine (opened level zs p c (start c (sub binary64 standing p) (weight t level)) fs) k standing nodes

  -- below the waiting child of a level, if its partial sum is within the standing radius: the test is given
  unfoldable pub visited : Bool → Frame → Float → List Frame → Best → Float → ℕ → Machine
  unfolding descend
  visited true f sum fs k standing nodes = descend f.level (f.waiting ∷ f.above) sum fs k standing nodes
  visited false f sum fs k standing nodes = machine fs k standing nodes

  -- the waiting child of the lowest open level costs a node; its level then waits with its next child, if there is one
  unfoldable pub advance : List Frame → Best → Float → ℕ → Machine
  unfolding visited push next term add le
  advance [] k standing nodes = machine [] k standing nodes
  advance (f ∷ fs) k standing nodes =
      let sum = add binary64 f.partial (term (weight t f.level) f.center f.waiting) in
      visited (le sum standing) f sum (push f.level f.above f.partial f.center (next f.generator) fs) k standing (suc nodes)

  -- one step: a node, if the walk is not over
  unfoldable pub step : Machine → Machine
  unfolding advance
  step s = advance s.stack s.kept s.standing s.nodes

  -- so many nodes further, or to the end of the walk
  unfoldable pub run_for : ℕ → Machine → Machine
  unfolding step
  run_for zero s = s
  run_for (suc budget) s = run_for budget (step s)

  -- the start: above level n - 1, with the partial sum plus zero, without nodes and without a best
  unfoldable pub begin : Float → Machine
  unfolding descend
  begin R = descend (dimension t) [] plus_zero [] no_best R 0

-- what a machine has come to: it is over, or it stopped at a waiting child
unfoldable pub came : List Frame → Best → Float → ℕ → Walked Best
came [] k standing nodes = ended k standing nodes
came (f ∷ fs) k standing nodes = exhausted nodes standing

abbrev pub outcome_of : Machine → Walked Best
outcome_of s = came s.stack s.kept s.standing s.nodes
