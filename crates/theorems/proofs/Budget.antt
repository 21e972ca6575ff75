-- A walk that ends at a budget ends alike at every larger one, and one that is exhausted has the budget as its count. For every table, target and radius. Assumes nothing.
use mathlib.Core.Path.{◌≡◌, refl, sym, ◌∙◌, subst}
use mathlib.Core.Logic.{inl, inr}
use Prim.Native.Nat.{ℕ, ◌≤◌, ◌<◌, zero-le}
use native.Mathlib.Nat.{le_trans, not-le_of_lt}
use mathlib.Core.Bool.{Bool, true, false, cond}
use mathlib.Core.List.{List, []}
use lib.IntN.{ℤ}
use lib.Ieee.{Float}
use Rattle.definitions.specs.Table.{Table, dimension, plus_zero}
use Rattle.definitions.specs.Distance.{center}
use Rattle.definitions.specs.Walk.{Walked, ended, exhausted, Leaf, Centers, still, walk}
use Rattle.definitions.specs.Nearest.{Best, no_best, best, replaces, consider, nearest_walk}
use Rattle.definitions.specs.Listing.{ListPoint, collect, list_walk}
use Rattle.definitions.proofs.Leaves.{ended_is_not_exhausted, consider_is, nearest_walk_is, collect_is, list_walk_is}
use Rattle.theorems.specs.Unbudgeted.{Progress, Outcome, walk_all, nearer, added, nearest_all, list_all}
use Rattle.theorems.proofs.Unbudgeted.{Agrees, LeafOf, walk_agrees}

-- ---- what a walk that agrees with one without a budget tells
module _ {K : Type 0} (f : Progress K) where
  pub agrees_ended : (b : ℕ) (w : Walked K) → Agrees b f w → (k : K) (S : Float) (m : ℕ) → w ≡ ended k S m → (f.nodes ≤ b) × (f.kept ≡ k) × (f.standing ≡ S) × (f.nodes ≡ m)
  agrees_ended b w (inl a) k S m e = let q = same a.1 e in (a.0, q.0, q.1, q.2)
    where
      same : w ≡ ended f.kept f.standing f.nodes → w ≡ ended k S m → (f.kept ≡ k) × (f.standing ≡ S) × (f.nodes ≡ m)
      same p q = (cc, cc, cc)
  agrees_ended b w (inr a) k S m e = absurd (ended_is_not_exhausted k S m b a.1 (sym e ∙ a.2))

  pub agrees_exhausted : (b : ℕ) (w : Walked K) → Agrees b f w → (m : ℕ) (S : Float) → w ≡ exhausted m S → (b < f.nodes) × (m ≡ b)
  agrees_exhausted b w (inl a) m S e = absurd (ended_is_not_exhausted f.kept f.standing f.nodes m S (sym a.1 ∙ e))
  agrees_exhausted b w (inr a) m S e = (a.0, same a.2 e)
    where
      same : w ≡ exhausted b a.1 → w ≡ exhausted m S → m ≡ b
      same p q = cc

  pub agrees_enough : (b : ℕ) (w : Walked K) → Agrees b f w → f.nodes ≤ b → w ≡ ended f.kept f.standing f.nodes
  agrees_enough b w (inl a) h = a.1
  agrees_enough b w (inr a) h = absurd (not-le_of_lt a.0 h)

  pub alike : (b b' : ℕ) (w w' : Walked K) → b ≤ b' → Agrees b f w → Agrees b' f w' → (k : K) (S : Float) (m : ℕ) → w ≡ ended k S m → w' ≡ ended k S m
  alike b b' w w' h a a' k S m e =
      let g = agrees_ended b w a k S m e in
      agrees_enough b' w' a' (le_trans g.0 h) ∙ same g.1 g.2 g.3
    where
      same : f.kept ≡ k → f.standing ≡ S → f.nodes ≡ m → ended f.kept f.standing f.nodes ≡ ended k S m
      same p q r = cc

-- ---- the laws, whatever a leaf keeps and however a centre is computed
module _ {K : Type 0} (leaf : Leaf K) (outcome : Outcome K) (leaf_is : LeafOf leaf outcome) (centers : Centers K) (t : Table) (d : ℕ) (zs : List ℤ) (p : Float) (s : Progress K) where
  pub walk_alike : (b b' : ℕ) → s.nodes ≤ b → b ≤ b' → (k : K) (S : Float) (m : ℕ) → walk leaf centers t b d zs p (ended s.kept s.standing s.nodes) ≡ ended k S m → walk leaf centers t b' d zs p (ended s.kept s.standing s.nodes) ≡ ended k S m
  walk_alike b b' l h k S m e =
      alike (walk_all outcome centers t d zs p s) b b' (walk leaf centers t b d zs p (ended s.kept s.standing s.nodes)) (walk leaf centers t b' d zs p (ended s.kept s.standing s.nodes)) h
      (walk_agrees leaf outcome leaf_is centers t b d zs p s l) (walk_agrees leaf outcome leaf_is centers t b' d zs p s (le_trans l h)) k S m e

  pub walk_exhausted : (b : ℕ) → s.nodes ≤ b → (m : ℕ) (S : Float) → walk leaf centers t b d zs p (ended s.kept s.standing s.nodes) ≡ exhausted m S → m ≡ b
  walk_exhausted b l m S e = (agrees_exhausted (walk_all outcome centers t d zs p s) b (walk leaf centers t b d zs p (ended s.kept s.standing s.nodes)) (walk_agrees leaf outcome leaf_is centers t b d zs p s l) m S e).1

-- ---- `nearest` and `list`
pub consider_leaf : LeafOf consider nearer
consider_leaf zs d k S m = consider_is zs d k S m ∙ go (replaces zs d k S)
  where
    go : (b : Bool) → cond b (ended (best zs) d m) (ended k S m) ≡ ended (cond b (best zs) k) (cond b d S) m
    go true = refl
    go false = refl

pub collect_leaf : LeafOf collect added
collect_leaf zs d k S m = collect_is zs d k S m

module _ (t : Table) (target : List Float) (R : Float) where
  pub nearest_agrees : (b : ℕ) → Agrees b (nearest_all t target R) (nearest_walk t target R b)
  nearest_agrees b = subst (Agrees b (nearest_all t target R)) (sym (nearest_walk_is t target R b)) (walk_agrees consider nearer consider_leaf (still (center t target)) t b (dimension t) [] plus_zero (record { kept = no_best; standing = R; nodes = 0 }) zero-le)

  pub list_agrees : (b : ℕ) → Agrees b (list_all t target R) (list_walk t target R b)
  list_agrees b = subst (Agrees b (list_all t target R)) (sym (list_walk_is t target R b)) (walk_agrees collect added collect_leaf (still (center t target)) t b (dimension t) [] plus_zero (record { kept = []; standing = R; nodes = 0 }) zero-le)

  -- a walk that ends at budget b ends alike at every larger one
  pub nearest_alike : (b b' : ℕ) → b ≤ b' → (k : Best) (S : Float) (m : ℕ) → nearest_walk t target R b ≡ ended k S m → nearest_walk t target R b' ≡ ended k S m
  nearest_alike b b' h = alike (nearest_all t target R) b b' (nearest_walk t target R b) (nearest_walk t target R b') h (nearest_agrees b) (nearest_agrees b')

  pub list_alike : (b b' : ℕ) → b ≤ b' → (k : List ListPoint) (S : Float) (m : ℕ) → list_walk t target R b ≡ ended k S m → list_walk t target R b' ≡ ended k S m
  list_alike b b' h = alike (list_all t target R) b b' (list_walk t target R b) (list_walk t target R b') h (list_agrees b) (list_agrees b')

  -- in 15 the count is the budget
  pub nearest_exhausted : (b m : ℕ) (S : Float) → nearest_walk t target R b ≡ exhausted m S → m ≡ b
  nearest_exhausted b m S e = (agrees_exhausted (nearest_all t target R) b (nearest_walk t target R b) (nearest_agrees b) m S e).1

  pub list_exhausted : (b m : ℕ) (S : Float) → list_walk t target R b ≡ exhausted m S → m ≡ b
  list_exhausted b m S e = (agrees_exhausted (list_all t target R) b (list_walk t target R b) (list_agrees b) m S e).1
