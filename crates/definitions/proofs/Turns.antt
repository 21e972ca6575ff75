-- The walk's definitions, a clause each, as equations: proofs about the walk rewrite with these and open no definition. Assumes nothing.
use mathlib.Core.Path.{◌≡◌, refl}
use Prim.Native.Nat.{ℕ, zero, suc}
use mathlib.Core.Bool.{true, false}
use mathlib.Core.List.{List, ◌∷◌}
use lib.Dec.{leb}
use lib.IntN.{ℤ}
use lib.Ieee.{Float, binary64, add, sub, le}
use Rattle.definitions.specs.Table.{Table, weight}
use Rattle.definitions.specs.Distance.{term}
use Rattle.definitions.specs.Zigzag.{Zigzag, Next, child, none, open_level, no_children, start, next}
use Rattle.definitions.specs.Walk.{Walked, ended, exhausted, Leaf, Descent, Centers, descend_if, visit, try_children, try_level, enter, at_leaf, walk}

module _ {K : Type 0} (leaf : Leaf K) (centers : Centers K) (t : Table) (budget : ℕ) where
  pub visit_exhausted : (down : Descent K) (zs : List ℤ) (sum : Float) (k : K) (R : Float) (m : ℕ) → visit leaf centers t budget true down zs sum k R m ≡ exhausted m R
  unfolding visit
  visit_exhausted down zs sum k R m = refl

  pub visit_counted : (down : Descent K) (zs : List ℤ) (sum : Float) (k : K) (R : Float) (m : ℕ) → visit leaf centers t budget false down zs sum k R m ≡ descend_if leaf centers t budget (le sum R) down zs sum (ended k R (suc m))
  unfolding visit
  visit_counted down zs sum k R m = refl

  pub descends : (down : Descent K) (zs : List ℤ) (sum : Float) (w : Walked K) → descend_if leaf centers t budget true down zs sum w ≡ down zs sum w
  unfolding descend_if
  descends down zs sum w = refl

  pub prunes : (down : Descent K) (zs : List ℤ) (sum : Float) (w : Walked K) → descend_if leaf centers t budget false down zs sum w ≡ w
  unfolding descend_if
  prunes down zs sum w = refl

  module _ (down : Descent K) (level : ℕ) (zs : List ℤ) (p c : Float) where
    pub children_unfueled : (x : Next) (w : Walked K) → try_children leaf centers t budget down level zs p c zero x w ≡ w
    unfolding try_children
    children_unfueled x w = refl

    pub children_exhausted : (fuel : ℕ) (x : Next) (m : ℕ) (R : Float) → try_children leaf centers t budget down level zs p c fuel x (exhausted m R) ≡ exhausted m R
    unfolding try_children
    children_exhausted zero x m R = refl
    children_exhausted (suc fuel) x m R = refl

    pub children_none : (fuel : ℕ) (g : Zigzag) (k : K) (R : Float) (m : ℕ) → try_children leaf centers t budget down level zs p c fuel (none g) (ended k R m) ≡ ended k R m
    unfolding try_children
    children_none zero g k R m = refl
    children_none (suc fuel) g k R m = refl

    pub children_child : (fuel : ℕ) (z : ℤ) (g : Zigzag) (k : K) (R : Float) (m : ℕ) → try_children leaf centers t budget down level zs p c (suc fuel) (child z g) (ended k R m) ≡ try_children leaf centers t budget down level zs p c fuel (next g) (visit leaf centers t budget (leb budget m) down (z ∷ zs) (add binary64 p (term (weight t level) c z)) (centers.moved level z k) R m)
    unfolding try_children
    children_child fuel z g k R m = refl

    pub level_closed : (w : Walked K) → try_level leaf centers t budget down level zs p c no_children w ≡ w
    unfolding try_level
    level_closed w = refl

    pub level_open : (g : Zigzag) (w : Walked K) → try_level leaf centers t budget down level zs p c (open_level g) w ≡ try_children leaf centers t budget down level zs p c (suc budget) (next g) w
    unfolding try_level
    level_open g w = refl

  pub enter_exhausted : (down : Descent K) (level : ℕ) (zs : List ℤ) (p : Float) (m : ℕ) (R : Float) → enter leaf centers t budget down level zs p (exhausted m R) ≡ exhausted m R
  unfolding enter
  enter_exhausted down level zs p m R = refl

  pub enter_ended : (down : Descent K) (level : ℕ) (zs : List ℤ) (p : Float) (k : K) (R : Float) (m : ℕ) → enter leaf centers t budget down level zs p (ended k R m) ≡ try_level leaf centers t budget down level zs p (centers.at level zs k) (start (centers.at level zs k) (sub binary64 R p) (weight t level)) (ended k R m)
  unfolding enter
  enter_ended down level zs p k R m = refl

  pub leaf_exhausted : (zs : List ℤ) (p : Float) (m : ℕ) (R : Float) → at_leaf leaf centers t budget zs p (exhausted m R) ≡ exhausted m R
  unfolding at_leaf
  leaf_exhausted zs p m R = refl

  pub leaf_ended : (zs : List ℤ) (p : Float) (k : K) (R : Float) (m : ℕ) → at_leaf leaf centers t budget zs p (ended k R m) ≡ leaf zs p k R m
  unfolding at_leaf
  leaf_ended zs p k R m = refl

  pub walk_leaf : (zs : List ℤ) (p : Float) (w : Walked K) → walk leaf centers t budget zero zs p w ≡ at_leaf leaf centers t budget zs p w
  unfolding walk
  walk_leaf zs p w = refl

  pub walk_level : (level : ℕ) (zs : List ℤ) (p : Float) (w : Walked K) → walk leaf centers t budget (suc level) zs p w ≡ enter leaf centers t budget (walk leaf centers t budget level) level zs p w
  unfolding walk
  walk_level level zs p w = refl
