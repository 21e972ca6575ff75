-- The walk's fuel does not matter: each child costs a node, so a level tries at most as many children as the budget leaves, and any fuel above that gives the same. Assumes nothing.
use mathlib.Core.Path.{◌≡◌, refl, sym, ap, ◌∙◌, subst}
use Prim.Native.Nat.{ℕ, zero, suc, ◌-◌, ◌≤◌, ◌<◌}
use native.Mathlib.Nat.{le_refl, le_trans, le-suc, not-suc-le-zero}
use native.Mathlib.Omega.{arith}
use mathlib.Core.Bool.{Bool, true, false, not}
use mathlib.Core.List.{List, ◌∷◌}
use lib.Dec.{T, leb, nleb→lt}
use lib.IntN.{ℤ}
use lib.Ieee.{Float, binary64, add, le, sub}
use Rattle.definitions.specs.Table.{Table, weight}
use Rattle.definitions.specs.Distance.{term}
use Rattle.definitions.specs.Zigzag.{Next, child, none, Start, open_level, no_children, start, next}
use Rattle.definitions.specs.Walk.{Walked, ended, exhausted, Leaf, Descent, Centers, descend_if, visit, try_children, try_level, walk}
use Rattle.definitions.proofs.Turns.{visit_exhausted, visit_counted, descends, prunes, children_unfueled, children_exhausted, children_none, children_child, level_closed, level_open, enter_ended, leaf_ended, walk_leaf, walk_level}

-- what a walk has come to counts no fewer nodes than m, or has run out of them
abbrev pub NoFewer : {K : Type 0} → ℕ → Walked K → Type 0
NoFewer m (ended k R n) = m ≤ n
NoFewer m (exhausted n R) = Unit {0}

no_fewer_trans : {K : Type 0} (a b : ℕ) (w : Walked K) → a ≤ b → NoFewer b w → NoFewer a w
no_fewer_trans a b (ended k R n) h l = le_trans h l
no_fewer_trans a b (exhausted n R) h l = tt

-- a walk from a count goes on to no fewer
abbrev pub Counting : {K : Type 0} → Descent K → Type 0
Counting {K} down = (zs : List ℤ) (p : Float) (k : K) (R : Float) (m : ℕ) → NoFewer m (down zs p (ended k R m))

module _ {K : Type 0} (leaf : Leaf K) (centers : Centers K) (t : Table) (budget : ℕ) where
  -- a child that is visited costs a node
  visit_counts : (down : Descent K) → Counting down → (zs : List ℤ) (sum : Float) (k : K) (R : Float) (m : ℕ) → NoFewer (suc m) (visit leaf centers t budget false down zs sum k R m)
  visit_counts down c zs sum k R m = subst (NoFewer (suc m)) (sym (visit_counted leaf centers t budget down zs sum k R m)) (go (le sum R))
    where
      go : (b : Bool) → NoFewer (suc m) (descend_if leaf centers t budget b down zs sum (ended k R (suc m)))
      go true = subst (NoFewer (suc m)) (sym (descends leaf centers t budget down zs sum (ended k R (suc m)))) (c zs sum k R (suc m))
      go false = subst (NoFewer (suc m)) (sym (prunes leaf centers t budget down zs sum (ended k R (suc m)))) (le_refl (suc m))

  module _ (down : Descent K) (counting : Counting down) (level : ℕ) (zs : List ℤ) (p c : Float) where
    abbrev children : ℕ → Next → Walked K → Walked K
    children = try_children leaf centers t budget down level zs p c

    abbrev visited : Bool → ℤ → K → Float → ℕ → Walked K
    visited b z k R m = visit leaf centers t budget b down (z ∷ zs) (add binary64 p (term (weight t level) c z)) (centers.moved level z k) R m

    -- any two fuels above what the budget leaves give the same
    pub fuel_is_enough : (f g : ℕ) (x : Next) (k : K) (R : Float) (m : ℕ) → budget - m < f → budget - m < g → children f x (ended k R m) ≡ children g x (ended k R m)
    fuel_is_enough zero g x k R m h i = absurd (not-suc-le-zero h)
    fuel_is_enough (suc f) zero x k R m h i = absurd (not-suc-le-zero i)
    fuel_is_enough (suc f) (suc g) (none z) k R m h i = children_none leaf centers t budget down level zs p c (suc f) z k R m ∙ sym (children_none leaf centers t budget down level zs p c (suc g) z k R m)
    fuel_is_enough (suc f) (suc g) (child z y) k R m h i =
        children_child leaf centers t budget down level zs p c f z y k R m
        ∙ go (leb budget m) refl (λ x' j S n a b. fuel_is_enough f g x' j S n a b)
        ∙ sym (children_child leaf centers t budget down level zs p c g z y k R m)
      where
        Later : Type 0
        Later = (x : Next) (j : K) (S : Float) (n : ℕ) → budget - n < f → budget - n < g → children f x (ended j S n) ≡ children g x (ended j S n)

        on : (w : Walked K) → NoFewer (suc m) w → m < budget → Later → children f (next y) w ≡ children g (next y) w
        on (exhausted n S) l b r = children_exhausted leaf centers t budget down level zs p c f (next y) n S ∙ sym (children_exhausted leaf centers t budget down level zs p c g (next y) n S)
        on (ended j S n) l b r = r (next y) j S n (omega arith) (omega arith)

        go : (b : Bool) → leb budget m ≡ b → Later → children f (next y) (visited b z k R m) ≡ children g (next y) (visited b z k R m)
        go true e r = ap (children f (next y)) stop ∙ children_exhausted leaf centers t budget down level zs p c f (next y) m R ∙ sym (ap (children g (next y)) stop ∙ children_exhausted leaf centers t budget down level zs p c g (next y) m R)
          where
            stop : visited true z k R m ≡ exhausted m R
            stop = visit_exhausted leaf centers t budget down (z ∷ zs) (add binary64 p (term (weight t level) c z)) (centers.moved level z k) R m
        go false e r = on (visited false z k R m) (visit_counts down counting (z ∷ zs) (add binary64 p (term (weight t level) c z)) (centers.moved level z k) R m) (nleb→lt budget m (subst (λ (b : Bool). T (not b)) (sym e) tt)) r

    children_count : (f : ℕ) (x : Next) (k : K) (R : Float) (m : ℕ) → NoFewer m (children f x (ended k R m))
    children_count zero x k R m = subst (NoFewer m) (sym (children_unfueled leaf centers t budget down level zs p c x (ended k R m))) (le_refl m)
    children_count (suc f) (none g) k R m = subst (NoFewer m) (sym (children_none leaf centers t budget down level zs p c (suc f) g k R m)) (le_refl m)
    children_count (suc f) (child z g) k R m = subst (NoFewer m) (sym (children_child leaf centers t budget down level zs p c f z g k R m)) (go (leb budget m) (λ j S n. children_count f (next g) j S n))
      where
        Later : Type 0
        Later = (j : K) (S : Float) (n : ℕ) → NoFewer n (children f (next g) (ended j S n))

        on : (w : Walked K) → NoFewer (suc m) w → Later → NoFewer m (children f (next g) w)
        on (exhausted n S) l r = subst (NoFewer m) (sym (children_exhausted leaf centers t budget down level zs p c f (next g) n S)) tt
        on (ended j S n) l r = no_fewer_trans m n (children f (next g) (ended j S n)) (le_trans (le-suc m) l) (r j S n)

        go : (b : Bool) → Later → NoFewer m (children f (next g) (visited b z k R m))
        go true r = subst (λ (w : Walked K). NoFewer m (children f (next g) w)) (sym (visit_exhausted leaf centers t budget down (z ∷ zs) (add binary64 p (term (weight t level) c z)) (centers.moved level z k) R m)) (subst (NoFewer m) (sym (children_exhausted leaf centers t budget down level zs p c f (next g) m R)) tt)
        go false r = on (visited false z k R m) (visit_counts down counting (z ∷ zs) (add binary64 p (term (weight t level) c z)) (centers.moved level z k) R m) r

    level_counts_lem : (x : Start) (k : K) (R : Float) (m : ℕ) → NoFewer m (try_level leaf centers t budget down level zs p c x (ended k R m))
    level_counts_lem no_children k R m = subst (NoFewer m) (sym (level_closed leaf centers t budget down level zs p c (ended k R m))) (le_refl m)
    level_counts_lem (open_level g) k R m = subst (NoFewer m) (sym (level_open leaf centers t budget down level zs p c g (ended k R m))) (children_count (suc budget) (next g) k R m)

  -- so does the walk at every depth, if its leaf does
  pub walk_counts : ((zs : List ℤ) (p : Float) (k : K) (R : Float) (m : ℕ) → NoFewer m (leaf zs p k R m)) → (depth : ℕ) → Counting (walk leaf centers t budget depth)
  walk_counts h zero zs p k R m = subst (NoFewer m) (sym (walk_leaf leaf centers t budget zs p (ended k R m) ∙ leaf_ended leaf centers t budget zs p k R m)) (h zs p k R m)
  walk_counts h (suc level) zs p k R m =
      subst (NoFewer m) (sym (walk_level leaf centers t budget level zs p (ended k R m) ∙ enter_ended leaf centers t budget (walk leaf centers t budget level) level zs p k R m))
      (level_counts_lem (walk leaf centers t budget level) (walk_counts h level) level zs p (centers.at level zs k) (start (centers.at level zs k) (sub binary64 R p) (weight t level)) k R m)
