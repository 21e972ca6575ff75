-- A level of the walk is a fold over the list of its children: its fuel cuts none of them off before the budget does. Assumes nothing.
use mathlib.Core.Path.{◌≡◌, refl, sym, ap, ◌∙◌}
use Prim.Native.Nat.{ℕ, zero, suc, ◌+◌, ◌-◌, ◌<◌}
use native.Mathlib.Omega.{arith}
use mathlib.Core.Bool.{Bool, true, false, cond}
use mathlib.Core.List.{List, [], ◌∷◌}
use lib.Dec.{leb}
use lib.IntN.{ℤ}
use lib.Ieee.{Float, binary64, add, sub, le}
use Rattle.rounding.specs.Integers.{round_away}
use Rattle.definitions.specs.Table.{Table, weight}
use Rattle.definitions.specs.Distance.{term}
use Rattle.definitions.specs.Zigzag.{Next, child, none, Start, open_level, no_children, start, new_zigzag, next}
use Rattle.definitions.specs.Walk.{Walked, ended, exhausted, Leaf, Descent, Centers, visit, try_children, try_level, enter}
use Rattle.definitions.proofs.Turns.{children_unfueled, children_exhausted, children_none, children_child, level_closed, level_open, enter_ended}
use Rattle.definitions.proofs.Fuel.{Counting, fuel_is_enough}
use Rattle.theorems.specs.Children.{children_from, children_of, children, step_limit}
use Rattle.theorems.proofs.Generators.{start_is, from_zero, from_none, from_child, of_none, of_open, enough_fuel, children_is}

module _ {K : Type 0} (leaf : Leaf K) (centers : Centers K) (t : Table) (budget : ℕ) (down : Descent K) (level : ℕ) (zs : List ℤ) (p c : Float) where
  -- the children of a list in turn
  unfoldable pub try_each : List ℤ → Walked K → Walked K
  try_each [] w = w
  try_each (z ∷ cs) (exhausted m S) = exhausted m S
  try_each (z ∷ cs) (ended k S m) = try_each cs (visit leaf centers t budget (leb budget m) down (z ∷ zs) (add binary64 p (term (weight t level) c z)) (centers.moved level z k) S m)

  pub each_nil : (w : Walked K) → try_each [] w ≡ w
  unfolding try_each
  each_nil w = refl

  pub each_exhausted : (cs : List ℤ) (m : ℕ) (S : Float) → try_each cs (exhausted m S) ≡ exhausted m S
  unfolding try_each
  each_exhausted [] m S = refl
  each_exhausted (z ∷ cs) m S = refl

  pub each_cons : (z : ℤ) (cs : List ℤ) (k : K) (S : Float) (m : ℕ) → try_each (z ∷ cs) (ended k S m) ≡ try_each cs (visit leaf centers t budget (leb budget m) down (z ∷ zs) (add binary64 p (term (weight t level) c z)) (centers.moved level z k) S m)
  unfolding try_each
  each_cons z cs k S m = refl

  children_each : (fuel : ℕ) (x : Next) (w : Walked K) → try_children leaf centers t budget down level zs p c fuel x w ≡ try_each (children_from fuel x) w
  children_each zero x w = children_unfueled leaf centers t budget down level zs p c x w ∙ sym (ap (λ (cs : List ℤ). try_each cs w) (from_zero x) ∙ each_nil w)
  children_each (suc fuel) x (exhausted m S) = children_exhausted leaf centers t budget down level zs p c (suc fuel) x m S ∙ sym (each_exhausted (children_from (suc fuel) x) m S)
  children_each (suc fuel) (none g) (ended k S m) = children_none leaf centers t budget down level zs p c (suc fuel) g k S m ∙ sym (ap (λ (cs : List ℤ). try_each cs (ended k S m)) (from_none (suc fuel) g) ∙ each_nil (ended k S m))
  children_each (suc fuel) (child z g) (ended k S m) =
      children_child leaf centers t budget down level zs p c fuel z g k S m
      ∙ children_each fuel (next g) (visit leaf centers t budget (leb budget m) down (z ∷ zs) (add binary64 p (term (weight t level) c z)) (centers.moved level z k) S m)
      ∙ sym (ap (λ (cs : List ℤ). try_each cs (ended k S m)) (from_child fuel z g) ∙ each_cons z (children_from fuel (next g)) k S m)

  module _ (counting : Counting down) (r : Float) (k : K) (S : Float) (m : ℕ) where
    open_each : try_children leaf centers t budget down level zs p c (suc budget) (next (new_zigzag c r (weight t level))) (ended k S m) ≡ try_each (children_of (open_level (new_zigzag c r (weight t level)))) (ended k S m)
    open_each =
        fuel_is_enough leaf centers t budget down counting level zs p c (suc budget) (suc (suc step_limit) + suc budget) (next (new_zigzag c r (weight t level))) k S m (low budget m) (high budget m step_limit)
        ∙ children_each (suc (suc step_limit) + suc budget) (next (new_zigzag c r (weight t level))) (ended k S m)
        ∙ ap (λ (cs : List ℤ). try_each cs (ended k S m)) (enough_fuel c r (weight t level) (suc budget) ∙ sym (of_open (new_zigzag c r (weight t level))))
      where
        low : (b m : ℕ) → b - m < suc b
        low b m = omega arith

        high : (b m L : ℕ) → b - m < suc (suc L) + suc b
        high b m L = omega arith

    pub level_each : try_level leaf centers t budget down level zs p c (start c r (weight t level)) (ended k S m) ≡ try_each (children c r (weight t level)) (ended k S m)
    level_each = ap (λ (x : Start). try_level leaf centers t budget down level zs p c x (ended k S m)) (start_is c r (weight t level)) ∙ go (le (term (weight t level) c (round_away c)) r) ∙ ap (λ (cs : List ℤ). try_each cs (ended k S m)) (sym (ap children_of (start_is c r (weight t level))) ∙ sym (children_is c r (weight t level)))
      where
        go : (b : Bool) → try_level leaf centers t budget down level zs p c (cond b (open_level (new_zigzag c r (weight t level))) no_children) (ended k S m) ≡ try_each (children_of (cond b (open_level (new_zigzag c r (weight t level))) no_children)) (ended k S m)
        go true = level_open leaf centers t budget down level zs p c (new_zigzag c r (weight t level)) (ended k S m) ∙ open_each
        go false = level_closed leaf centers t budget down level zs p c (ended k S m) ∙ sym (ap (λ (cs : List ℤ). try_each cs (ended k S m)) of_none ∙ each_nil (ended k S m))

-- a level tries all its children in turn
pub enter_each : {K : Type 0} (leaf : Leaf K) (centers : Centers K) (t : Table) (budget : ℕ) (down : Descent K) → Counting down → (level : ℕ) (zs : List ℤ) (p : Float) (k : K) (S : Float) (m : ℕ) → enter leaf centers t budget down level zs p (ended k S m) ≡ try_each leaf centers t budget down level zs p (centers.at level zs k) (children (centers.at level zs k) (sub binary64 S p) (weight t level)) (ended k S m)
enter_each leaf centers t budget down counting level zs p k S m =
    enter_ended leaf centers t budget down level zs p k S m
    ∙ level_each leaf centers t budget down level zs p (centers.at level zs k) counting (sub binary64 S p) k S m
