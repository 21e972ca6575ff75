-- Walks whose weights are the same, and whose centres are the same at each prefix that they meet, are the same. Assumes nothing.
use mathlib.Core.Path.{◌≡◌, refl, ap, ◌∙◌}
use mathlib.Core.Bool.{Bool, true, false}
use mathlib.Core.List.{List, ◌∷◌}
use Prim.Native.Nat.{ℕ, zero, suc, ◌+◌, ◌<◌}
use native.Mathlib.Omega.{arith}
use lib.Dec.{leb}
use lib.ListN.{length}
use lib.IntN.{ℤ}
use lib.Ieee.{Float, binary64, add, sub, le}
use Rattle.definitions.specs.Table.{Table, table, weight}
use Rattle.definitions.specs.Distance.{term}
use Rattle.definitions.specs.Zigzag.{Next, child, none, Start, open_level, no_children, start, next}
use Rattle.definitions.specs.Walk.{Walked, ended, exhausted, Leaf, Descent, Centers, descend_if, visit, try_children, try_level, enter, at_leaf, walk}

module _ {K : Type 0} (leaf : Leaf K) (centers centers' : Centers K) (t : Table) (mu' : List Float) (budget : ℕ) where
  abbrev t' : Table
  t' = table t.weights mu'

  -- two descents that are the same from these coordinates on
  abbrev SameFrom : Descent K → Descent K → List ℤ → Type 0
  SameFrom down down' ys = (sum : Float) (w : Walked K) → down ys sum w ≡ down' ys sum w

  module _ (down down' : Descent K) where
    same_descent : (b : Bool) (ys : List ℤ) → SameFrom down down' ys → SameFrom (descend_if leaf centers t budget b down) (descend_if leaf centers' t' budget b down') ys
    unfolding descend_if
    same_descent true ys same sum w = same sum w
    same_descent false ys same sum w = refl

    same_visit : (b : Bool) (ys : List ℤ) → SameFrom down down' ys → (sum : Float) (k : K) (S : Float) (m : ℕ) → visit leaf centers t budget b down ys sum k S m ≡ visit leaf centers' t' budget b down' ys sum k S m
    unfolding visit
    same_visit true ys same sum k S m = refl
    same_visit false ys same sum k S m = same_descent (le sum S) ys same sum (ended k S (suc m))

    module _ (level : ℕ) (zs : List ℤ) (same_moved : (z : ℤ) (k : K) → centers.moved level z k ≡ centers'.moved level z k) (same : (z : ℤ) → SameFrom down down' (z ∷ zs)) (p c : Float) where
      same_children : (fuel : ℕ) (x : Next) (w : Walked K) → try_children leaf centers t budget down level zs p c fuel x w ≡ try_children leaf centers' t' budget down' level zs p c fuel x w
      unfolding try_children
      same_children zero x w = refl
      same_children (suc fuel) x (exhausted m S) = refl
      same_children (suc fuel) (none g) (ended k S m) = refl
      same_children (suc fuel) (child z g) (ended k S m) =
          let sum = add binary64 p (term (weight t level) c z) in
          ap (λ (x : K). try_children leaf centers t budget down level zs p c fuel (next g) (visit leaf centers t budget (leb budget m) down (z ∷ zs) sum x S m)) (same_moved z k)
          ∙ ap (try_children leaf centers t budget down level zs p c fuel (next g)) (same_visit (leb budget m) (z ∷ zs) (same z) sum (centers'.moved level z k) S m)
          ∙ same_children fuel (next g) (visit leaf centers' t' budget (leb budget m) down' (z ∷ zs) sum (centers'.moved level z k) S m)

      same_level : (x : Start) (w : Walked K) → try_level leaf centers t budget down level zs p c x w ≡ try_level leaf centers' t' budget down' level zs p c x w
      unfolding try_level
      same_level no_children w = refl
      same_level (open_level g) w = same_children (suc budget) (next g) w

    same_enter : (level : ℕ) (zs : List ℤ) → ((k : K) → centers.at level zs k ≡ centers'.at level zs k) → ((z : ℤ) (k : K) → centers.moved level z k ≡ centers'.moved level z k) → ((z : ℤ) → SameFrom down down' (z ∷ zs)) → SameFrom (enter leaf centers t budget down level) (enter leaf centers' t' budget down' level) zs
    unfolding enter
    same_enter level zs e moves same p (exhausted m S) = refl
    same_enter level zs e moves same p (ended k S m) =
        ap (λ (c : Float). try_level leaf centers t budget down level zs p c (start c (sub binary64 S p) (weight t level)) (ended k S m)) (e k)
        ∙ same_level level zs moves same p (centers'.at level zs k) (start (centers'.at level zs k) (sub binary64 S p) (weight t level)) (ended k S m)

  same_leaf : (zs : List ℤ) → SameFrom (at_leaf leaf centers t budget) (at_leaf leaf centers' t' budget) zs
  unfolding at_leaf
  same_leaf zs p (exhausted m S) = refl
  same_leaf zs p (ended k S m) = refl

  -- centres that are the same at the prefixes that a walk of n levels meets, which leave a level below them
  pub record SameAt (n : ℕ) : Type 0 where
    pub same_at : (level : ℕ) (zs : List ℤ) → suc level + length zs ≡ n → (k : K) → centers.at level zs k ≡ centers'.at level zs k
    pub same_moved : (level : ℕ) → level < n → (z : ℤ) (k : K) → centers.moved level z k ≡ centers'.moved level z k

  pub same_walk : (n : ℕ) → SameAt n → (depth : ℕ) (zs : List ℤ) → depth + length zs ≡ n → SameFrom (walk leaf centers t budget depth) (walk leaf centers' t' budget depth) zs
  unfolding walk
  same_walk n same zero zs e = same_leaf zs
  same_walk n same (suc level) zs e =
      same_enter (walk leaf centers t budget level) (walk leaf centers' t' budget level) level zs (same.same_at level zs e) (same.same_moved level (omega arith))
      (λ z. same_walk n same level (z ∷ zs) (omega arith))
