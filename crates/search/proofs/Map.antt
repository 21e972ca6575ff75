-- Two walks whose leaves do the same to what they keep are the same walk. Assumes nothing.
use mathlib.Core.Path.{◌≡◌, ap, ◌∙◌}
use mathlib.Core.Bool.{Bool, true, false}
use mathlib.Core.List.{List, ◌∷◌}
use Prim.Native.Nat.{ℕ, zero, suc}
use lib.Dec.{leb}
use lib.IntN.{ℤ}
use lib.Ieee.{Float, binary64, add, sub, le}
use Rattle.definitions.specs.Table.{Table, weight}
use Rattle.definitions.specs.Distance.{term}
use Rattle.definitions.specs.Zigzag.{Next, child, none, Start, open_level, no_children, start, next}
use Rattle.definitions.specs.Walk.{Walked, ended, exhausted, Leaf, Descent, Centers, descend_if, visit, try_children, try_level, enter, walk}
use Rattle.definitions.proofs.Turns.{visit_exhausted, visit_counted, descends, prunes, children_unfueled, children_exhausted, children_none, children_child, level_closed, level_open, enter_exhausted, enter_ended, leaf_exhausted, leaf_ended, walk_leaf, walk_level}
pub use Rattle.search.specs.Kept.{mapped}

-- centres that see what is kept through f, too
pub record SameCenters {K L : Type 0} (f : K → L) (centers_k : Centers K) (centers_l : Centers L) : Type 0 where
  pub same_at : (level : ℕ) (zs : List ℤ) (k : K) → centers_l.at level zs (f k) ≡ centers_k.at level zs k
  pub same_moved : (level : ℕ) (z : ℤ) (k : K) → centers_l.moved level z (f k) ≡ f (centers_k.moved level z k)

module _ {K L : Type 0} (f : K → L) (leaf_k : Leaf K) (leaf_l : Leaf L) (centers_k : Centers K) (centers_l : Centers L) (alike : SameCenters f centers_k centers_l) (t : Table) (b : ℕ) where
  -- two walks below a prefix agree
  abbrev Agree : Descent K → Descent L → Type 0
  Agree down_k down_l = (zs : List ℤ) (p : Float) (w : Walked K) → down_l zs p (mapped f w) ≡ mapped f (down_k zs p w)

  module _ (down_k : Descent K) (down_l : Descent L) (agree : Agree down_k down_l) where
    descend_map : (s : Bool) (zs : List ℤ) (sum : Float) (w : Walked K) → descend_if leaf_l centers_l t b s down_l zs sum (mapped f w) ≡ mapped f (descend_if leaf_k centers_k t b s down_k zs sum w)
    descend_map true zs sum w = simp descends (agree zs sum w)
    descend_map false zs sum w = simp prunes

    visit_map : (s : Bool) (zs : List ℤ) (sum : Float) (k : K) (R : Float) (m : ℕ) → visit leaf_l centers_l t b s down_l zs sum (f k) R m ≡ mapped f (visit leaf_k centers_k t b s down_k zs sum k R m)
    visit_map true zs sum k R m = simp visit_exhausted
    visit_map false zs sum k R m = simp visit_counted (descend_map (le sum R) zs sum (ended k R (suc m)))

    module _ (level : ℕ) (zs : List ℤ) (p c : Float) where
      children_map : (fuel : ℕ) (x : Next) (w : Walked K) → try_children leaf_l centers_l t b down_l level zs p c fuel x (mapped f w) ≡ mapped f (try_children leaf_k centers_k t b down_k level zs p c fuel x w)
      children_map zero x w = simp children_unfueled
      children_map (suc fuel) x (exhausted m R) = simp children_exhausted
      children_map (suc fuel) (none g) (ended k R m) = simp children_none
      children_map (suc fuel) (child z g) (ended k R m) =
          let sum = add binary64 p (term (weight t level) c z) in
          simp children_child (ap (try_children leaf_l centers_l t b down_l level zs p c fuel (next g)) (ap (λ (x : L). visit leaf_l centers_l t b (leb b m) down_l (z ∷ zs) sum x R m) (alike.same_moved level z k) ∙ visit_map (leb b m) (z ∷ zs) sum (centers_k.moved level z k) R m) ∙ children_map fuel (next g) (visit leaf_k centers_k t b (leb b m) down_k (z ∷ zs) sum (centers_k.moved level z k) R m))

      level_map : (x : Start) (w : Walked K) → try_level leaf_l centers_l t b down_l level zs p c x (mapped f w) ≡ mapped f (try_level leaf_k centers_k t b down_k level zs p c x w)
      level_map no_children w = simp level_closed
      level_map (open_level g) w = simp level_open (children_map (suc b) (next g) w)

    enter_map : (level : ℕ) → Agree (enter leaf_k centers_k t b down_k level) (enter leaf_l centers_l t b down_l level)
    enter_map level zs p (exhausted m R) = simp enter_exhausted
    enter_map level zs p (ended k R m) =
        simp enter_ended
        (ap (λ (c : Float). try_level leaf_l centers_l t b down_l level zs p c (start c (sub binary64 R p) (weight t level)) (ended (f k) R m)) (alike.same_at level zs k)
        ∙ level_map level zs p (centers_k.at level zs k) (start (centers_k.at level zs k) (sub binary64 R p) (weight t level)) (ended k R m))

  pub walk_map : ((zs : List ℤ) (d : Float) (k : K) (R : Float) (m : ℕ) → leaf_l zs d (f k) R m ≡ mapped f (leaf_k zs d k R m)) → (depth : ℕ) (zs : List ℤ) (p : Float) (w : Walked K) → walk leaf_l centers_l t b depth zs p (mapped f w) ≡ mapped f (walk leaf_k centers_k t b depth zs p w)
  walk_map same zero zs p (exhausted m R) = simp (walk_leaf, leaf_exhausted)
  walk_map same zero zs p (ended k R m) = simp (walk_leaf, leaf_ended) (same zs p k R m)
  walk_map same (suc level) zs p w = simp walk_level (enter_map (walk leaf_k centers_k t b level) (walk leaf_l centers_l t b level) (walk_map same level) level zs p w)
