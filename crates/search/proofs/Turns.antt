-- One turn of a level in the walk's definition, by what becomes of the child. Assumes nothing.
use mathlib.Core.Path.{◌≡◌, ap, ◌∙◌}
use mathlib.Core.Bool.{Bool, true, false}
use mathlib.Core.List.{List, ◌∷◌}
use Prim.Native.Nat.{ℕ, zero, suc, ◌+◌, ◌-◌, ◌<◌, ◌≤◌}
use native.Mathlib.Omega.{arith}
use native.Mathlib.Nat.{lt_irrefl}
use lib.Dec.{leb}
use lib.IntN.{ℤ}
use lib.Ieee.{Float, binary64, add, sub, le}
use borrow.Author.Tests.{le-leb, lt-leb}
use Rattle.definitions.specs.Table.{Table, weight}
use Rattle.definitions.specs.Distance.{term}
use Rattle.definitions.specs.Zigzag.{Zigzag, child, Start, open_level, no_children, start, next}
use Rattle.definitions.specs.Walk.{Walked, ended, exhausted, Leaf, Descent, Centers, descend_if, visit, try_children, try_level, walk}
use Rattle.definitions.proofs.Turns.{visit_exhausted, visit_counted, descends, prunes, children_exhausted, children_child, level_closed, level_open, enter_ended, walk_level}

module _ {K : Type 0} (leaf : Leaf K) (centers : Centers K) (t : Table) (b : ℕ) where
  module _ (down : Descent K) (l : ℕ) (zs : List ℤ) (p c : Float) (z : ℤ) (g : Zigzag) (k : K) (R : Float) (m : ℕ) where
    abbrev rest : ℕ → Walked K → Walked K
    rest f w = try_children leaf centers t b down l zs p c f (next g) w

    abbrev sum : Float
    sum = add binary64 p (term (weight t l) c z)

    visited : (f : ℕ) (s : Bool) → leb b m ≡ s → try_children leaf centers t b down l zs p c (suc f) (child z g) (ended k R m) ≡ rest f (visit leaf centers t b s down (z ∷ zs) sum (centers.moved l z k) R m)
    visited f s e = children_child leaf centers t b down l zs p c f z g k R m ∙ ap (λ (s : Bool). rest f (visit leaf centers t b s down (z ∷ zs) sum (centers.moved l z k) R m)) e

    -- the budget is used up
    pub turn_exhausted : (f : ℕ) → 0 < f → b ≤ m → try_children leaf centers t b down l zs p c f (child z g) (ended k R m) ≡ exhausted m R
    turn_exhausted zero h e = absurd (lt_irrefl 0 h)
    turn_exhausted (suc f) h e =
        visited f true (le-leb b m e)
        ∙ ap (rest f) (visit_exhausted leaf centers t b down (z ∷ zs) sum (centers.moved l z k) R m)
        ∙ children_exhausted leaf centers t b down l zs p c f (next g) m R

    module _ (e : m < b) where
      descended : (f : ℕ) (s : Bool) → le sum R ≡ s → try_children leaf centers t b down l zs p c (suc f) (child z g) (ended k R m) ≡ rest f (descend_if leaf centers t b s down (z ∷ zs) sum (ended (centers.moved l z k) R (suc m)))
      descended f s q =
          visited f false (lt-leb b m e)
          ∙ ap (rest f) (visit_counted leaf centers t b down (z ∷ zs) sum (centers.moved l z k) R m)
          ∙ ap (λ (s : Bool). rest f (descend_if leaf centers t b s down (z ∷ zs) sum (ended (centers.moved l z k) R (suc m)))) q

      -- with f - 1 and m + 1 as the code has them
      numbered : (f : ℕ) (w : ℕ → Walked K) → rest f (w (suc m)) ≡ rest (suc f - 1) (w (m + 1))
      numbered f w =
          let i : f ≡ suc f - 1 = omega arith in
          let j : suc m ≡ m + 1 = omega arith in
          ap (λ (a : ℕ). rest a (w (suc m))) i ∙ ap (λ (a : ℕ). rest (suc f - 1) (w a)) j

      -- the sum is above the standing radius
      pub turn_pruned : (f : ℕ) → 0 < f → le sum R ≡ false → try_children leaf centers t b down l zs p c f (child z g) (ended k R m) ≡ rest (f - 1) (ended (centers.moved l z k) R (m + 1))
      turn_pruned zero h q = absurd (lt_irrefl 0 h)
      turn_pruned (suc f) h q =
          descended f false q
          ∙ ap (rest f) (prunes leaf centers t b down (z ∷ zs) sum (ended (centers.moved l z k) R (suc m)))
          ∙ numbered f (λ a. ended (centers.moved l z k) R a)

      -- the walk goes down
      pub turn_descends : (f : ℕ) → 0 < f → le sum R ≡ true → try_children leaf centers t b down l zs p c f (child z g) (ended k R m) ≡ rest (f - 1) (down (z ∷ zs) sum (ended (centers.moved l z k) R (m + 1)))
      turn_descends zero h q = absurd (lt_irrefl 0 h)
      turn_descends (suc f) h q =
          descended f true q
          ∙ ap (rest f) (descends leaf centers t b down (z ∷ zs) sum (ended (centers.moved l z k) R (suc m)))
          ∙ numbered f (λ a. down (z ∷ zs) sum (ended (centers.moved l z k) R a))

  -- the walk at a depth above 0, by how its level starts
  module _ (l : ℕ) (zs : List ℤ) (p : Float) (k : K) (R : Float) (m : ℕ) where
    abbrev level : Start → Walked K
    level x = try_level leaf centers t b (walk leaf centers t b l) l zs p (centers.at l zs k) x (ended k R m)

    walk_by : (x : Start) → start (centers.at l zs k) (sub binary64 R p) (weight t l) ≡ x → walk leaf centers t b (suc l) zs p (ended k R m) ≡ level x
    walk_by x e = walk_level leaf centers t b l zs p (ended k R m) ∙ enter_ended leaf centers t b (walk leaf centers t b l) l zs p k R m ∙ ap level e

    pub walk_closed : start (centers.at l zs k) (sub binary64 R p) (weight t l) ≡ no_children → walk leaf centers t b (suc l) zs p (ended k R m) ≡ ended k R m
    walk_closed e = walk_by no_children e ∙ level_closed leaf centers t b (walk leaf centers t b l) l zs p (centers.at l zs k) (ended k R m)

    pub walk_open : (g : Zigzag) → start (centers.at l zs k) (sub binary64 R p) (weight t l) ≡ open_level g → walk leaf centers t b (suc l) zs p (ended k R m) ≡ try_children leaf centers t b (walk leaf centers t b l) l zs p (centers.at l zs k) (suc b) (next g) (ended k R m)
    walk_open g e = walk_by (open_level g) e ∙ level_open leaf centers t b (walk leaf centers t b l) l zs p (centers.at l zs k) g (ended k R m)
