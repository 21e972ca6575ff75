-- Every leaf of a walk has n coordinates and a distance that is no NaN and not negative, whatever the centres: a child passed the test term ≤ remaining, which no NaN passes.
-- So what a walk keeps has each property that its leaf keeps at such points. Assumes nothing.
use mathlib.Core.Path.{◌≡◌, refl, sym, ◌∙◌, subst}
use Prim.Native.Nat.{ℕ, zero, suc, ◌+◌, ◌<◌}
use native.Mathlib.Nat.{add-zero}
use native.Mathlib.Omega.{arith}
use mathlib.Core.Bool.{Bool, true, false, not, ◌&&◌, cond}
use mathlib.Core.List.{List, [], ◌∷◌}
use lib.Dec.{T, leb}
use lib.ListN.{length}
use lib.IntN.{ℤ}
use lib.Ieee.{Float, binary64, add, sub, le}
use lib.Ieee.Fits.{and_r}
use Rattle.rounding.specs.Integers.{is_i64, round_away}
use Rattle.rounding.specs.Kinds.{NonNegative}
use Rattle.rounding.proofs.Interface.{Weight, zero_nonneg, held, passed_term_nonneg, add_nonneg}
use Rattle.definitions.specs.Table.{Table, dimension, weight, plus_zero}
use Rattle.definitions.specs.Distance.{center, term}
use Rattle.definitions.specs.Zigzag.{Zigzag, Next, child, none, open_level, no_children, start, passes_test, upward, candidate, after_step, one_step, both_done, second_step, next}
use Rattle.definitions.specs.Walk.{Walked, ended, exhausted, Leaf, Descent, Centers, still, descend_if, visit, try_children, try_level, walk}
use Rattle.definitions.specs.Listing.{ListPoint, collect, list_walk}
use Rattle.definitions.specs.Running.{initialize_centers, Beside, beside, only_kept, leaf_beside, running_centers, running_list}
use Rattle.definitions.proofs.Distances.{term_is}
use Rattle.definitions.proofs.Steps.{second_step_child, second_step_none, next_is}
use Rattle.definitions.proofs.Zigzags.{passes_is, start_at, start_is, direction_done, step_is}
use Rattle.definitions.proofs.Turns.{visit_exhausted, visit_counted, descends, prunes, children_unfueled, children_exhausted, children_none, children_child, level_closed, level_open, enter_exhausted, enter_ended, leaf_exhausted, leaf_ended, walk_leaf, walk_level}
use Rattle.definitions.proofs.Leaves.{collect_is, list_walk_is}
use Rattle.definitions.proofs.Running.{running_walk_is, running_list_is}
use Rattle.definitions.proofs.ListedOrder.{Listed}

-- ---- the children of a level, of centre c and weight w

module _ (c w : Float) (weighted : Weight binary64 w) where
  passed_nonneg : (z : ℤ) (r : Float) → T (le (term w c z) r) → NonNegative binary64 (term w c z)
  passed_nonneg z r h = rw (term_is w c z) (passed_term_nonneg binary64 w c weighted z r (rw (term_is w c z) at h))

  -- a generator of this centre and weight, whose nearest integer passed
  record Generates (g : Zigzag) : Type 0 where
    center : g.center ≡ c
    weight : g.weight ≡ w
    nearest : NonNegative binary64 (term w c g.nearest)

  -- a child has a term that is not negative, and such a generator comes after it
  abbrev Offers : Next → Type 0
  Offers (child z g) = NonNegative binary64 (term w c z) × Generates g
  Offers (none g) = Generates g

  offers_either : (b : Bool) (x y : Next) → Offers x → Offers y → Offers (cond b x y)
  offers_either true x y p q = p
  offers_either false x y p q = q

  step_offers : (g : Zigzag) → Generates g → Offers (one_step g)
  step_offers g p = rw (step_is g) (offers_either (direction_done g (upward g)) _ _ (stepped false false) (go (is_i64 (candidate g) && passes_test g (candidate g)) refl))
    where
      stepped : (up down : Bool) → Generates (after_step up down g)
      stepped up down = record { center = p.center; weight = p.weight; nearest = p.nearest }

      test : (z : ℤ) → is_i64 z && passes_test g z ≡ true → T (le (term w c z) g.remaining)
      test z e = rw (passes_is g z, p.center, p.weight) at (and_r (is_i64 z) (passes_test g z) (held e))

      go : (b : Bool) → is_i64 (candidate g) && passes_test g (candidate g) ≡ b → Offers (cond b (child (candidate g) (after_step false false g)) (none (after_step (upward g) (not (upward g)) g)))
      go true e = (passed_nonneg (candidate g) g.remaining (test (candidate g) e), stepped false false)
      go false e = stepped (upward g) (not (upward g))

  next_offers : (g : Zigzag) → Generates g → Offers (next g)
  next_offers g p = rw (next_is g) (offers_either g.emitted_nearest _ _ (offers_either (both_done g) _ _ p (second (one_step g) (step_offers g p))) (p.nearest, record { center = p.center; weight = p.weight; nearest = p.nearest }))
    where
      second : (x : Next) → Offers x → Offers (second_step x)
      second (child z h) q = rw (second_step_child z h) q
      second (none h) q = rw (second_step_none h) (offers_either (both_done h) _ _ q (step_offers h q))

-- ---- the walk

-- if a walk ended, what it keeps has Q
abbrev pub EndsWith : {K : Type 0} → (K → Type 0) → Walked K → Type 0
EndsWith Q (ended k R m) = Q k
EndsWith Q (exhausted m R) = Unit {0}

module _ {K : Type 0} (Q : K → Type 0) (leaf : Leaf K) (centers : Centers K) (t : Table) (budget : ℕ) (moves : (level : ℕ) (z : ℤ) (k : K) → Q k → Q (centers.moved level z k)) where
  -- a walk keeps Q below a prefix with so many levels left
  abbrev Keeps : ℕ → Descent K → Type 0
  Keeps depth down = (zs : List ℤ) (p : Float) → length zs + depth ≡ dimension t → NonNegative binary64 p → (w : Walked K) → EndsWith Q w → EndsWith Q (down zs p w)

  module _ (level : ℕ) (down : Descent K) (keeps : Keeps level down) where
    visit_keeps : (b : Bool) (zs : List ℤ) (sum : Float) → length zs + level ≡ dimension t → NonNegative binary64 sum → (k : K) (R : Float) (m : ℕ) → Q k → EndsWith Q (visit leaf centers t budget b down zs sum k R m)
    visit_keeps true zs sum l n k R m q = rw (visit_exhausted leaf centers t budget down zs sum k R m) tt
    visit_keeps false zs sum l n k R m q = rw (visit_counted leaf centers t budget down zs sum k R m) (go (le sum R))
      where
        go : (b : Bool) → EndsWith Q (descend_if leaf centers t budget b down zs sum (ended k R (suc m)))
        go true = rw (descends leaf centers t budget down zs sum (ended k R (suc m))) (keeps zs sum l n (ended k R (suc m)) q)
        go false = rw (prunes leaf centers t budget down zs sum (ended k R (suc m))) q

    module _ (weighted : Weight binary64 (weight t level)) (zs : List ℤ) (p c : Float) (l : length zs + suc level ≡ dimension t) (n : NonNegative binary64 p) where
      children_keep : (fuel : ℕ) (x : Next) → Offers c (weight t level) weighted x → (w : Walked K) → EndsWith Q w → EndsWith Q (try_children leaf centers t budget down level zs p c fuel x w)
      children_keep zero x o w q = rw (children_unfueled leaf centers t budget down level zs p c x w) q
      children_keep (suc fuel) x o (exhausted m R) q = rw (children_exhausted leaf centers t budget down level zs p c (suc fuel) x m R) tt
      children_keep (suc fuel) (none g) o (ended k R m) q = rw (children_none leaf centers t budget down level zs p c (suc fuel) g k R m) q
      children_keep (suc fuel) (child z g) o (ended k R m) q =
          rw (children_child leaf centers t budget down level zs p c fuel z g k R m)
          (children_keep fuel (next g) (next_offers c (weight t level) weighted g o.1) _
          (visit_keeps (leb budget m) (z ∷ zs) (add binary64 p (term (weight t level) c z)) (omega arith) (add_nonneg binary64 p (term (weight t level) c z) n o.0).sum (centers.moved level z k) R m (moves level z k q)))

      level_keeps : (r : Float) (w : Walked K) → EndsWith Q w → EndsWith Q (try_level leaf centers t budget down level zs p c (start c r (weight t level)) w)
      level_keeps r w q = rw (start_is c r (weight t level)) (go (le (term (weight t level) c (round_away c)) r) refl)
        where
          go : (b : Bool) → le (term (weight t level) c (round_away c)) r ≡ b → EndsWith Q (try_level leaf centers t budget down level zs p c (cond b (open_level (start_at c r (weight t level) (round_away c))) no_children) w)
          go true e =
              rw (level_open leaf centers t budget down level zs p c (start_at c r (weight t level) (round_away c)) w)
              (children_keep (suc budget) (next (start_at c r (weight t level) (round_away c)))
              (next_offers c (weight t level) weighted _ (record { center = refl; weight = refl; nearest = passed_nonneg c (weight t level) weighted (round_away c) r (held e) })) w q)
          go false e = rw (level_closed leaf centers t budget down level zs p c w) q

  module _ (weights : (level : ℕ) → level < dimension t → Weight binary64 (weight t level)) (keeps : (zs : List ℤ) (d : Float) → length zs ≡ dimension t → NonNegative binary64 d → (k : K) (R : Float) (m : ℕ) → Q k → EndsWith Q (leaf zs d k R m)) where
    levels_keep : (depth : ℕ) → Keeps depth (walk leaf centers t budget depth)
    levels_keep zero zs p l n (exhausted m R) q = rw (walk_leaf leaf centers t budget zs p (exhausted m R), leaf_exhausted leaf centers t budget zs p m R) tt
    levels_keep zero zs p l n (ended k R m) q = rw (walk_leaf leaf centers t budget zs p (ended k R m), leaf_ended leaf centers t budget zs p k R m) (keeps zs p (sym (add-zero (length zs)) ∙ l) n k R m q)
    levels_keep (suc level) zs p l n (exhausted m R) q = rw (walk_level leaf centers t budget level zs p (exhausted m R), enter_exhausted leaf centers t budget (walk leaf centers t budget level) level zs p m R) tt
    levels_keep (suc level) zs p l n (ended k R m) q =
        rw (walk_level leaf centers t budget level zs p (ended k R m), enter_ended leaf centers t budget (walk leaf centers t budget level) level zs p k R m)
        (level_keeps level (walk leaf centers t budget level) (levels_keep level) (weights level (omega arith)) zs p (centers.at level zs k) l n (sub binary64 R p) (ended k R m) q)

    -- what a walk keeps has Q if it began with Q
    pub walk_keeps : (k₀ : K) (R : Float) → Q k₀ → EndsWith Q (walk leaf centers t budget (dimension t) [] plus_zero (ended k₀ R 0))
    walk_keeps k₀ R q = levels_keep (dimension t) [] plus_zero (omega arith) (zero_nonneg binary64) (ended k₀ R 0) q

-- ---- the list walk

-- what holds of no points, and of one point more with n coordinates and such a distance, holds of those found
pub list_walk_keeps : (Q : List ListPoint → Type 0) (t : Table) (target : List Float) (R : Float) (budget : ℕ) → ((level : ℕ) → level < dimension t → Weight binary64 (weight t level)) →
    Q [] → ((p : ListPoint) (ps : List ListPoint) → Listed (dimension t) p → Q ps → Q (p ∷ ps)) → (ps : List ListPoint) (S : Float) (m : ℕ) → list_walk t target R budget ≡ ended ps S m → Q ps
list_walk_keeps Q t target R budget weights nothing more ps S m e =
    subst (EndsWith Q) (sym (list_walk_is t target R budget) ∙ e)
    (walk_keeps Q collect (still (center t target)) t budget (λ level z k q. q) weights (λ zs d l n k S m q. rw (collect_is zs d k S m) (more (record { distance = d; point = zs }) k (record { distance = n; coordinates = l }) q)) [] R nothing)

-- the same with running centres
pub running_list_keeps : (Q : List ListPoint → Type 0) (t : Table) (target : List Float) (R : Float) (budget : ℕ) → ((level : ℕ) → level < dimension t → Weight binary64 (weight t level)) →
    Q [] → ((p : ListPoint) (ps : List ListPoint) → Listed (dimension t) p → Q ps → Q (p ∷ ps)) → (ps : List ListPoint) (S : Float) (m : ℕ) → running_list t target R budget ≡ ended ps S m → Q ps
running_list_keeps Q t target R budget weights nothing more ps S m e =
    subst (EndsWith Q) (sym (running_list_is t target R budget ∙ running_walk_is t target collect [] R budget) ∙ e)
    (only (walk (leaf_beside collect) (running_centers t) t budget (dimension t) [] plus_zero (ended (beside [] (initialize_centers t target)) R 0)) (walk_keeps (λ b. Q b.kept) (leaf_beside collect) (running_centers t) t budget (λ level z k q. q) weights
    (λ zs d l n b S m q. rw (collect_is zs d b.kept S m) (more (record { distance = d; point = zs }) b.kept (record { distance = n; coordinates = l }) q)) (beside [] (initialize_centers t target)) R nothing))
  where
    only : (w : Walked (Beside (List ListPoint))) → EndsWith (λ b. Q b.kept) w → EndsWith Q (only_kept w)
    only (ended b S m) q = q
    only (exhausted m S) q = tt
