-- From what a search has come to back to the walk of `nearest` and of `list`. Assumes nothing.
use mathlib.Core.Path.{◌≡◌, ap, sym, ◌∙◌}
use mathlib.Core.Bool.{Bool, true, false, cond}
use mathlib.Core.List.{List, reverse}
use Prim.Native.Nat.{ℕ, min}
use native.Mathlib.Omega.{arith}
use lib.ListN.{length, take}
use lib.Ieee.{Float}
use Rattle.definitions.specs.Walk.{Walked, ended, exhausted}
use Rattle.definitions.specs.Nearest.{Best, best, no_best}
use Rattle.definitions.specs.Listing.{ListPoint}
use Rattle.search.specs.Kept.{Kept}
use Rattle.definitions.specs.Rows.{rows}
use Rattle.search.specs.Call.{State}
use Rattle.search.proofs.States.{view, keeps, view_ended, view_exhausted}
use Rattle.search.proofs.Map.{mapped}
use Rattle.search.proofs.Instances.{best_only, list_only}

-- a walk that ended, and one that was exhausted
module _ {K : Type 0} (f : K → Kept) where
  ended_of : (w : Walked K) (k : Kept) (R : Float) (m : ℕ) → ended k R m ≡ mapped f w → (j : K) × (w ≡ ended j R m) × (k ≡ f j)
  ended_of (ended j S l) k R m e =
      let a : R ≡ S = cc in
      let b : m ≡ l = cc in
      (j, ap (λ (x : Float). ended j x l) (sym a) ∙ ap (λ (x : ℕ). ended j R x) (sym b), cc)
  ended_of (exhausted l S) k R m e = let z : ◌≡◌ {A = ℕ} 0 1 = cc in absurd (omega (arith, z))

  exhausted_of : (w : Walked K) (m : ℕ) (R : Float) → exhausted m R ≡ mapped f w → w ≡ exhausted m R
  exhausted_of (exhausted l S) m R e =
      let a : R ≡ S = cc in
      let b : m ≡ l = cc in
      ap (λ (x : ℕ). exhausted x S) (sym b) ∙ ap (λ (x : Float). exhausted m x) (sym a)
  exhausted_of (ended j S l) m R e = let z : ◌≡◌ {A = ℕ} 0 1 = cc in absurd (omega (arith, z))

  module _ (n : ℕ) (x : State) (w : Walked K) (e : view n x ≡ mapped f w) where
    -- refusal 15
    pub is_exhausted : x.search.exhausted ≡ true → w ≡ exhausted x.search.nodes x.search.radius
    is_exhausted b = exhausted_of w x.search.nodes x.search.radius (sym (view_exhausted n x b) ∙ e)

    is_ended : x.search.exhausted ≡ false → (j : K) × (w ≡ ended j x.search.radius x.search.nodes) × (keeps n x ≡ f j)
    is_ended b = ended_of w (keeps n x) x.search.radius x.search.nodes (sym (view_ended n x b) ∙ e)

-- ---- nearest
module _ (n : ℕ) (x : State) (w : Walked Best) (e : view n x ≡ mapped best_only w) (not_exhausted : x.search.exhausted ≡ false) where
  best_is : (b : Bool) → x.search.found ≡ b → w ≡ ended (cond b (best (take n x.search.best)) no_best) x.search.radius x.search.nodes
  best_is b h =
      let r = is_ended best_only n x w e not_exhausted in
      r.1 ∙ ap (λ (k : Best). ended k x.search.radius x.search.nodes) (sym (ap (λ (k : Kept). k.best) r.2) ∙ ap (λ (b : Bool). cond b (best (take n x.search.best)) no_best) h)

  pub is_found : x.search.found ≡ true → w ≡ ended (best (take n x.search.best)) x.search.radius x.search.nodes
  is_found h = best_is true h

  pub is_outside : x.search.found ≡ false → w ≡ ended no_best x.search.radius x.search.nodes
  is_outside h = best_is false h

-- ---- list
-- the points found, the last first, and where they are stored
pub record Found (n : ℕ) (x : State) (w : Walked (List ListPoint)) : Type 0 where
  pub all : List ListPoint
  pub is : w ≡ ended all x.search.radius x.search.nodes
  pub count : length all ≡ x.search.listed
  pub stored : take (length x.distances) (reverse all) ≡ rows n (min x.search.listed (length x.distances)) x.distances x.points

pub is_listed : (n : ℕ) (x : State) (w : Walked (List ListPoint)) → view n x ≡ mapped (list_only (length x.distances)) w → x.search.exhausted ≡ false → Found n x w
is_listed n x w e not_exhausted =
    let r = is_ended (list_only (length x.distances)) n x w e not_exhausted in
    record {
      all = r.0;
      is = r.1;
      count = sym (ap (λ (k : Kept). k.count) r.2);
      stored = sym (ap (λ (k : Kept). k.stored) r.2);
    }
