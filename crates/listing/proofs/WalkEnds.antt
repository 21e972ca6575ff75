-- How a walk's search, at its end, is the list walk of the definitions. Assumes nothing.
use mathlib.Core.Path.{◌≡◌, ap, sym, ◌∙◌, subst}
use mathlib.Core.List.{List, reverse}
use Prim.Native.Nat.{ℕ, min}
use native.Mathlib.Omega.{arith}
use lib.ListN.{length, take}
use lib.IntN.{ℤ}
use lib.Ieee.{Float}
use Rattle.std.specs.Prelude.{Result, Ok}
use Rattle.definitions.specs.Walk.{Walked, ended, exhausted}
use Rattle.definitions.specs.Listing.{ListPoint}
use Rattle.definitions.specs.Rows.{rows}
use Rattle.search.specs.Call.{State}
use Rattle.search.proofs.Outcomes.{Found}
use Rattle.listing.specs.View.{ending_of}
use Rattle.listing.specs.Ready.{ListWalked}
use Rattle.listing.specs.declared.ListFound.{ListFound}
use Rattle.listing.specs.declared.Exhausted.{Exhausted}

-- a walk by another name
pub walked_as : {n places : ℕ} {v w : Walked (List ListPoint)} {r : Result ListFound Exhausted} {distances : List Float} {points : List ℤ} → v ≡ w → ListWalked n places v r distances points → ListWalked n places w r distances points
walked_as {n} {places} {v} {w} {r} {distances} {points} e = subst (λ (x : Walked (List ListPoint)). ListWalked n places x r distances points) e

-- a walk that was exhausted has no list
pub exhausted_unlisted : (w : Walked (List ListPoint)) (l : ℕ) (S : Float) → w ≡ exhausted l S → (ps : List ListPoint) (R : Float) (m : ℕ) → w ≡ ended ps R m → ⊥
exhausted_unlisted w l S e ps R m q =
    let x : ended ps R m ≡ exhausted l S = sym q ∙ e in
    let z : ◌≡◌ {A = ℕ} 0 1 = cc in
    omega (arith, z)

module _ (n : ℕ) (x : State) (w : Walked (List ListPoint)) (l : Found n x w) where
  pub found_ending : Ok (record { nodes = x.search.nodes; points = x.search.listed }) ≡ ending_of w
  found_ending = ap (λ (k : ℕ). Ok (record { nodes = x.search.nodes; points = k })) (sym l.count) ∙ sym (ap ending_of l.is)

  -- the places hold its points in the order of their finding, as far as there was room
  pub found_stored : (places : ℕ) → length x.distances ≡ places → (ps : List ListPoint) (R : Float) (m : ℕ) → w ≡ ended ps R m → rows n (min (length ps) places) x.distances x.points ≡ take places (reverse ps)
  found_stored places e ps R m q =
      let both : ended l.all x.search.radius x.search.nodes ≡ ended ps R m = sym l.is ∙ q in
      let own : l.all ≡ ps = cc in
      ap (λ (i : ℕ). rows n (min (length ps) i) x.distances x.points) (sym e)
      ∙ ap (λ (xs : List ListPoint). rows n (min (length xs) (length x.distances)) x.distances x.points) (sym own)
      ∙ ap (λ (k : ℕ). rows n (min k (length x.distances)) x.distances x.points) l.count
      ∙ sym l.stored
      ∙ ap (λ (xs : List ListPoint). take (length x.distances) (reverse xs)) own
      ∙ ap (λ (k : ℕ). take k (reverse ps)) e
