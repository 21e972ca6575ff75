-- The one walk is that of `nearest`, with its best, and that of `list`, with the points that had a place. Assumes nothing.
use mathlib.Core.Path.{◌≡◌, refl, ap, sym, ◌∙◌, subst}
use mathlib.Core.Bool.{Bool, true, false, cond}
use mathlib.Core.List.{List, [], ◌∷◌, ◌++◌, reverse, reverse-cons}
use Prim.Native.Nat.{ℕ, suc, ◌*◌, ◌≤◌, min}
use native.Mathlib.Nat.{zero-min}
use native.Mathlib.Omega.{arith}
use borrow.Author.Tests.{ltb-true, ltb-false}
use lib.Dec.{ltb}
use lib.IntN.{ℤ}
use lib.ListN.{length, take, length-append, length-reverse}
use lib.Seq.{take-nil, take_all, take-append-le}
use lib.Ieee.{Float, binary64, of_bits}
use Rattle.rounding.proofs.Interface.{zero_is}
use Rattle.definitions.specs.Table.{Table, dimension, plus_zero, largest_dimension, largest_list, largest_budget}
use Rattle.definitions.specs.Shapes.{Shaped}
use Rattle.definitions.specs.Distance.{center}
use Rattle.definitions.specs.Walk.{Walked, ended, still, walk}
use Rattle.definitions.specs.Nearest.{Best, best, no_best, replaces, consider, nearest_walk}
use Rattle.definitions.specs.Listing.{ListPoint, collect, list_walk}
use Rattle.definitions.proofs.Leaves.{consider_is, nearest_walk_is, collect_is, list_walk_is}
use Rattle.lists.specs.Places.{places}
use Rattle.lists.proofs.Places.{places_none}
use Rattle.distance.proofs.Totals.{residuals_start}
use Rattle.search.specs.Kept.{Kept, leaf, mapped}
use Rattle.definitions.specs.Rows.{rows}
use Rattle.search.specs.declared.RecursiveSearch.{RecursiveSearch}
use Rattle.search.specs.View.{Search, carried, new_search, seen}
use Rattle.search.specs.Call.{state, Call, walk_of, Ready}
use Rattle.search.proofs.NearestLeaf.{considers_is}
use Rattle.search.proofs.ListLeaf.{stores_is, rows_zero}
use Rattle.search.proofs.Map.{SameCenters, walk_map}
pub use Rattle.search.specs.Kept.{best_only, list_only}

-- what is kept before the first leaf
abbrev pub nothing : Kept
nothing = record { best = no_best; count = 0; stored = [] }

alike : {K L : Type 0} (f : K → L) (center_of : ℕ → List ℤ → Float) → SameCenters f (still center_of) (still center_of)
alike f center_of = record { same_at = λ level zs k. refl; same_moved = λ level z k. refl }

-- ---- nearest
pub considers : (room : ℕ) (zs : List ℤ) (d : Float) (k : Best) (R : Float) (m : ℕ) → leaf false room zs d (best_only k) R m ≡ mapped best_only (consider zs d k R m)
considers room zs d k R m = considers_is room zs d (best_only k) R m ∙ by (replaces zs d k R) ∙ ap (mapped best_only) (sym (consider_is zs d k R m))
  where
    by : (b : Bool) → cond b (ended (best_only (best zs)) d m) (ended (best_only k) R m) ≡ mapped best_only (cond b (ended (best zs) d m) (ended k R m))
    by true = refl
    by false = refl

pub nearest_instance : (t : Table) (target : List Float) (R : Float) (b room : ℕ) → walk (leaf false room) (still (center t target)) t b (dimension t) [] plus_zero (ended nothing R 0) ≡ mapped best_only (nearest_walk t target R b)
nearest_instance t target R b room = walk_map best_only consider (leaf false room) (still (center t target)) (still (center t target)) (alike best_only (center t target)) t b (considers room) (dimension t) [] plus_zero (ended no_best R 0) ∙ ap (mapped best_only) (sym (nearest_walk_is t target R b))

-- ---- list
-- one point more among the first so many
taken : (room : ℕ) (r : ListPoint) (xs : List ListPoint) → cond (ltb (length xs) room) (take room xs ++ r ∷ []) (take room xs) ≡ take room (xs ++ r ∷ [])
taken room r xs = by (ltb (length xs) room) refl
  where
    by : (b : Bool) → ltb (length xs) room ≡ b → cond b (take room xs ++ r ∷ []) (take room xs) ≡ take room (xs ++ r ∷ [])
    by true e =
        let h = ltb-true (length xs) room e in
        ap (λ (l : List ListPoint). l ++ r ∷ []) (take_all room xs (omega arith)) ∙ sym (take_all room (xs ++ r ∷ []) (simp length-append (omega arith)))
    by false e = sym (take-append-le room xs (r ∷ []) (ltb-false (length xs) room e))

pub collects : (room : ℕ) (zs : List ℤ) (d : Float) (ps : List ListPoint) (R : Float) (m : ℕ) → leaf true room zs d (list_only room ps) R m ≡ mapped (list_only room) (collect zs d ps R m)
collects room zs d ps R m =
    let r : ListPoint = record { distance = d; point = zs } in
    stores_is room zs d (list_only room ps) R m
    ∙ ap (λ (k : ℕ). storing (cond (ltb k room) (take room (reverse ps) ++ r ∷ []) (take room (reverse ps)))) (sym (length-reverse ps))
    ∙ ap storing (taken room r (reverse ps) ∙ ap (take room) (sym (reverse-cons r ps)))
    ∙ ap (mapped (list_only room)) (sym (collect_is zs d ps R m))
  where
    storing : List ListPoint → Walked Kept
    storing l = ended (record { best = no_best; count = suc (length ps); stored = l }) R m

pub list_instance : (t : Table) (target : List Float) (R : Float) (b room : ℕ) → walk (leaf true room) (still (center t target)) t b (dimension t) [] plus_zero (ended nothing R 0) ≡ mapped (list_only room) (list_walk t target R b)
list_instance t target R b room =
    ap (λ (l : List ListPoint). walk (leaf true room) (still (center t target)) t b (dimension t) [] plus_zero (ended (record { best = no_best; count = 0; stored = l }) R 0)) (sym (take-nil room))
    ∙ walk_map (list_only room) collect (leaf true room) (still (center t target)) (still (center t target)) (alike (list_only room) (center t target)) t b (collects room) (dimension t) [] plus_zero (ended [] R 0)
    ∙ ap (mapped (list_only room)) (sym (list_walk_is t target R b))

-- ---- a call's walk, from a struct that `RecursiveSearch::new` gives; the residuals have no part in what it comes to
abbrev pub start_call : Bool → Table → List Float → ℕ → RecursiveSearch → List Float → List Float → List ℤ → Call
start_call listing t target b s rest distances points = record {
  listing = listing;
  table = t;
  target = target;
  budget = b;
  depth = dimension t;
  partial = of_bits binary64 0;
  from = state (carried listing s 0 false) rest distances points;
}

-- what it carries is the same for both calls
abbrev empty_search : Float → Search
empty_search R = record { point = (new_search R).point; best = (new_search R).best; radius = R; nodes = 0; found = false; exhausted = false; listed = 0 }

carried_is : (listing : Bool) (R : Float) → carried listing (new_search R) 0 false ≡ empty_search R
carried_is true R = refl
carried_is false R = refl

module _ (listing : Bool) (t : Table) (target : List Float) (b : ℕ) (R : Float) (s : RecursiveSearch) (new : s ≡ new_search R) (distances : List Float) (points : List ℤ) (shape : Shaped largest_dimension t.weights t.mu target) where
  search_is : carried listing s 0 false ≡ empty_search R
  search_is = ap (λ (x : RecursiveSearch). carried listing x 0 false) new ∙ carried_is listing R

  pub walk_from_start : walk_of (start_call listing t target b s [] distances points) ≡ walk (leaf listing (length distances)) (still (center t target)) t b (dimension t) [] plus_zero (ended nothing R 0)
  walk_from_start =
      ap (λ (x : Search). begins x (of_bits binary64 0)) search_is
      ∙ ap (begins (empty_search R)) zero_is
      ∙ ap (λ (zs : List ℤ). whole zs (rows (dimension t) (min 0 (length distances)) distances points)) (places_none (dimension t) (new_search R).point (omega (arith, shape.small)) (dimension t) (omega arith))
      ∙ ap (λ (k : ℕ). whole [] (rows (dimension t) k distances points)) (zero-min (length distances))
      ∙ ap (whole []) (rows_zero (dimension t) distances points)
    where
      begins : Search → Float → Walked Kept
      begins x p = walk (leaf listing (length distances)) (still (center t target)) t b (dimension t) (places (dimension t) (dimension t) x.point) p (seen (dimension t) x distances points)

      whole : List ℤ → List ListPoint → Walked Kept
      whole zs l = walk (leaf listing (length distances)) (still (center t target)) t b (dimension t) zs plus_zero (ended (record { best = no_best; count = 0; stored = l }) R 0)

  -- what a call has to show for it
  pub ready_at_start : (rest : List Float) → b ≤ largest_budget → length rest ≡ largest_dimension → length distances ≤ largest_list → length points ≡ length distances * dimension t → Ready (start_call listing t target b s rest distances points)
  ready_at_start rest bounded rest_length few points_length = subst (λ (x : Search). Ready (begins x)) (sym search_is) (record {
    shape = shape;
    within = omega arith;
    bounded = bounded;
    counted = omega arith;
    not_exhausted = refl;
    listed = omega arith;
    rest_length = rest_length;
    rest_above = residuals_start t target (new_search R).point (omega (arith, shape.small)) rest (omega (arith, shape.small));
    few = few;
    points_length = points_length;
  })
    where
      begins : Search → Call
      begins x = record { listing = listing; table = t; target = target; budget = b; depth = dimension t; partial = of_bits binary64 0; from = state x rest distances points }
