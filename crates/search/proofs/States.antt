-- What a call of `run` starts from and what it changes, as the definitions see it; and the call at the walk's foot. Assumes nothing.
use mathlib.Core.Path.{◌≡◌, refl, ap, sym, ◌∙◌}
use mathlib.Core.Bool.{Bool, true, false, true≢false}
use mathlib.Core.List.{List}
use Prim.Native.Nat.{ℕ, ◌+◌, ◌≤◌}
use native.Mathlib.Omega.{arith}
use lib.IntN.{ℤ}
use lib.ListN.{length, set, take}
use lib.Ieee.{Float}
use Rattle.definitions.specs.Table.{Table, dimension}
use Rattle.definitions.specs.Distance.{center}
use Rattle.definitions.specs.Walk.{Walked, ended, exhausted, Leaf, Descent, still, walk}
use Rattle.definitions.proofs.Turns.{walk_leaf, leaf_ended}
use Rattle.lists.specs.Places.{places}
use Rattle.lists.proofs.Tuples.{fourth, fifth, sixth, seventh, eighth}
use Rattle.search.specs.Kept.{Kept, leaf}
use Rattle.search.specs.View.{Search, carried, kept, seen, Considered, Pushed}
use Rattle.search.specs.Call.{State, state, Call, size, prefix, walk_of, Ready, Preserved, Returned}
use Rattle.search.specs.declared.RecursiveSearch.{RecursiveSearch}
use Rattle.search.proofs.NearestLeaf.{shown_held, shown_exhausted}

-- what a call of `run` has come to, by its result and what it leaves of its parameters
abbrev pub last_state : {A B C X : Type 0} → Bool → RecursiveSearch → A × (B × (C × (List Float × (List Float × (List ℤ × (ℕ × (Bool × X))))))) → State
last_state listing r p = state (carried listing r (seventh p) (eighth p)) (fourth p) (fifth p) (sixth p)

-- a search with a node more and a coordinate set; and with its budget spent
abbrev pub with_child : Search → ℕ → ℤ → Search
with_child s l z = record { point = set s.point l z; best = s.best; radius = s.radius; nodes = s.nodes + 1; found = s.found; exhausted = s.exhausted; listed = s.listed }

abbrev pub without_budget : Search → Search
without_budget s = record { point = s.point; best = s.best; radius = s.radius; nodes = s.nodes; found = s.found; exhausted = true; listed = s.listed }

-- ---- a state as the definitions see it
module _ (n : ℕ) (x : State) where
  abbrev pub view : Walked Kept
  view = seen n x.search x.distances x.points

  abbrev pub keeps : Kept
  keeps = kept n x.search x.distances x.points

  -- where it is not exhausted
  abbrev pub ended_view : Walked Kept
  ended_view = ended keeps x.search.radius x.search.nodes

  pub view_ended : x.search.exhausted ≡ false → view ≡ ended_view
  view_ended e = shown_held x.search keeps e

  pub view_exhausted : x.search.exhausted ≡ true → view ≡ exhausted x.search.nodes x.search.radius
  view_exhausted e = shown_exhausted x.search keeps e

-- ---- a call of `run`
module _ (q : Call) where
  abbrev pub leaf_of : Leaf Kept
  leaf_of = leaf q.listing (length q.from.distances)

  -- the walk with l levels left
  abbrev pub down : ℕ → Descent Kept
  down l = walk leaf_of (still (center q.table q.target)) q.table q.budget l

  module _ (ready : Ready q) where
    pub walk_ended : down q.depth (prefix q) q.partial (ended_view (size q) q.from) ≡ walk_of q
    walk_ended = ap (down q.depth (prefix q) q.partial) (sym (view_ended (size q) q.from ready.not_exhausted))

    -- the state as it came
    pub unchanged : Preserved q q.from
    unchanged = record {
      point_above = refl;
      more = omega arith;
      counted = ready.counted;
      listed = omega arith;
      rest_length = ready.rest_length;
      rest_above = refl;
      distances_length = refl;
      points_length = refl;
    }

    -- ---- a leaf
    pub at_foot : q.depth ≡ 0 → (s : Search) (distances : List Float) (points : List ℤ) → seen (size q) s distances points ≡ leaf_of (take (size q) q.from.search.point) q.partial (keeps (size q) q.from) q.from.search.radius q.from.search.nodes → s.point ≡ q.from.search.point → s.nodes ≡ q.from.search.nodes → s.listed ≤ q.from.search.listed + 1 → length distances ≡ length q.from.distances → length points ≡ length q.from.points → Returned q (state s q.from.rest distances points)
    at_foot z s distances points e point nodes listed dl pl = record {
      seen_as =
          e
          ∙ sym (walk_leaf leaf_of (still (center q.table q.target)) q.table q.budget zs q.partial (ended_view (size q) q.from) ∙ leaf_ended leaf_of (still (center q.table q.target)) q.table q.budget zs q.partial (keeps (size q) q.from) q.from.search.radius q.from.search.nodes)
          ∙ ap (λ (k : ℕ). down k (places (size q) k q.from.search.point) q.partial (ended_view (size q) q.from)) (sym z)
          ∙ walk_ended;
      preserved = record {
        point_above = ap (places (size q) q.depth) point;
        more = omega arith;
        counted = omega (arith, ready.counted);
        listed = omega arith;
        rest_length = ready.rest_length;
        rest_above = refl;
        distances_length = dl;
        points_length = pl;
      };
    }
      where
        zs : List ℤ
        zs = take (size q) q.from.search.point

-- ---- the two leaves of the code
-- a call from a struct and what is lent beside it
module _ (t : Table) (target : List Float) (budget depth : ℕ) (partial : Float) (s : RecursiveSearch) (found : ℕ) (rest distances : List Float) (points : List ℤ) where
  abbrev pub call_from : Bool → Bool → Call
  call_from listing spent = record { listing = listing; table = t; target = target; budget = budget; depth = depth; partial = partial; from = state (carried listing s found spent) rest distances points }

  -- what it comes to, if it ends with that struct and so much lent
  abbrev pub Ends : Bool → Bool → RecursiveSearch → ℕ → List Float → List ℤ → Type 0
  Ends listing spent s' found' distances' points' = Returned (call_from listing spent) (state (carried listing s' found' spent) rest distances' points')

  pub foot_pushed : (listing spent : Bool) → listing ≡ true → Ready (call_from listing spent) → depth ≡ 0 → (found' : ℕ) (distances' : List Float) (points' : List ℤ) → Pushed (dimension t) s.point partial found found' distances distances' points points' → Ends listing spent s found' distances' points'
  foot_pushed true false e ready z found' distances' points' p = at_foot (call_from true false) ready z (carried true s found' false) distances' points' (p.seen_as s refl) refl refl (omega (arith, p.counted)) p.distances_length p.points_length
  foot_pushed true true e ready z found' distances' points' p = absurd (true≢false ready.not_exhausted)
  foot_pushed false spent e ready z found' distances' points' p = absurd (true≢false (sym e))

  pub foot_considered : (listing spent : Bool) → listing ≡ false → Ready (call_from listing spent) → depth ≡ 0 → (s' : RecursiveSearch) (found' : ℕ) → Considered (dimension t) s partial found s' found' → Ends listing spent s' found' distances points
  foot_considered false false e ready z s' found' p = at_foot (call_from false false) ready z (carried false s' found' false) distances points (p.seen_as distances points) p.point p.nodes (omega arith) refl refl
  foot_considered false true e ready z s' found' p = absurd (true≢false ready.not_exhausted)
  foot_considered true spent e ready z s' found' p = absurd (true≢false e)
