-- What a call of `run` starts from and what it changes, as the definitions see it; and the call at the walk's foot. Assumes nothing.
use mathlib.Core.Path.{◌≡◌, refl, ap, sym, ◌∙◌}
use mathlib.Core.Bool.{Bool, true, false, true≢false}
use mathlib.Core.List.{List}
use Prim.Native.Nat.{ℕ, ◌+◌, ◌≤◌}
use native.Mathlib.Omega.{arith}
use lib.IntN.{ℤ}
use lib.ListN.{length, take}
use lib.Ieee.{Float}
use Rattle.lists.specs.Places.{places}
use Rattle.lists.proofs.Tuples.{fourth, fifth, sixth, seventh, eighth}
use Rattle.definitions.specs.Table.{Table, dimension, largest_searched}
use Rattle.definitions.specs.Walk.{Walked, ended, exhausted, Leaf, Descent, walk}
use Rattle.definitions.specs.Running.{Beside, beside, with_running, leaf_beside, running_centers}
use Rattle.definitions.proofs.Turns.{walk_leaf, leaf_ended}
use Rattle.search.specs.Kept.{Kept, leaf}
use Rattle.search.specs.View.{Search, carried, kept, seen, Pushed}
use Rattle.search.proofs.NearestLeaf.{shown_held, shown_exhausted}
use Rattle.running.specs.Centers.{running_of}
use Rattle.running.specs.Call.{search_of, ConsideredBy, State, state, view, Call, size, prefix, walk_of, Ready, Preserved, Returned}
use Rattle.running.specs.declared.Standing.{Standing}

-- what a call of `run` has come to, by its result and what it leaves of its parameters
abbrev pub last_state : {A B X : Type 0} → Bool → Standing → A × (B × (List ℤ × (List ℤ × (List Float × (List Float × (List ℤ × (ℕ × (Bool × X)))))))) → State
last_state listing r p = state (carried listing (search_of p.1.1.0 (fourth p) r) (eighth p) (eighth p.1)) (fifth p) (sixth p) (seventh p)

-- a search with a node more and another point under trial
abbrev pub with_point : Search → List ℤ → Search
with_point s point = record { point = point; best = s.best; radius = s.radius; nodes = s.nodes + 1; found = s.found; exhausted = s.exhausted; listed = s.listed }

-- ---- a state as the definitions see it
module _ (n : ℕ) (x : State) where
  abbrev pub keeps : Beside Kept
  keeps = beside (kept n x.search x.distances x.points) (running_of n x.search.point x.centers)

  -- where it is not exhausted
  abbrev pub ended_view : Walked (Beside Kept)
  ended_view = ended keeps x.search.radius x.search.nodes

  pub view_ended : x.search.exhausted ≡ false → view n x ≡ ended_view
  view_ended e = ap (with_running (running_of n x.search.point x.centers)) (shown_held x.search (kept n x.search x.distances x.points) e)

  pub view_exhausted : x.search.exhausted ≡ true → view n x ≡ exhausted x.search.nodes x.search.radius
  view_exhausted e = ap (with_running (running_of n x.search.point x.centers)) (shown_exhausted x.search (kept n x.search x.distances x.points) e)

-- ---- a call of `run`
module _ (q : Call) where
  abbrev pub kept_leaf : Leaf Kept
  kept_leaf = leaf q.listing (length q.from.distances)

  abbrev pub leaf_of : Leaf (Beside Kept)
  leaf_of = leaf_beside kept_leaf

  -- the walk with l levels left
  abbrev pub down : ℕ → Descent (Beside Kept)
  down l = walk leaf_of (running_centers q.table) q.table q.budget l

  module _ (ready : Ready q) where
    pub walk_ended : down q.depth (prefix q) q.partial (ended_view (size q) q.from) ≡ walk_of q
    walk_ended = ap (down q.depth (prefix q) q.partial) (sym (view_ended (size q) q.from ready.not_exhausted))

    -- the state as it came
    pub unchanged : Preserved q q.from
    unchanged = record {
      point_above = refl;
      more = omega arith;
      counted = ready.counted;
      listed = omega arith;
      point_length = ready.point_length;
      best_length = ready.best_length;
      centers_length = ready.centers_length;
      distances_length = refl;
      points_length = refl;
    }

    -- ---- a leaf
    pub at_foot : q.depth ≡ 0 → (s : Search) (distances : List Float) (points : List ℤ) → seen (size q) s distances points ≡ kept_leaf (take (size q) q.from.search.point) q.partial (keeps (size q) q.from).kept q.from.search.radius q.from.search.nodes → s.point ≡ q.from.search.point → length s.best ≡ largest_searched → s.nodes ≡ q.from.search.nodes → s.listed ≤ q.from.search.listed + 1 → length distances ≡ length q.from.distances → length points ≡ length q.from.points → Returned q (state s q.from.centers distances points)
    at_foot z s distances points e point best_length nodes listed dl pl = record {
      seen_as =
          ap (λ (ps : List ℤ). with_running (running_of (size q) ps q.from.centers) (seen (size q) s distances points)) point
          ∙ ap (with_running (running_of (size q) q.from.search.point q.from.centers)) e
          ∙ sym (walk_leaf leaf_of (running_centers q.table) q.table q.budget zs q.partial (ended_view (size q) q.from) ∙ leaf_ended leaf_of (running_centers q.table) q.table q.budget zs q.partial (keeps (size q) q.from) q.from.search.radius q.from.search.nodes)
          ∙ ap (λ (k : ℕ). down k (places (size q) k q.from.search.point) q.partial (ended_view (size q) q.from)) (sym z)
          ∙ walk_ended;
      preserved = record {
        point_above = ap (places (size q) q.depth) point;
        more = omega arith;
        counted = omega (arith, ready.counted);
        listed = omega arith;
        point_length = ap length point ∙ ready.point_length;
        best_length = best_length;
        centers_length = ready.centers_length;
        distances_length = dl;
        points_length = pl;
      };
    }
      where
        zs : List ℤ
        zs = take (size q) q.from.search.point

-- ---- the two leaves of the code
-- a call from a struct and what is lent beside it
module _ (t : Table) (budget depth : ℕ) (partial : Float) (point best : List ℤ) (s : Standing) (found : ℕ) (centers distances : List Float) (points : List ℤ) where
  abbrev pub call_from : Bool → Bool → Call
  call_from listing spent = record { listing = listing; table = t; budget = budget; depth = depth; partial = partial; from = state (carried listing (search_of point best s) found spent) centers distances points }

  -- what it comes to, if it ends with that best and struct and so much lent
  abbrev pub Ends : Bool → Bool → List ℤ → Standing → ℕ → List Float → List ℤ → Type 0
  Ends listing spent best' s' found' distances' points' = Returned (call_from listing spent) (state (carried listing (search_of point best' s') found' spent) centers distances' points')

  pub foot_pushed : (listing spent : Bool) → listing ≡ true → Ready (call_from listing spent) → depth ≡ 0 → (found' : ℕ) (distances' : List Float) (points' : List ℤ) → Pushed (dimension t) point partial found found' distances distances' points points' → Ends listing spent best s found' distances' points'
  foot_pushed true false e ready z found' distances' points' p = at_foot (call_from true false) ready z (carried true (search_of point best s) found' false) distances' points' (p.seen_as (search_of point best s) refl) refl ready.best_length refl (omega (arith, p.counted)) p.distances_length p.points_length
  foot_pushed true true e ready z found' distances' points' p = absurd (true≢false ready.not_exhausted)
  foot_pushed false spent e ready z found' distances' points' p = absurd (true≢false (sym e))

  pub foot_considered : (listing spent : Bool) → listing ≡ false → Ready (call_from listing spent) → depth ≡ 0 → (best' : List ℤ) (s' : Standing) (found' : ℕ) → ConsideredBy (dimension t) point best s partial found best' s' found' → Ends listing spent best' s' found' distances points
  foot_considered false false e ready z best' s' found' p = at_foot (call_from false false) ready z (carried false (search_of point best' s') found' false) distances points (p.considered.seen_as distances points) refl p.best_length p.considered.nodes (omega arith) refl refl
  foot_considered false true e ready z best' s' found' p = absurd (true≢false ready.not_exhausted)
  foot_considered true spent e ready z best' s' found' p = absurd (true≢false e)
