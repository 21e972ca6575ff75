-- What the loop of `run` keeps: that of `Levels` for its call, and of the state it changes what `Preserved` says. Then its turns and its exits. Assumes nothing.
use Rattle.std.proofs.Common.{None, Some}
use mathlib.Core.Path.{◌≡◌, refl, ap, sym, ◌∙◌}
use mathlib.Core.Bool.{Bool, true, false}
use mathlib.Core.List.{List, ◌∷◌}
use Prim.Native.Nat.{ℕ, suc, ◌+◌, ◌*◌, ◌<◌, ◌≤◌}
use native.Mathlib.Omega.{arith}
use lib.IntN.{ℤ}
use lib.ListN.{length, set, length-set}
use lib.Ieee.{Float, binary64, add, sub, le}
use Rattle.rounding.specs.Integers.{to_double}
use Rattle.definitions.specs.Table.{coordinate, largest_dimension}
use Rattle.definitions.specs.Distance.{center}
use Rattle.definitions.specs.Zigzag.{Start, next}
use Rattle.definitions.specs.Walk.{Walked, ended, exhausted, still, walk}
use Rattle.lists.specs.Places.{places}
use Rattle.distance.specs.Residuals.{residuals, center_sum}
use Rattle.lists.proofs.Places.{places_set, places_kept, places_next}
use Rattle.distance.proofs.Centers.{center_below, residuals_below}
use Rattle.children.specs.declared.Children.{Children}
use Rattle.children.specs.declared.Trial.{Trial}
use Rattle.children.specs.View.{zigzag, level_of, child_of}
use Rattle.search.specs.Kept.{Kept, leaf}
use Rattle.search.specs.View.{Search, seen}
use Rattle.search.specs.Call.{State, state, Call, size, prefix, walk_of, Ready, Preserved, Returned}
use Rattle.search.proofs.States.{with_child, without_budget, view, keeps, ended_view, view_ended, view_exhausted, leaf_of, down, walk_ended, unchanged}
use Rattle.search.proofs.Levels.{Entered, Going}
use Rattle.search.proofs.Levels as L

-- the level below a call's coordinates
abbrev level_of_call : Call → ℕ → Entered Kept
level_of_call q l = record {
  leaf = leaf_of q;
  centers = still (center q.table q.target);
  table = q.table;
  budget = q.budget;
  level = l;
  above = prefix q;
  partial = q.partial;
  kept = keeps (size q) q.from;
  radius = q.from.search.radius;
  nodes = q.from.search.nodes;
}

-- at level l: x is what the loop has come to, and g the generator before its next child
pub record LoopReady (q : Call) (l : ℕ) (x : State) (g : Children) : Type 0 where
  pub going : Going (level_of_call q l) g (keeps (size q) x) x.search.radius x.search.nodes
  pub not_exhausted : x.search.exhausted ≡ false
  pub point_length : length x.search.point ≡ largest_dimension
  pub listed : x.search.listed + q.from.search.nodes ≤ x.search.nodes + q.from.search.listed
  pub preserved : Preserved q x

-- with a child in hand: g is the generator after it
pub record ChildReady (q : Call) (l : ℕ) (x : State) (trial : Trial) (g : Children) : Type 0 where
  pub generator : Children
  pub loop : LoopReady q l x generator
  pub gives : Some (trial, g) ≡ child_of (next (zigzag generator))

-- ---- a level
pub record Level (q : Call) : Type 0 where
  pub ready : Ready q
  pub level : ℕ
  pub depth_is : q.depth ≡ level + 1

module _ {q : Call} (v : Level q) where
  low : v.level < size q
  low = omega (arith, v.depth_is, v.ready.within)

  abbrev entered : Entered Kept
  entered = level_of_call q v.level

  whole_is : L.whole entered ≡ walk_of q
  whole_is =
      let e : suc v.level ≡ q.depth = omega (arith, v.depth_is) in
      ap (λ (k : ℕ). down q k (prefix q) q.partial (ended_view (size q) q.from)) e ∙ walk_ended q v.ready

  -- its centre as the code sums it
  abbrev pub center_sum_lem : Float
  center_sum_lem = center_sum q.table q.target q.from.rest v.level

  center_is : center_sum_lem ≡ L.center_of entered
  center_is = center_below q.table q.target q.from.rest (omega (arith, v.ready.shape.small, v.ready.rest_length)) q.depth v.level v.depth_is (prefix q) v.ready.rest_above center_sum_lem refl

  abbrev pub start_of : Float → Start
  start_of = L.start_of entered

  pub level_closed : None ≡ level_of (start_of center_sum_lem) → view (size q) q.from ≡ walk_of q
  level_closed e = view_ended (size q) q.from v.ready.not_exhausted ∙ L.closes entered center_sum_lem center_is e ∙ whole_is

  module _ (g : Children) (e : Some g ≡ level_of (start_of center_sum_lem)) where
    pub none_given : g.emitted_nearest ≡ false
    none_given = L.none_given entered center_sum_lem center_is g e

    pub level_open : length q.from.search.point ≡ largest_dimension → LoopReady q v.level q.from g
    level_open point_length = record {
      going = L.opens entered center_sum_lem center_is g e;
      not_exhausted = v.ready.not_exhausted;
      point_length = point_length;
      listed = omega arith;
      preserved = unchanged q v.ready;
    }

-- ---- a turn of the loop
pub record Turn (q : Call) : Type 0 where
  pub at : Level q
  pub now : State
  pub generator : Children
  pub loop : LoopReady q at.level now generator

module _ {q : Call} (u : Turn q) where
  pub children_end : None ≡ child_of (next (zigzag u.generator)) → view (size q) u.now ≡ walk_of q
  children_end e = view_ended (size q) u.now u.loop.not_exhausted ∙ L.children_end u.loop.going e ∙ whole_is u.at

  pub preserved_exhausted : Preserved q (state (without_budget u.now.search) u.now.rest u.now.distances u.now.points)
  preserved_exhausted = record {
    point_above = u.loop.preserved.point_above;
    more = u.loop.preserved.more;
    counted = u.loop.preserved.counted;
    listed = u.loop.preserved.listed;
    rest_length = u.loop.preserved.rest_length;
    rest_above = u.loop.preserved.rest_above;
    distances_length = u.loop.preserved.distances_length;
    points_length = u.loop.preserved.points_length;
  }

-- ---- a turn that has a child
pub record Tried (q : Call) : Type 0 where
  pub turn : Turn q
  pub trial : Trial
  pub after : Children
  pub gives : Some (trial, after) ≡ child_of (next (zigzag turn.generator))

-- the sum with the child's term
abbrev pub sum : {q : Call} → Tried q → Float
sum {q} d = add binary64 q.partial d.trial.term

module _ {q : Call} (d : Tried q) where
  pub step_after : d.after.step ≤ 2 * d.turn.now.search.nodes + 3
  step_after = L.step_after d.turn.loop.going d.gives

  pub budget_spent : q.budget ≤ d.turn.now.search.nodes → exhausted d.turn.now.search.nodes d.turn.now.search.radius ≡ walk_of q
  budget_spent h = L.budget_spent d.turn.loop.going d.gives h ∙ whole_is d.turn.at

-- ---- a turn whose child is counted and set in the point under trial
-- `stored` is the child's coordinate as the code has it
pub record Counted (q : Call) : Type 0 where
  pub tried : Tried q
  pub below_budget : tried.turn.now.search.nodes < q.budget
  pub stored : ℤ
  pub stored_is : stored ≡ tried.trial.z

module _ {q : Call} (e : Counted q) where
  abbrev turn : Turn q
  turn = e.tried.turn

  -- the search and the residuals then
  abbrev pub search_below : Search
  search_below = with_child turn.now.search turn.at.level e.stored

  abbrev pub residual : Float
  residual = sub binary64 (coordinate q.target turn.at.level) e.tried.trial.value

  abbrev pub rest_below : List Float
  rest_below = set turn.now.rest turn.at.level residual

  point_long : size q ≤ length turn.now.search.point
  point_long = omega (arith, turn.loop.point_length, turn.at.ready.shape.small)

  rest_long : size q ≤ length turn.now.rest
  rest_long = omega (arith, turn.loop.preserved.rest_length, turn.at.ready.shape.small)

  at_depth : {A : Type 0} (xs ys : List A) → places (size q) (turn.at.level + 1) xs ≡ places (size q) (turn.at.level + 1) ys → places (size q) q.depth xs ≡ places (size q) q.depth ys
  at_depth xs ys h = ap (λ (j : ℕ). places (size q) j xs) turn.at.depth_is ∙ h ∙ ap (λ (j : ℕ). places (size q) j ys) (sym turn.at.depth_is)

  point_set : places (size q) turn.at.level search_below.point ≡ e.stored ∷ prefix q
  point_set =
      places_set (size q) turn.now.search.point point_long turn.at.level e.stored (low turn.at)
      ∙ ap (λ (j : ℕ). e.stored ∷ places (size q) j turn.now.search.point) (sym turn.at.depth_is)
      ∙ ap (λ (zs : List ℤ). e.stored ∷ zs) turn.loop.preserved.point_above

  point_kept : places (size q) q.depth search_below.point ≡ prefix q
  point_kept = at_depth search_below.point turn.now.search.point (places_kept (size q) turn.now.search.point point_long turn.at.level e.stored (low turn.at)) ∙ turn.loop.preserved.point_above

  rest_kept : places (size q) q.depth rest_below ≡ places (size q) q.depth q.from.rest
  rest_kept = at_depth rest_below turn.now.rest (places_kept (size q) turn.now.rest rest_long turn.at.level residual (low turn.at)) ∙ turn.loop.preserved.rest_above

  -- its sum is above the standing radius
  pub child_pruned : le (sum e.tried) turn.now.search.radius ≡ false → LoopReady q turn.at.level (state search_below rest_below turn.now.distances turn.now.points) e.tried.after
  child_pruned h = record {
    going = L.child_pruned turn.loop.going e.tried.gives e.below_budget h;
    not_exhausted = turn.loop.not_exhausted;
    point_length = length-set turn.now.search.point turn.at.level e.stored ∙ turn.loop.point_length;
    listed = omega (arith, turn.loop.listed);
    preserved = record {
      point_above = point_kept;
      more = omega (arith, turn.loop.preserved.more);
      counted = omega (arith, e.below_budget);
      listed = omega (arith, turn.loop.preserved.listed);
      rest_length = length-set turn.now.rest turn.at.level residual ∙ turn.loop.preserved.rest_length;
      rest_above = rest_kept;
      distances_length = turn.loop.preserved.distances_length;
      points_length = turn.loop.preserved.points_length;
    };
  }

  -- the call below, and what it asks for
  abbrev pub call_below : Call
  call_below = record { listing = q.listing; table = q.table; target = q.target; budget = q.budget; depth = turn.at.level; partial = sum e.tried; from = state search_below rest_below turn.now.distances turn.now.points }

  pub ready_below : Ready call_below
  ready_below = record {
    shape = turn.at.ready.shape;
    within = omega (arith, low turn.at);
    bounded = turn.at.ready.bounded;
    counted = omega (arith, e.below_budget);
    not_exhausted = turn.loop.not_exhausted;
    listed = omega (arith, turn.loop.listed, turn.at.ready.listed);
    rest_length = length-set turn.now.rest turn.at.level residual ∙ turn.loop.preserved.rest_length;
    rest_above =
        residuals_below q.table q.target turn.now.rest rest_long q.depth turn.at.level turn.at.depth_is (prefix q) (turn.loop.preserved.rest_above ∙ turn.at.ready.rest_above) (low turn.at) e.stored residual (ap (sub binary64 (coordinate q.target turn.at.level)) (L.value_at turn.loop.going e.tried.gives ∙ ap to_double (sym e.stored_is)))
        ∙ ap (residuals q.target turn.at.level) (sym point_set);
    few = omega (arith, turn.at.ready.few, turn.loop.preserved.distances_length);
    points_length = turn.loop.preserved.points_length ∙ turn.at.ready.points_length ∙ ap (λ (k : ℕ). k * size q) (sym turn.loop.preserved.distances_length);
  }

-- ---- a child that is followed, and what the walk below it came to
pub record Below (q : Call) : Type 0 where
  pub child : Counted q
  pub passes : le (sum child.tried) child.tried.turn.now.search.radius ≡ true
  pub result : State
  pub returned : Returned (call_below child) result
  pub point_length : length result.search.point ≡ largest_dimension

module _ {q : Call} (m : Below q) where
  abbrev e : Counted q
  e = m.child

  abbrev w : State
  w = m.result

  abbrev view_below : Walked Kept
  view_below = seen (size q) (search_below e) (turn e).now.distances (turn e).now.points

  below : view (size q) w ≡ down q (turn e).at.level (e.tried.trial.z ∷ prefix q) (sum e.tried) (ended (keeps (size q) (turn e).now) (turn e).now.search.radius ((turn e).now.search.nodes + 1))
  below =
      m.returned.seen_as
      ∙ ap (λ (k : ℕ). walk (leaf q.listing k) (still (center q.table q.target)) q.table q.budget (turn e).at.level (places (size q) (turn e).at.level (search_below e).point) (sum e.tried) view_below) (turn e).loop.preserved.distances_length
      ∙ ap (λ (zs : List ℤ). down q (turn e).at.level zs (sum e.tried) view_below) (point_set e ∙ ap (λ (a : ℤ). a ∷ prefix q) e.stored_is)
      ∙ ap (down q (turn e).at.level (e.tried.trial.z ∷ prefix q) (sum e.tried)) (view_ended (size q) (state (search_below e) (turn e).now.rest (turn e).now.distances (turn e).now.points) (turn e).loop.not_exhausted)

  pub exhausted_below : w.search.exhausted ≡ true → view (size q) w ≡ walk_of q
  exhausted_below a =
      view_exhausted (size q) w a
      ∙ L.exhausted_below (turn e).loop.going e.tried.gives e.below_budget m.passes (view (size q) w) below w.search.nodes w.search.radius (view_exhausted (size q) w a)
      ∙ whole_is (turn e).at

  pub preserved_below : Preserved q w
  preserved_below = record {
    point_above = at_depth e w.search.point (search_below e).point (places_next (size q) (turn e).at.level w.search.point (search_below e).point m.returned.preserved.point_above) ∙ point_kept e;
    more = omega (arith, (turn e).loop.preserved.more, m.returned.preserved.more);
    counted = m.returned.preserved.counted;
    listed = omega (arith, (turn e).loop.listed, m.returned.preserved.listed, m.returned.preserved.more);
    rest_length = m.returned.preserved.rest_length;
    rest_above = at_depth e w.rest (rest_below e) (places_next (size q) (turn e).at.level w.rest (rest_below e) m.returned.preserved.rest_above) ∙ rest_kept e;
    distances_length = m.returned.preserved.distances_length ∙ (turn e).loop.preserved.distances_length;
    points_length = m.returned.preserved.points_length ∙ (turn e).loop.preserved.points_length;
  }

  pub loop_continues : w.search.exhausted ≡ false → LoopReady q (turn e).at.level w e.tried.after
  loop_continues a = record {
    going = L.goes_on (turn e).loop.going e.tried.gives e.below_budget m.passes (view (size q) w) below (keeps (size q) w) w.search.radius w.search.nodes (view_ended (size q) w a) (omega (arith, m.returned.preserved.more));
    not_exhausted = a;
    point_length = m.point_length;
    listed = omega (arith, (turn e).loop.listed, m.returned.preserved.listed);
    preserved = preserved_below;
  }

  -- there is no child after it
  pub last_child : None ≡ child_of (next (zigzag e.tried.after)) → view (size q) w ≡ walk_of q
  last_child f = by w.search.exhausted refl
    where
      by : (b : Bool) → w.search.exhausted ≡ b → view (size q) w ≡ walk_of q
      by true a = exhausted_below a
      by false a = children_end (record { at = (turn e).at; now = w; generator = e.tried.after; loop = loop_continues a }) f
