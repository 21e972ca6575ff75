-- `run` walks as the definition does. Each exit and each turn is a law of `States` or `Loop`, at what is known where it stands. Assumes nothing.
use Rattle.std.proofs.Common.{Some}
use mathlib.Core.Path.{◌≡◌, sym, ◌∙◌}
use Prim.Native.Nat.{ℕ, ◌<◌, ◌+◌, ◌-◌}
use native.Mathlib.Omega.{arith}
use mir.Syntax.{w64}
use mir.Val.{to_z, of_z}
use mir.ValLaws.{to_z-of_z}
use lib.ListN.{length}
use Rattle.lists.proofs.Tuples.{thirteenth}
use Rattle.definitions.specs.Table.{largest_dimension}
use Rattle.children.specs.declared.Children.{Children}
use Rattle.children.specs.declared.Trial.{Trial}
use Rattle.children.specs.View.{level_of}
use Rattle.search.specs.View.{carried}
use Rattle.search.specs.Call.{State, state, Call, call_of, Ready}
use Rattle.search.proofs.States.{unchanged, foot_pushed, foot_considered}
use Rattle.search.proofs.Loop.{ChildReady, Level, start_of, center_sum_lem, level_closed, none_given, level_open, Turn, children_end, preserved_exhausted, Tried, step_after, budget_spent, Counted, child_pruned, ready_below, Below, exhausted_below, preserved_below, loop_continues, last_child}
use Rattle.search.proofs.+run.Goals as goal
use Rattle.search.proofs.+run.Goals.{Start, Else-depth-eq0, In-Some, At-loop-s, After-struct_told-1, After-next-following}

-- ---- a call above the foot; at an open level; in the loop; with the child set; back from the walk below it
module _ (q : Call) (ready : Ready q) where
  module _ (above : 0 < q.depth) where
    depth_is : q.depth ≡ q.depth - 1 + 1
    depth_is = omega arith

    abbrev level : Level q
    level = record { ready = ready; level = q.depth - 1; depth_is = depth_is }

    low : q.depth - 1 < length q.table.weights
    low = omega (arith, depth_is, ready.within)

    module _ (generator : Children) (made : Some generator ≡ level_of (start_of level (center_sum_lem level))) (long : length q.from.search.point ≡ largest_dimension) where
      abbrev opened : Turn q
      opened = record { at = level; now = q.from; generator = generator; loop = level_open level generator made long }

    module _ {now : State} {child : Trial} {after : Children} (inv : ChildReady q (q.depth - 1) now child after) where
      abbrev tried : Tried q
      tried = record { turn = record { at = level; now = now; generator = inv.generator; loop = inv.loop }; trial = child; after = after; gives = inv.gives }

-- ---- places of the code
module _ (t : ℕ) where
  -- the start
  abbrev call : Start t → Call
  call b = let a = b.args in call_of a.mu a.weights a.target a.rest a.distances a.points a.found a.exhausted a.listing a.budget a.depth a.partial a.s

  point_length : (b : Start t) → length b.args.s.point ≡ largest_dimension
  point_length b = (thirteenth b.well_formed).1.1.0.1.0.1

  -- in the loop, with the next child known
  module _ (k : After-next-following t) where
    abbrev call_at : Call
    call_at = let a = k.args in call_of a.mu a.weights a.target a.rest a.distances a.points a.found a.exhausted a.listing a.budget a.depth a.partial a.s

    above : 0 < call_at.depth
    above = omega (arith, k.if-depth-eq0.false)

    abbrev child : Counted call_at
    child = record {
      tried = tried call_at k.requires above k.loop-s.invariant;
      below_budget = k.if-s-budget.false;
      stored = to_z w64 (of_z w64 k.loop-s.child.z);
      stored_is = to_z-of_z w64 k.loop-s.child.z (record { sfits = k.struct_told-1.given.0.1 });
    }

pub returns-then-listing : goal.returns-then-listing
returns-then-listing t c =
    let b = (goal.at.returns-then-listing t c).Start in
    let a = c.args in
    foot_pushed (call t b).table (call t b).target a.budget a.depth a.partial a.s a.found.now a.rest.now a.distances.now a.points.now a.listing a.exhausted.now c.if-listing.true c.requires c.if-depth-eq0.true c.push.new.found c.push.new.distances c.push.new.points c.push.ensures

pub returns-then-depth-eq0 : goal.returns-then-depth-eq0
returns-then-depth-eq0 t c =
    let b = (goal.at.returns-then-depth-eq0 t c).Start in
    let a = c.args in
    foot_considered (call t b).table (call t b).target a.budget a.depth a.partial a.s a.found.now a.rest.now a.distances.now a.points.now a.listing a.exhausted.now c.if-listing.false c.requires c.if-depth-eq0.true c.consider.result c.consider.new.found c.consider.ensures

pub returns-in_default : goal.returns-in_default
returns-in_default t c =
    let b = (goal.at.returns-in_default t c).Start in
    record { seen_as = level_closed (level (call t b) c.requires (omega (arith, c.if-depth-eq0.false))) (sym c.in_default.is ∙ c.enter.ensures); preserved = unchanged (call t b) c.requires }

pub first-requires : goal.first-requires
first-requires t c =
    let b = (goal.at.first-requires t c).Start in
    none_given (level (call t b) c.requires (omega (arith, c.if-depth-eq0.false))) c.in-Some.made (sym c.in-Some.is ∙ c.enter.ensures)

pub returns-in_default-first : goal.returns-in_default-first
returns-in_default-first t c =
    let b = (goal.at.returns-in_default-first t c).Start in
    record { seen_as = children_end (opened (call t b) c.requires (omega (arith, c.if-depth-eq0.false)) c.in-Some.made (sym c.in-Some.is ∙ c.enter.ensures) (point_length t b)) (sym c.in_default-first.is ∙ c.first.ensures); preserved = unchanged (call t b) c.requires }

pub loop-s-init : goal.loop-s-init
loop-s-init t c =
    let b = (goal.at.loop-s-init t c).Start in
    record { generator = c.in-Some.made; loop = (opened (call t b) c.requires (omega (arith, c.if-depth-eq0.false)) c.in-Some.made (sym c.in-Some.is ∙ c.enter.ensures) (point_length t b)).loop; gives = sym c.in-Some-first.is ∙ c.first.ensures }

pub returns-then-s-budget : goal.returns-then-s-budget
returns-then-s-budget t c =
    let b = (goal.at.returns-then-s-budget t c).Start in
    let d = tried (call t b) c.requires (omega (arith, c.if-depth-eq0.false)) c.loop-s.invariant in
    record { seen_as = budget_spent d c.if-s-budget.true; preserved = preserved_exhausted d.turn }

pub next-following-requires : goal.next-following-requires
next-following-requires t c =
    let b = (goal.at.next-following-requires t c).Start in
    let d = tried (call t b) c.requires (omega (arith, c.if-depth-eq0.false)) c.loop-s.invariant in
    omega (arith, step_after d, c.if-s-budget.false, c.requires.bounded)

pub run-requires : goal.run-requires
run-requires t c =
    let k = (goal.at.run-requires t c).After-next-following in
    let fewer : c.args.depth - 1 < t = omega (arith, c.decreases, c.if-depth-eq0.false) in
    (fewer, ready_below (child t k))

pub returns-in_default-following : goal.returns-in_default-following
returns-in_default-following t c =
    let k = (goal.at.returns-in_default-following t c).After-next-following in
    let v = c.run in
    let m : Below (call_at t k) = record {
      child = child t k;
      passes = c.if-sum-s.true;
      result = state (carried c.args.listing v.result v.new.found v.new.exhausted) v.new.rest v.new.distances v.new.points;
      returned = v.ensures;
      point_length = v.type_inv.1.1.0.1.0.1;
    } in
    record { seen_as = last_child m (sym c.in_default-following.is ∙ c.next-following.ensures); preserved = preserved_below m }

pub run-s-requires : goal.run-s-requires
run-s-requires t c =
    let k = (goal.at.run-s-requires t c).After-next-following in
    let fewer : c.args.depth - 1 < t = omega (arith, c.decreases, c.if-depth-eq0.false) in
    (fewer, ready_below (child t k))

pub returns-then-exhausted : goal.returns-then-exhausted
returns-then-exhausted t c =
    let k = (goal.at.returns-then-exhausted t c).After-next-following in
    let v = c.run-s in
    let m : Below (call_at t k) = record {
      child = child t k;
      passes = c.if-sum-s.true;
      result = state (carried c.args.listing v.result v.new.found v.new.exhausted) v.new.rest v.new.distances v.new.points;
      returned = v.ensures;
      point_length = v.type_inv.1.1.0.1.0.1;
    } in
    record { seen_as = exhausted_below m c.if-exhausted.true; preserved = preserved_below m }

pub loop-s-preserved-then-sum-s : goal.loop-s-preserved-then-sum-s
loop-s-preserved-then-sum-s t c =
    let k = (goal.at.loop-s-preserved-then-sum-s t c).After-next-following in
    let v = c.run-s in
    let m : Below (call_at t k) = record {
      child = child t k;
      passes = c.if-sum-s.true;
      result = state (carried c.args.listing v.result v.new.found v.new.exhausted) v.new.rest v.new.distances v.new.points;
      returned = v.ensures;
      point_length = v.type_inv.1.1.0.1.0.1;
    } in
    record { generator = (child t k).tried.after; loop = loop_continues m c.if-exhausted.false; gives = sym c.in-Some-following.is ∙ c.next-following.ensures }

pub returns-in_default-following-2 : goal.returns-in_default-following-2
returns-in_default-following-2 t c =
    let k = (goal.at.returns-in_default-following-2 t c).After-next-following in
    let loop = child_pruned (child t k) c.if-sum-s.false in
    record { seen_as = children_end (record { at = (child t k).tried.turn.at; now = _; generator = _; loop = loop }) (sym c.in_default-following-2.is ∙ c.next-following.ensures); preserved = loop.preserved }

pub loop-s-preserved : goal.loop-s-preserved
loop-s-preserved t c =
    let k = (goal.at.loop-s-preserved t c).After-next-following in
    record { generator = (child t k).tried.after; loop = child_pruned (child t k) c.if-sum-s.false; gives = sym c.in-Some-following-2.is ∙ c.next-following.ensures }
