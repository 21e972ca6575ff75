-- `run` walks as the definition does. Each exit and each turn is a law of `States` or `Loop`, at what is known where it stands. Assumes nothing.
use Rattle.std.proofs.Common.{Some}
use mathlib.Core.Path.{◌≡◌, sym, ◌∙◌, subst}
use Prim.Native.Nat.{ℕ, ◌<◌, ◌+◌, ◌-◌}
use native.Mathlib.Omega.{arith}
use mir.Syntax.{w64}
use mir.ValLaws.{to_z-of_z}
use lib.IntN.{ℤ}
use Rattle.children.specs.declared.Children.{Children}
use Rattle.children.specs.declared.Trial.{Trial}
use Rattle.children.specs.View.{level_of}
use Rattle.search.specs.View.{carried}
use Rattle.running.specs.Centers.{Updated}
use Rattle.running.specs.Call.{search_of, State, state, Call, call_of, Ready}
use Rattle.running.proofs.States.{unchanged, foot_pushed, foot_considered}
use Rattle.running.proofs.Loop.{ChildReady, Level, start_of, center_read, level_closed, none_given, level_open, Turn, children_end, preserved_exhausted, Tried, step_after, budget_spent, Counted, child_pruned, ready_below, Below, exhausted_below, preserved_below, loop_continues, last_child}
use Rattle.running.proofs.+run.Goals as goal
use Rattle.running.proofs.+run.Goals.{Start, After-next-following}

-- ---- a call above the foot; at an open level; in the loop
module _ (q : Call) (ready : Ready q) where
  module _ (above : 0 < q.depth) where
    depth_is : q.depth ≡ q.depth - 1 + 1
    depth_is = omega arith

    abbrev level : Level q
    level = record { ready = ready; level = q.depth - 1; depth_is = depth_is }

    module _ (generator : Children) (made : Some generator ≡ level_of (start_of level (center_read level))) where
      abbrev opened : Turn q
      opened = record { at = level; now = q.from; generator = generator; loop = level_open level generator made }

    module _ {now : State} {child : Trial} {after : Children} (inv : ChildReady q (q.depth - 1) now child after) where
      abbrev tried : Tried q
      tried = record { turn = record { at = level; now = now; generator = inv.generator; loop = inv.loop }; trial = child; after = after; gives = inv.gives }

-- ---- places of the code
module _ (t : ℕ) where
  -- the start
  abbrev call : Start t → Call
  call b = let a = b.args in call_of a.mu a.weights a.point a.best a.centers a.distances a.points a.found a.exhausted a.listing a.budget a.depth a.partial a.s

  -- in the loop, with the centres updated and the next child known
  module _ (k : After-next-following t) where
    abbrev call_at : Call
    call_at = let a = k.args in call_of a.mu a.weights a.point a.best a.centers a.distances a.points a.found a.exhausted a.listing a.budget a.depth a.partial a.s

    above : 0 < call_at.depth
    above = omega (arith, k.if-depth-eq0.false)

    updated : Updated call_at.table (call_at.depth - 1) k.loop-s.child.z k.loop-s.point k.update_centers.new.point k.loop-s.centers k.update_centers.new.centers
    updated =
        subst (λ (z : ℤ). Updated call_at.table (call_at.depth - 1) z k.loop-s.point k.update_centers.new.point k.loop-s.centers k.update_centers.new.centers) (to_z-of_z w64 k.loop-s.child.z (record { sfits = k.struct_told-1.given.0.1 })) k.update_centers.ensures

    abbrev child : Counted call_at
    child = record {
      tried = tried call_at k.requires above k.loop-s.invariant;
      below_budget = k.if-s-budget.false;
      point = k.update_centers.new.point;
      centers = k.update_centers.new.centers;
      updated = updated;
    }

pub returns-then-listing : goal.returns-then-listing
returns-then-listing t c =
    let b = (goal.at.returns-then-listing t c).Start in
    let a = c.args in
    foot_pushed (call t b).table a.budget a.depth a.partial a.point.now a.best.now a.s a.found.now a.centers.now a.distances.now a.points.now a.listing a.exhausted.now c.if-listing.true c.requires c.if-depth-eq0.true c.push.new.found c.push.new.distances c.push.new.points c.push.ensures

pub returns-then-depth-eq0 : goal.returns-then-depth-eq0
returns-then-depth-eq0 t c =
    let b = (goal.at.returns-then-depth-eq0 t c).Start in
    let a = c.args in
    foot_considered (call t b).table a.budget a.depth a.partial a.point.now a.best.now a.s a.found.now a.centers.now a.distances.now a.points.now a.listing a.exhausted.now c.if-listing.false c.requires c.if-depth-eq0.true c.consider.new.best c.consider.result c.consider.new.found c.consider.ensures

pub returns-in_default : goal.returns-in_default
returns-in_default t c =
    let b = (goal.at.returns-in_default t c).Start in
    record { seen_as = level_closed (level (call t b) c.requires (omega (arith, c.if-depth-eq0.false))) (sym c.in_default.is ∙ c.new.ensures); preserved = unchanged (call t b) c.requires }

pub first-requires : goal.first-requires
first-requires t c =
    let b = (goal.at.first-requires t c).Start in
    none_given (level (call t b) c.requires (omega (arith, c.if-depth-eq0.false))) c.in-Some.made (sym c.in-Some.is ∙ c.new.ensures)

pub returns-in_default-first : goal.returns-in_default-first
returns-in_default-first t c =
    let b = (goal.at.returns-in_default-first t c).Start in
    record { seen_as = children_end (opened (call t b) c.requires (omega (arith, c.if-depth-eq0.false)) c.in-Some.made (sym c.in-Some.is ∙ c.new.ensures)) (sym c.in_default-first.is ∙ c.first.ensures); preserved = unchanged (call t b) c.requires }

pub loop-s-init : goal.loop-s-init
loop-s-init t c =
    let b = (goal.at.loop-s-init t c).Start in
    record { generator = c.in-Some.made; loop = (opened (call t b) c.requires (omega (arith, c.if-depth-eq0.false)) c.in-Some.made (sym c.in-Some.is ∙ c.new.ensures)).loop; gives = sym c.in-Some-first.is ∙ c.first.ensures }

pub returns-then-s-budget : goal.returns-then-s-budget
returns-then-s-budget t c =
    let b = (goal.at.returns-then-s-budget t c).Start in
    let d = tried (call t b) c.requires (omega (arith, c.if-depth-eq0.false)) c.loop-s.invariant in
    record { seen_as = budget_spent d c.if-s-budget.true; preserved = preserved_exhausted d.turn }

pub next-following-requires : goal.next-following-requires
next-following-requires t c =
    let b = (goal.at.next-following-requires t c).Start in
    let d = tried (call t b) c.requires (omega (arith, c.if-depth-eq0.false)) c.loop-s.invariant in
    omega (arith, step_after d, c.if-s-budget.false, c.requires.bounded)

pub run-requires : goal.run-requires
run-requires t c =
    let k = (goal.at.run-requires t c).After-next-following in
    let fewer : c.args.depth - 1 < t = omega (arith, c.decreases, c.if-depth-eq0.false) in
    (fewer, ready_below (child t k))

pub returns-then-sum-s : goal.returns-then-sum-s
returns-then-sum-s t c =
    let k = (goal.at.returns-then-sum-s t c).After-next-following in
    let v = c.run in
    let m : Below (call_at t k) = record {
      child = child t k;
      passes = c.if-sum-s.true;
      result = state (carried c.args.listing (search_of v.new.point v.new.best v.result) v.new.found v.new.exhausted) v.new.centers v.new.distances v.new.points;
      returned = v.ensures;
    } in
    record { seen_as = last_child m (sym c.in_default-following.is ∙ c.next-following.ensures); preserved = preserved_below m }

pub run-s-requires : goal.run-s-requires
run-s-requires t c =
    let k = (goal.at.run-s-requires t c).After-next-following in
    let fewer : c.args.depth - 1 < t = omega (arith, c.decreases, c.if-depth-eq0.false) in
    (fewer, ready_below (child t k))

pub returns-then-exhausted : goal.returns-then-exhausted
returns-then-exhausted t c =
    let k = (goal.at.returns-then-exhausted t c).After-next-following in
    let v = c.run-s in
    let m : Below (call_at t k) = record {
      child = child t k;
      passes = c.if-sum-s-2.true;
      result = state (carried c.args.listing (search_of v.new.point v.new.best v.result) v.new.found v.new.exhausted) v.new.centers v.new.distances v.new.points;
      returned = v.ensures;
    } in
    record { seen_as = exhausted_below m c.if-exhausted.true; preserved = preserved_below m }

pub loop-s-preserved-then-sum-s-2 : goal.loop-s-preserved-then-sum-s-2
loop-s-preserved-then-sum-s-2 t c =
    let k = (goal.at.loop-s-preserved-then-sum-s-2 t c).After-next-following in
    let v = c.run-s in
    let m : Below (call_at t k) = record {
      child = child t k;
      passes = c.if-sum-s-2.true;
      result = state (carried c.args.listing (search_of v.new.point v.new.best v.result) v.new.found v.new.exhausted) v.new.centers v.new.distances v.new.points;
      returned = v.ensures;
    } in
    record { generator = (child t k).tried.after; loop = loop_continues m c.if-exhausted.false; gives = sym c.in-Some-following.is ∙ c.next-following.ensures }

pub returns-in_default-following : goal.returns-in_default-following
returns-in_default-following t c =
    let k = (goal.at.returns-in_default-following t c).After-next-following in
    let loop = child_pruned (child t k) c.if-sum-s.false in
    record { seen_as = children_end (record { at = (child t k).tried.turn.at; now = _; generator = _; loop = loop }) (sym c.in_default-following.is ∙ c.next-following.ensures); preserved = loop.preserved }

pub loop-s-preserved : goal.loop-s-preserved
loop-s-preserved t c =
    let k = (goal.at.loop-s-preserved t c).After-next-following in
    record { generator = (child t k).tried.after; loop = child_pruned (child t k) c.if-sum-s-2.false; gives = sym c.in-Some-following.is ∙ c.next-following.ensures }
