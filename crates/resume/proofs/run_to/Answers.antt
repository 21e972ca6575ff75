-- `run_to` runs the machine. The loop keeps `Going`, and its measure is what the budget leaves; each turn is a law of `Given`, at what is known where it stands.
-- Assumes nothing.
use mathlib.Core.Path.{refl, ap}
use Prim.Native.Nat.{◌<◌}
use native.Mathlib.Omega.{arith}
use mir.Syntax.{w64}
use mir.Val.{to_z, of_z}
use mir.ValLaws.{to_z-of_z}
use Rattle.definitions.specs.Table.{largest_dimension}
use Rattle.children.specs.declared.Children.{Children}
use Rattle.resume.proofs.Stepping.{Turn, lowest, inside, level_small, top_small, steps_few}
use Rattle.resume.proofs.Turning.{moved_ready}
use Rattle.resume.proofs.Given.{Given, residual, turn_pruned, turn_leaf, turn_free, turn_deeper}
use Rattle.resume.proofs.Going.{goes_on, ends_over, ends_spent}
use Rattle.resume.proofs.run_to.Goals as goal
use Rattle.resume.proofs.run_to.Goals.{Else-s-eq0, After-one_more}

-- ---- what is known with an open level
below : (e : Else-s-eq0) → e.loop-s.s.nodes < e.args.budget
below e = e.loop-s-test.true

abbrev turn : (e : Else-s-eq0) → Turn e.args.weights.now e.args.mu.now e.args.target.now e.loop-s.rest e.loop-s.s
turn e = record { ready = e.loop-s.invariant.ready; some = e.if-s-eq0.false; below = omega (arith, below e, e.requires.budget_bounded) }

-- ---- and with that level stored again
abbrev turn_at : (m : After-one_more) → Turn m.args.weights.now m.args.mu.now m.args.target.now m.loop-s.rest m.loop-s.s
turn_at m = record { ready = m.loop-s.invariant.ready; some = m.if-s-eq0.false; below = omega (arith, m.loop-s-test.true, m.requires.budget_bounded) }

abbrev given : (m : After-one_more) → Given (turn_at m)
given m =
    let z = (lowest (turn_at m)).waiting in
    record {
      child = to_z w64 (of_z w64 z);
      child_is = to_z-of_z w64 z (record { sfits = m.struct_told-1.given.1.1.1.1.1.1.0.1 });
      value = m.to_double-value.result;
      value_is = m.to_double-value.ensures;
      term = m.term.result;
      term_is = m.term.ensures;
      generator = m.generator.result;
      generator_is = m.generator.ensures;
      next = m.next-following.result;
      next_is = m.next-following.ensures;
      level = m.waiting.result;
      level_is = m.waiting.ensures;
      count = m.one_more.result;
      count_is = m.one_more.ensures;
    }

-- ---- the goals
pub loop-s-init : goal.loop-s-init
loop-s-init c = record { ready = c.requires.ready; left = refl }

pub returns-then-s-eq0 : goal.returns-then-s-eq0
returns-then-s-eq0 c = ends_over c.loop-s.invariant c.if-s-eq0.true

pub offset_bounds-s-top : goal.offset_bounds-s-top
offset_bounds-s-top c =
    let u = turn (goal.at.offset_bounds-s-top c).Else-s-eq0 in
    omega (arith, top_small u)

pub bounds-s-top : goal.bounds-s-top
bounds-s-top c =
    let u = turn (goal.at.bounds-s-top c).Else-s-eq0 in
    top_small u

pub offset_bounds-weights-level : goal.offset_bounds-weights-level
offset_bounds-weights-level c =
    let u = turn (goal.at.offset_bounds-weights-level c).Else-s-eq0 in
    omega (arith, level_small u)

pub bounds-weights-level : goal.bounds-weights-level
bounds-weights-level c =
    let u = turn (goal.at.bounds-weights-level c).Else-s-eq0 in
    inside u

pub overflow_add-s : goal.overflow_add-s
overflow_add-s c = omega (arith, c.loop-s-test.true, c.requires.budget_bounded)

pub offset_bounds-s-level : goal.offset_bounds-s-level
offset_bounds-s-level c =
    let u = turn (goal.at.offset_bounds-s-level c).Else-s-eq0 in
    omega (arith, level_small u)

pub offset_bounds-target-level : goal.offset_bounds-target-level
offset_bounds-target-level c =
    let u = turn (goal.at.offset_bounds-target-level c).Else-s-eq0 in
    omega (arith, level_small u)

pub offset_bounds-rest-level : goal.offset_bounds-rest-level
offset_bounds-rest-level c =
    let u = turn (goal.at.offset_bounds-rest-level c).Else-s-eq0 in
    omega (arith, level_small u)

pub bounds-s-level : goal.bounds-s-level
bounds-s-level c =
    let u = turn (goal.at.bounds-s-level c).Else-s-eq0 in
    level_small u

pub bounds-target-level : goal.bounds-target-level
bounds-target-level c =
    let u = turn (goal.at.bounds-target-level c).Else-s-eq0 in
    omega (arith, inside u, u.ready.sound.shape.target_length)

pub bounds-rest-level : goal.bounds-rest-level
bounds-rest-level c =
    let u = turn (goal.at.bounds-rest-level c).Else-s-eq0 in
    level_small u

pub next-following-requires : goal.next-following-requires
next-following-requires c =
    let u = turn (goal.at.next-following-requires c).Else-s-eq0 in
    omega (arith, ap (λ (g : Children). g.step) c.generator.ensures, steps_few u)

-- the place of the lowest level, where that is stored again
pub offset_bounds-s-top-in-loop-s : goal.offset_bounds-s-top-in-loop-s
offset_bounds-s-top-in-loop-s c =
    let u = turn (goal.at.offset_bounds-s-top-in-loop-s c).Else-s-eq0 in
    omega (arith, top_small u)

pub bounds-s-top-in-loop-s : goal.bounds-s-top-in-loop-s
bounds-s-top-in-loop-s c =
    let u = turn (goal.at.bounds-s-top-in-loop-s c).Else-s-eq0 in
    top_small u

pub one_more-requires : goal.one_more-requires
one_more-requires c =
    let u = turn (goal.at.one_more-requires c).Else-s-eq0 in
    top_small u

pub consider-s-requires : goal.consider-s-requires
consider-s-requires c = (turn_at (goal.at.consider-s-requires c).After-one_more).ready.sound.shape.small

-- a leaf
pub loop-s-smaller-then-level-eq0 : goal.loop-s-smaller-then-level-eq0
loop-s-smaller-then-level-eq0 c =
    let m = (goal.at.loop-s-smaller-then-level-eq0 c).After-one_more in
    omega (arith, (turn_leaf (given m) c.if-sum-s.true c.if-level-eq0.true c.consider-s.result c.consider-s.ensures).nodes, c.loop-s-test.true)

pub loop-s-preserved-then-level-eq0 : goal.loop-s-preserved-then-level-eq0
loop-s-preserved-then-level-eq0 c =
    let m = (goal.at.loop-s-preserved-then-level-eq0 c).After-one_more in
    goes_on c.loop-s.invariant c.loop-s-test.true (turn_leaf (given m) c.if-sum-s.true c.if-level-eq0.true c.consider-s.result c.consider-s.ensures)

-- a level is opened
pub entered-first-requires : goal.entered-first-requires
entered-first-requires c =
    let m = (goal.at.entered-first-requires c).After-one_more in
    let u = turn_at m in
    record {
      shape = u.ready.sound.shape;
      rest_length = (moved_ready u (residual (given m))).rest_length;
      below = omega (arith, inside u);
    }

-- the place of the level below
pub offset_bounds-s-at : goal.offset_bounds-s-at
offset_bounds-s-at c =
    let m = (goal.at.offset_bounds-s-at c).After-one_more in
    let free : (given m).count < largest_dimension = turn_free (given m) c.if-sum-s.true c.if-level-eq0.false in
    omega (arith, free)

pub bounds-s-at : goal.bounds-s-at
bounds-s-at c =
    let m = (goal.at.bounds-s-at c).After-one_more in
    let free : (given m).count < largest_dimension = turn_free (given m) c.if-sum-s.true c.if-level-eq0.false in
    free

pub one_more-requires-then-sum-s : goal.one_more-requires-then-sum-s
one_more-requires-then-sum-s c =
    let m = (goal.at.one_more-requires-then-sum-s c).After-one_more in
    let free : (given m).count < largest_dimension = turn_free (given m) c.if-sum-s.true c.if-level-eq0.false in
    free

pub loop-s-smaller-then-sum-s : goal.loop-s-smaller-then-sum-s
loop-s-smaller-then-sum-s c = omega (arith, c.loop-s-test.true)

pub loop-s-preserved-then-sum-s : goal.loop-s-preserved-then-sum-s
loop-s-preserved-then-sum-s c =
    let m = (goal.at.loop-s-preserved-then-sum-s c).After-one_more in
    goes_on c.loop-s.invariant c.loop-s-test.true
    (turn_deeper (given m) c.if-sum-s.true c.if-level-eq0.false
    (record {
      first = c.entered-first.result;
      first_is = c.entered-first.ensures;
      level = c.waiting-then-sum-s.result;
      level_is = c.waiting-then-sum-s.ensures;
      count = c.one_more-then-sum-s.result;
      count_is = c.one_more-then-sum-s.ensures;
    }))

-- pruned
pub loop-s-smaller : goal.loop-s-smaller
loop-s-smaller c = omega (arith, c.loop-s-test.true)

pub loop-s-preserved : goal.loop-s-preserved
loop-s-preserved c = goes_on c.loop-s.invariant c.loop-s-test.true (turn_pruned (given (goal.at.loop-s-preserved c).After-one_more) c.if-sum-s.false)

pub returns : goal.returns
returns c = ends_spent c.loop-s.invariant c.loop-s-test.false
