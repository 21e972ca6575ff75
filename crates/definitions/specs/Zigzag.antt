-- The order in which a level tries its integers: docs/SPECIFICATION.md, "Zigzag". Definitions only.
use Rattle.std.specs.Prelude.{ℕ, suc, ◌+◌, ◌/◌, ◌%◌, Bool, true, false, not, ◌&&◌, ◌||◌, cond, eqb, ℤ, pos, ◌+ℤ◌, ◌-ℤ◌, Float}
use Rattle.std.specs.Bool.{beq}
use Rattle.std.specs.Float.Ieee.{le, of_int}
use Rattle.rounding.specs.Integers.{to_double, round_away, is_i64}
use Rattle.definitions.specs.Distance.{term}

-- a generator: centre, remaining and weight are the level's; the other five fields say how far it has come
pub record Zigzag : Type 0 where
  pub center : Float
  pub remaining : Float
  pub weight : Float
  pub nearest : ℤ
  pub step : ℕ
  pub emitted_nearest : Bool
  pub positive_done : Bool
  pub negative_done : Bool

-- a generator, or none for a level without children
pub data Start : Type 0 where
  open_level : Zigzag → Start
  no_children : Start

-- a child, or none, and the generator after it
pub data Next : Type 0 where
  child : ℤ → Zigzag → Next
  none : Zigzag → Next

-- an integer passes if its term is at most `remaining`
unfoldable pub passes_test : Zigzag → ℤ → Bool
unfolding term le
passes_test g z = le (term g.weight g.center z) g.remaining

-- a generator before its first child
unfoldable pub new_zigzag : Float → Float → Float → Zigzag
unfolding round_away
new_zigzag c remaining w = record {
  center = c;
  remaining = remaining;
  weight = w;
  nearest = round_away c;
  step = 1;
  emitted_nearest = false;
  positive_done = false;
  negative_done = false;
}

-- the generator of a level; there is none if m, which is `round_away` of the centre, does not pass
unfoldable pub start : Float → Float → Float → Start
unfolding new_zigzag passes_test
start c remaining w = let g = new_zigzag c remaining w in cond (passes_test g g.nearest) (open_level g) no_children

-- whether step s goes up: the odd steps do where c ≥ m, elsewhere the even ones
unfoldable pub upward : Zigzag → Bool
unfolding le of_int
upward g = beq (eqb (g.step % 2) 1) (le (to_double g.nearest) g.center)

-- the magnitude of step s: (s+1)/2 without remainder
abbrev pub step_magnitude : Zigzag → ℕ
step_magnitude g = (g.step + 1) / 2

-- the integer that step s tries
unfoldable pub candidate : Zigzag → ℤ
unfolding upward
candidate g = cond (upward g) (g.nearest +ℤ pos (step_magnitude g)) (g.nearest -ℤ pos (step_magnitude g))

-- the generator after a step, which may have closed a direction
abbrev pub after_step : Bool → Bool → Zigzag → Zigzag
after_step closed_up closed_down g = record {
  center = g.center;
  remaining = g.remaining;
  weight = g.weight;
  nearest = g.nearest;
  step = suc g.step;
  emitted_nearest = true;
  positive_done = closed_up || g.positive_done;
  negative_done = closed_down || g.negative_done;
}

-- one step: its direction is closed already, or its candidate is a child, or it closes the direction:
-- its candidate is no i64 or does not pass. A closed direction stays closed.
unfoldable pub one_step : Zigzag → Next
unfolding upward candidate passes_test
one_step g =
    let up = upward g in
    let z = candidate g in
    let closed = cond up g.positive_done g.negative_done in
    cond closed (none (after_step false false g))
    (cond (is_i64 z && passes_test g z) (child z (after_step false false g)) (none (after_step up (not up) g)))

abbrev pub both_done : Zigzag → Bool
both_done g = g.positive_done && g.negative_done

-- a second step, unless the first gave a child or closed the last direction
unfoldable pub second_step : Next → Next
unfolding one_step
second_step (child z g) = child z g
second_step (none g) = cond (both_done g) (none g) (one_step g)

-- the generator once it has handed out its nearest integer
abbrev pub after_nearest : Zigzag → Zigzag
after_nearest g = record {
  center = g.center;
  remaining = g.remaining;
  weight = g.weight;
  nearest = g.nearest;
  step = g.step;
  emitted_nearest = true;
  positive_done = g.positive_done;
  negative_done = g.negative_done;
}

-- The next child: the nearest integer first, then steps until one gives a child or both directions are closed.
-- Two steps are enough, as they try both directions: after two without a child both are closed (law `none_is_final`).
unfoldable pub next : Zigzag → Next
unfolding second_step one_step
next g = cond g.emitted_nearest (cond (both_done g) (none g) (second_step (one_step g))) (child g.nearest (after_nearest g))
