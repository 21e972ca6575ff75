-- What the code's values stand for, and what a step asks for. Definitions only.
use Rattle.std.specs.Prelude.{◌≡◌, ℕ, ◌%◌, ◌^◌, ◌<◌, ◌≤◌, Bool, true, false, ◌&&◌, cond, eqb, ℤ, Float, Option, None, Some}
use Rattle.std.specs.Bool.{beq}
use Rattle.std.specs.Float.Ieee.{le}
use Rattle.rounding.specs.Integers.{to_double, is_i64}
use Rattle.definitions.specs.Distance as D
use Rattle.definitions.specs.Zigzag.{Zigzag, Start, open_level, no_children, Next, child, none, passes_test}
use Rattle.children.specs.declared.Children.{Children}
use Rattle.children.specs.declared.Trial.{Trial}

-- a generator of the code, and back below
abbrev pub zigzag : Children → Zigzag
zigzag c = record {
  center = c.center;
  remaining = c.remaining;
  weight = c.weight;
  nearest = c.nearest;
  step = c.step;
  emitted_nearest = c.emitted_nearest;
  positive_done = c.positive_done;
  negative_done = c.negative_done;
}

-- a generator after its nearest integer, at another step
abbrev pub at_step : Children → ℕ → Bool → Bool → Zigzag
at_step self step positive_done negative_done = record {
  center = self.center;
  remaining = self.remaining;
  weight = self.weight;
  nearest = self.nearest;
  step = step;
  emitted_nearest = true;
  positive_done = positive_done;
  negative_done = negative_done;
}

abbrev pub generator_of : Zigzag → Children
generator_of g = record {
  center = g.center;
  remaining = g.remaining;
  weight = g.weight;
  nearest = g.nearest;
  step = g.step;
  emitted_nearest = g.emitted_nearest;
  positive_done = g.positive_done;
  negative_done = g.negative_done;
}

abbrev pub trial_of : Float → Float → ℤ → Trial
trial_of w c z = record { z = z; value = to_double z; term = D.term w c z }

abbrev pub level_of : Start → Option Children
level_of (open_level g) = Some (generator_of g)
level_of no_children = None

abbrev pub child_of : Next → Option (Trial × Children)
child_of (child z g) = Some (trial_of g.weight g.center z, generator_of g)
child_of (none g) = None

-- a candidate by itself, and against what remained
abbrev pub moved_of : ℤ → Option ℤ
moved_of z = cond (is_i64 z) (Some z) None

abbrev pub tested_of : Zigzag → ℤ → Option Trial
tested_of g z = cond (is_i64 z && passes_test g z) (Some (trial_of g.weight g.center z)) None

-- whether a step goes upward: odd steps go where the first does
abbrev pub goes_upward : Children → ℕ → Bool
goes_upward self step = beq (eqb (step % 2) 1) (le (to_double self.nearest) self.center)

abbrev pub is_done : Children → Bool → Bool
is_done self positive = cond positive self.positive_done self.negative_done

-- the first step that is tried: its direction is open
pub record FirstStep (self : Children) (step : ℕ) (positive : Bool) : Type 0 where
  pub bounded : step ≤ 2 ^ 62
  pub emitted : self.emitted_nearest ≡ true
  pub direction : positive ≡ goes_upward self step
  pub not_done : is_done self positive ≡ false

-- the step after it, in the other direction
pub record LastStep (self : Children) (step : ℕ) (positive : Bool) : Type 0 where
  pub bounded : step < 2 ^ 63
  pub emitted : self.emitted_nearest ≡ true
  pub direction : positive ≡ goes_upward self step
