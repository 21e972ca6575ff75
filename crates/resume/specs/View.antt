-- What a kept walk stands for: a machine. Definitions only.
use Rattle.children.specs.declared.Trial.{Trial}
use Rattle.std.specs.Prelude.{Option, None, Some}
use Rattle.std.specs.Prelude.{ℕ, zero, suc, ◌+◌, true, false, cond, List, [], ◌∷◌, length, take, get_or, ℤ, pos, Float}
use Rattle.std.specs.Float.{nan}
use Rattle.lists.specs.Places.{places}
use Rattle.definitions.specs.Zigzag.{Start, open_level, no_children, next}
use Rattle.definitions.specs.Nearest.{Best, best, no_best, replaces}
use Rattle.definitions.specs.Machine.{Frame, Machine, machine}
use Rattle.children.specs.View.{zigzag, child_of}
use Rattle.children.specs.declared.Children.{Children}
use Rattle.resume.specs.declared.OpenLevel.{OpenLevel}
use Rattle.resume.specs.declared.Walk.{Walk}

-- ---- an open level
-- its generator after the child that waits, w being its weight
abbrev pub generator_of : Float → OpenLevel → Children
generator_of w f = record {
  center = f.center;
  remaining = f.remaining;
  weight = w;
  nearest = f.nearest;
  step = f.step;
  emitted_nearest = true;
  positive_done = f.positive_done;
  negative_done = f.negative_done;
}

-- a level with what its zigzag gives; without a child, `other` stands in its place
abbrev pub waiting_of : ℕ → Float → OpenLevel → Option (Trial × Children) → OpenLevel
waiting_of level p other (Some (trial, g)) = record {
  level = level;
  partial = p;
  center = g.center;
  remaining = g.remaining;
  nearest = g.nearest;
  step = g.step;
  waiting = trial.z;
  positive_done = g.positive_done;
  negative_done = g.negative_done;
}
waiting_of level p other None = other

-- one open level more, if there is a child
abbrev pub count_of : ℕ → Option (Trial × Children) → ℕ
count_of k (Some (trial, g)) = k + 1
count_of k None = k

-- the first child of a level that is made
abbrev pub entered_of : Start → Option (Trial × Children)
entered_of (open_level g) = child_of (next g)
entered_of no_children = None

-- ---- the open levels
-- what stands past the end of an array of them
abbrev pub no_level : OpenLevel
no_level = record {
  level = 0;
  partial = nan;
  center = nan;
  remaining = nan;
  nearest = pos 0;
  step = 0;
  waiting = pos 0;
  positive_done = false;
  negative_done = false;
}

abbrev pub level_at : List OpenLevel → ℕ → OpenLevel
level_at levels i = get_or levels i no_level

-- an open level, the coordinates above it being those of the point under trial
abbrev pub frame_of : List Float → List ℤ → OpenLevel → Frame
frame_of weights point f = record {
  level = f.level;
  above = places (length weights) (f.level + 1) point;
  partial = f.partial;
  center = f.center;
  waiting = f.waiting;
  generator = zigzag (generator_of (get_or weights f.level nan) f);
}

-- the first so many, of which the last is the lowest
unfoldable pub stack_of : List Float → List ℤ → List OpenLevel → ℕ → List Frame
stack_of weights point levels zero = []
stack_of weights point levels (suc i) = frame_of weights point (level_at levels i) ∷ stack_of weights point levels i

-- ---- the walk
abbrev pub best_of : ℕ → Walk → Best
best_of n s = cond s.found (best (take n s.best)) no_best

abbrev pub machine_of : List Float → Walk → Machine
machine_of weights s = machine (stack_of weights s.point s.levels s.count) (best_of (length weights) s) s.radius s.nodes

-- with the point under trial as its best
abbrev pub with_best : Walk → Float → Walk
with_best s d = record {
  point = s.point;
  best = s.point;
  levels = s.levels;
  count = s.count;
  radius = d;
  nodes = s.nodes;
  found = true;
}

-- after a leaf
abbrev pub considered_of : ℕ → Walk → Float → Walk
considered_of n s d = cond (replaces (take n s.point) d (best_of n s) s.radius) (with_best s d) s
