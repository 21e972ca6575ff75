-- A turn of the loop of `run_to` is a step of the machine: the child that waits at the lowest open level is taken, and then it is pruned, or a leaf, or the level
-- below it is opened. Assumes nothing.
use mathlib.Core.Path.{◌≡◌, refl, sym, ap, ◌∙◌, subst}
use Prim.Native.Nat.{ℕ, suc, ◌+◌, ◌-◌, ◌*◌, ◌^◌, ◌≤◌, ◌<◌}
use native.Mathlib.Numerals.{add-one}
use native.Mathlib.Omega.{arith}
use mathlib.Core.Bool.{Bool, true, false, cond}
use mathlib.Core.List.{List, ◌∷◌}
use lib.ListN.{length, take, get_or, set}
use lib.IntN.{ℤ}
use lib.Ieee.{Float, nan, binary64, add, sub, le}
use Rattle.lists.specs.Places.{places}
use Rattle.lists.proofs.Places.{places_set, places_kept}
use Rattle.definitions.specs.Table.{Table, table, largest_dimension, largest_budget}
use Rattle.definitions.specs.Distance.{center, term}
use Rattle.definitions.specs.Zigzag.{Next, Start, start, next}
use Rattle.definitions.specs.Nearest.{best, replaces}
use Rattle.definitions.specs.Machine.{Frame, Machine, machine, push, opened, descend, visited, advance, step}
use Rattle.definitions.proofs.Machine.{descend_leaf, descend_level, visited_true, visited_false, advance_child, step_is}
use Rattle.children.specs.View.{zigzag, child_of}
use Rattle.resume.specs.declared.OpenLevel.{OpenLevel}
use Rattle.resume.specs.declared.Walk.{Walk}
use Rattle.resume.specs.View.{generator_of, waiting_of, count_of, entered_of, level_at, frame_of, stack_of, best_of, machine_of, with_best, considered_of}
use Rattle.resume.specs.Ready.{Placed, Falling, Ready}
use Rattle.resume.proofs.Levels.{stack_suc, stack_point, falling_parts, falling_room, falling_more}
use Rattle.resume.proofs.Storing.{Fits, next_fits, stack_waiting, stack_entered, falling_waiting}

-- A turn begins with a walk that is ready, has an open level and is below the largest budget.
pub record Turn (weights mu target rest : List Float) (s : Walk) : Type 0 where
  pub ready : Ready weights mu target rest s
  pub some : s.count ≡ 0 → ⊥
  pub below : s.nodes < largest_budget

module _ {weights mu target rest : List Float} {s : Walk} (u : Turn weights mu target rest s) where
  abbrev n : ℕ
  n = length weights

  abbrev t : Table
  t = table weights mu

  -- ---- the lowest open level
  abbrev pub top : ℕ
  top = s.count - 1

  abbrev pub lowest : OpenLevel
  lowest = level_at s.levels top

  pub counted : s.count ≡ suc top
  counted = omega (arith, u.some)

  parts : Placed n s.nodes 0 lowest × Falling n s.nodes s.levels (suc lowest.level) top
  parts = falling_parts n s.nodes s.levels 0 top (subst (Falling n s.nodes s.levels 0) counted u.ready.sound.falling)

  pub inside : lowest.level < n
  inside = parts.0.inside

  pub level_small : lowest.level < largest_dimension
  level_small = omega (arith, inside, u.ready.sound.shape.small)

  pub top_small : top < largest_dimension
  top_small = omega (arith, counted, falling_room n s.nodes s.levels 0 s.count u.ready.sound.falling, u.ready.sound.shape.small)

  pub steps_few : lowest.step < 2 ^ 62
  steps_few = omega (arith, parts.0.few, u.below)

  pub point_fits : n ≤ length s.point
  point_fits = omega (arith, u.ready.sound.point_length, u.ready.sound.shape.small)

  pub rest_fits : n ≤ length rest
  rest_fits = omega (arith, u.ready.rest_length, u.ready.sound.shape.small)

  room : top < length s.levels
  room = omega (arith, top_small, u.ready.sound.levels_length)

  -- ---- its child is taken
  abbrev w : Float
  w = get_or weights lowest.level nan

  abbrev pub sum : Float
  sum = add binary64 lowest.partial (term w lowest.center lowest.waiting)

  abbrev pub following : Next
  following = next (zigzag (generator_of w lowest))

  abbrev pub moved : Walk
  moved = record {
    point = set s.point lowest.level lowest.waiting;
    best = s.best;
    levels = set s.levels top (waiting_of lowest.level lowest.partial lowest (child_of following));
    count = count_of top (child_of following);
    radius = s.radius;
    nodes = s.nodes + 1;
    found = s.found;
  }

  fits : Fits w lowest.center (2 * (s.nodes + 1) + 1) following
  fits = next_fits (zigzag (generator_of w lowest)) w lowest.center (2 * (s.nodes + 1) + 1) refl refl (omega (arith, parts.0.few))

  abbrev pub above : List ℤ
  above = places n (lowest.level + 1) s.point

  pub taken_places : lowest.waiting ∷ above ≡ places n lowest.level moved.point
  taken_places = sym (places_set n s.point point_fits lowest.level lowest.waiting inside)

  abbrev others : List Frame
  others = stack_of weights s.point s.levels top

  abbrev stack : List Frame
  stack = stack_of weights moved.point moved.levels moved.count

  stack_moved : stack ≡ push lowest.level above lowest.partial lowest.center following others
  stack_moved =
      stack_waiting weights s.levels top lowest.level lowest.partial lowest.center lowest room moved.point (2 * (s.nodes + 1) + 1) following fits
      ∙ ap (λ (zs : List ℤ). push lowest.level zs lowest.partial lowest.center following (stack_of weights moved.point s.levels top)) (places_kept n s.point point_fits lowest.level lowest.waiting inside)
      ∙ ap (push lowest.level above lowest.partial lowest.center following) (stack_point weights s.levels s.point s.nodes lowest.level lowest.waiting inside top (suc lowest.level) (omega arith) parts.1)

  pub falling_moved : Falling n (s.nodes + 1) moved.levels lowest.level moved.count
  falling_moved =
      falling_waiting weights s.levels top lowest.level lowest.partial lowest.center lowest room (s.nodes + 1) lowest.level (omega arith) inside
      (falling_more n s.nodes s.levels (s.nodes + 1) (suc lowest.level) top (omega arith) parts.1)
      following fits

  -- level l opened below it, c being its centre
  abbrev pub starts : ℕ → Float → Start
  starts l c = start c (sub binary64 s.radius sum) (get_or weights l nan)

  abbrev pub deeper : ℕ → Float → Walk
  deeper l c = record {
    point = moved.point;
    best = s.best;
    levels = set moved.levels moved.count (waiting_of l sum lowest (entered_of (starts l c)));
    count = count_of moved.count (entered_of (starts l c));
    radius = s.radius;
    nodes = s.nodes + 1;
    found = s.found;
  }

  -- ---- the machine's step
  abbrev frame : Frame
  frame = frame_of weights s.point lowest

  abbrev visits : Bool → List Frame → Machine
  visits b fs = visited t target b frame sum fs (best_of n s) s.radius (suc s.nodes)

  step_visits : (b : Bool) → le sum s.radius ≡ b → step t target (machine_of weights s) ≡ visits b stack
  step_visits b e =
      step_is t target (machine_of weights s)
      ∙ ap (λ (fs : List Frame). advance t target fs (best_of n s) s.radius s.nodes) (ap (stack_of weights s.point s.levels) counted ∙ stack_suc weights s.point s.levels top)
      ∙ advance_child t target frame others (best_of n s) s.radius s.nodes
      ∙ ap (visits (le sum s.radius)) (sym stack_moved)
      ∙ ap (λ (x : Bool). visits x stack) e

  -- pruned
  pub pruned : le sum s.radius ≡ false → step t target (machine_of weights s) ≡ machine_of weights moved
  pruned e =
      step_visits false e
      ∙ visited_false t target frame sum stack (best_of n s) s.radius (suc s.nodes)
      ∙ ap (machine stack (best_of n s) s.radius) (sym (add-one s.nodes))

  module _ (passes : le sum s.radius ≡ true) where
    descended : (d : ℕ) → lowest.level ≡ d → step t target (machine_of weights s) ≡ descend t target d (lowest.waiting ∷ above) sum stack (best_of n s) s.radius (suc s.nodes)
    descended d e =
        step_visits true passes
        ∙ visited_true t target frame sum stack (best_of n s) s.radius (suc s.nodes)
        ∙ ap (λ (k : ℕ). descend t target k (lowest.waiting ∷ above) sum stack (best_of n s) s.radius (suc s.nodes)) e

    -- a leaf
    pub leaf : lowest.level ≡ 0 → step t target (machine_of weights s) ≡ machine_of weights (considered_of n moved sum)
    leaf e =
        descended 0 e
        ∙ descend_leaf t target (lowest.waiting ∷ above) sum stack (best_of n s) s.radius (suc s.nodes)
        ∙ ap (λ (zs : List ℤ). by zs (replaces zs sum (best_of n s) s.radius) (suc s.nodes)) (taken_places ∙ ap (λ (d : ℕ). places n d moved.point) e)
        ∙ ap (by (take n moved.point) better) (sym (add-one s.nodes))
        ∙ go better
      where
        by : List ℤ → Bool → ℕ → Machine
        by zs b m = machine stack (cond b (best zs) (best_of n s)) (cond b sum s.radius) m

        better : Bool
        better = replaces (take n moved.point) sum (best_of n s) s.radius

        go : (b : Bool) → by (take n moved.point) b (s.nodes + 1) ≡ machine_of weights (cond b (with_best moved sum) moved)
        go true = refl
        go false = refl

    -- level l below it is opened, c being its centre
    module _ (l : ℕ) (deep : lowest.level ≡ suc l) (c : Float) (centered : c ≡ center t target l (lowest.waiting ∷ above)) (free : moved.count < length moved.levels) where
      stack_deeper : opened l (lowest.waiting ∷ above) sum c (starts l c) stack ≡ stack_of weights moved.point (deeper l c).levels (deeper l c).count
      stack_deeper =
          ap (λ (zs : List ℤ). opened l zs sum c (starts l c) stack) (taken_places ∙ ap (λ (d : ℕ). places n d moved.point) (deep ∙ sym (add-one l)))
          ∙ sym (stack_entered weights moved.levels moved.count l sum c lowest free moved.point (sub binary64 s.radius sum) (starts l c) refl)

      pub level_opened : step t target (machine_of weights s) ≡ machine_of weights (deeper l c)
      level_opened =
          descended (suc l) deep
          ∙ descend_level t target l (lowest.waiting ∷ above) sum stack (best_of n s) s.radius (suc s.nodes)
          ∙ ap (λ (v : Float). machine (opened l (lowest.waiting ∷ above) sum v (starts l v) stack) (best_of n s) s.radius (suc s.nodes)) (sym centered)
          ∙ ap (λ (fs : List Frame). machine fs (best_of n s) s.radius (suc s.nodes)) stack_deeper
          ∙ ap (machine _ (best_of n s) s.radius) (sym (add-one s.nodes))
