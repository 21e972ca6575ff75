-- The walk that is read from a sound part is the part's machine, and sound. Assumes nothing.
use mathlib.Core.Path.{◌≡◌, sym, ap, ◌∙◌, subst}
use mathlib.Core.Bool.{true, cond}
use mathlib.Core.List.{List, ◌∷◌, ◌++◌}
use Prim.Native.Nat.{ℕ, zero, suc, ◌+◌, ◌-◌, ◌*◌, ◌≤◌}
use native.Mathlib.Nat.{mul-le-mul}
use native.Mathlib.Omega.{arith}
use lib.ListN.{length, get_or, take, drop, replicate, length-drop}
use lib.Seq.{length-take-le, take-take}
use lib.IntN.{ℤ, pos}
use lib.Ieee.{Float, nan}
use borrow.Rule.Slice.PartMut.{mid_of}
use Rattle.lists.specs.Places.{places}
use Rattle.lists.proofs.Copies.{prefix_length, prefix_is}
use Rattle.definitions.specs.Table.{largest_dimension}
use Rattle.definitions.specs.Shapes.{Shaped}
use Rattle.definitions.specs.Nearest.{best, no_best}
use Rattle.definitions.specs.Machine.{Frame, Machine, machine}
use Rattle.definitions.specs.Block.{Block, part_dimension, part_nodes, part_found, part_open, part_level, part_table, part_target, part_frame, part_frames, levels_rise}
use Rattle.definitions.proofs.Block.{frames_none, frames_more, rises, SoundCounts, sound_counts}
use Rattle.resume.specs.declared.OpenLevel.{OpenLevel}
use Rattle.resume.specs.declared.Walk.{Walk}
use Rattle.resume.specs.View.{level_at, frame_of, stack_of}
use Rattle.resume.specs.Ready.{Placed, Falling}
use Rattle.resume.proofs.Levels.{stack_zero, stack_suc}
use Rattle.parts.specs.Levels.{level_in, LevelsRead}
use Rattle.parts.specs.Walks.{ReadReady, WalkRead}

-- ---- n places copied into an array of zeros, lent as `&mut array[..n]`
module _ (n : ℕ) (small : n ≤ largest_dimension) where
  abbrev zeros : List ℤ
  zeros = replicate largest_dimension (pos 0)

  pub lent_length : length (take n zeros) ≡ n
  lent_length = length-take-le n zeros small

  module _ (src new : List ℤ) (long : n ≤ length src) (copied : new ≡ take (length (take n zeros)) src) where
    new_is : new ≡ take n src
    new_is = copied ∙ ap (λ (k : ℕ). take k src) lent_length

    new_length : length new ≡ n
    new_length = ap length new_is ∙ length-take-le n src long

    pub copy_length : length (new ++ drop n zeros) ≡ largest_dimension
    copy_length = prefix_length zeros new n small new_length

    pub copy_is : take n (new ++ drop n zeros) ≡ take n src
    copy_is = prefix_is zeros new n small new_length ∙ new_is

-- a frame with other coordinates above it
abbrev with_above : Frame → List ℤ → Frame
with_above f zs = record { level = f.level; above = zs; partial = f.partial; center = f.center; waiting = f.waiting; generator = f.generator }

module _ {p : Block} (ready : ReadReady p) where
  abbrev n : ℕ
  n = part_dimension p.counts

  abbrev m : ℕ
  m = part_open p.counts

  abbrev weights : List Float
  weights = (part_table p).weights

  counted : SoundCounts p.counts
  counted = sound_counts p.counts ready.sound

  pub small : n ≤ largest_dimension
  small = counted.small

  -- so many doubles of the part
  reals_size : (start k : ℕ) → start + k ≤ 646 → length (take k (drop start p.reals)) ≡ k
  reals_size start k h = length-take-le k (drop start p.reals) (omega (arith, length-drop start p.reals, ready.lengths.reals_length))

  weights_length : length weights ≡ n
  weights_length = reals_size 0 n (omega (arith, small))

  shape : Shaped largest_dimension weights (part_table p).mu (part_target p)
  shape =
      let square : n * n ≤ 529 = mul-le-mul small small in
      record {
        small = omega (arith, weights_length, small);
        square = reals_size 23 (n * n) (omega arith) ∙ sym (ap (λ (k : ℕ). k * k) weights_length);
        target_length = reals_size 552 n (omega (arith, small)) ∙ sym weights_length;
      }

  pub point_inside : n ≤ length p.integers
  point_inside = omega (arith, small, ready.lengths.integers_length)

  pub best_inside : 23 + n ≤ length p.integers
  best_inside = omega (arith, small, ready.lengths.integers_length)

  pub best_length : length (mid_of 23 (23 + n - 23) p.integers) ≡ n
  best_length = length-take-le (23 + n - 23) (drop 23 p.integers) (omega (arith, length-drop 23 p.integers, best_inside)) ∙ omega arith

  module _ (levels : List OpenLevel) (read : LevelsRead p levels) where
    -- the k-th level from the highest
    level_is : (k : ℕ) → suc k ≤ m → level_at levels k ≡ level_in p (m - suc k)
    level_is k h = read.each k h ∙ ap (level_in p) (index m)
      where
        index : (m : ℕ) → m - 1 - k ≡ m - suc k
        index m = omega arith

    next_index : (k m : ℕ) → suc k ≤ m → suc (m - suc k) ≡ m - k
    next_index k m h = omega arith

    -- ---- the stack
    module _ (point : List ℤ) (point_is : take n point ≡ take n p.integers) where
      frame_is : (i : ℕ) → frame_of weights point (level_in p i) ≡ part_frame p i
      frame_is i = ap (with_above (part_frame p i)) (ap (λ (k : ℕ). places k (part_level p.counts i + 1) point) weights_length ∙ ap (drop (part_level p.counts i + 1)) point_is)

      stack_from : (k : ℕ) → k ≤ m → stack_of weights point levels k ≡ part_frames p (m - k) k
      stack_from zero h = stack_zero weights point levels ∙ sym (frames_none p (m - 0))
      stack_from (suc k) h =
          stack_suc weights point levels k
          ∙ ap (λ (f : OpenLevel). frame_of weights point f ∷ stack_of weights point levels k) (level_is k h)
          ∙ ap (λ (f : Frame). f ∷ stack_of weights point levels k) (frame_is (m - suc k))
          ∙ ap (λ (fs : List Frame). part_frame p (m - suc k) ∷ fs) (stack_from k (omega arith) ∙ ap (λ (i : ℕ). part_frames p i k) (sym (next_index k m h)))
          ∙ sym (frames_more p (m - suc k) k)

      pub stack_read : stack_of weights point levels m ≡ part_frames p 0 m
      stack_read = stack_from m (omega arith) ∙ ap (λ (i : ℕ). part_frames p i m) (none m)
        where
          none : (m : ℕ) → m - m ≡ 0
          none m = omega arith

    -- ---- the levels fall
    falling_from : (k low : ℕ) → k ≤ m → low ≤ n → levels_rise p.counts low (m - k) k ≡ true → Falling n (part_nodes p.counts) levels low k
    unfolding Falling
    falling_from zero low h l e = l
    falling_from (suc k) low h l e =
        let r = rises p.counts low (m - suc k) k e in
        subst (λ (f : OpenLevel). Placed n (part_nodes p.counts) low f × Falling n (part_nodes p.counts) levels (suc f.level) k) (sym (level_is k h)) (
          record { lowest = r.lowest; inside = r.inside; few = r.few_steps },
          falling_from k (suc (part_level p.counts (m - suc k))) (omega arith) r.inside (subst (λ (i : ℕ). levels_rise p.counts (suc (part_level p.counts (m - suc k))) i k ≡ true) (next_index k m h) r.later),
        )

    falling_read : Falling n (part_nodes p.counts) levels 0 m
    falling_read = falling_from m 0 (omega arith) (omega arith) (subst (λ (i : ℕ). levels_rise p.counts 0 i m ≡ true) (none m) counted.levels)
      where
        none : (m : ℕ) → 0 ≡ m - m
        none m = omega arith

    -- ---- the walk
    module _ (point others : List ℤ) where
      abbrev walk : Walk
      walk = record { point = point; best = others; levels = levels; count = m; radius = get_or p.reals 576 nan; nodes = part_nodes p.counts; found = part_found p.counts }

      abbrev machine_with : List Frame → List ℤ → Machine
      machine_with fs zs = machine fs (cond walk.found (best zs) no_best) walk.radius walk.nodes

      module _ (point_length : length point ≡ largest_dimension) (point_is : take n point ≡ take n p.integers) (others_length : length others ≡ largest_dimension) (others_are : take n others ≡ take n (drop 23 p.integers)) where
        pub walk_read : WalkRead p walk
        walk_read = record {
          is =
              ap (λ (fs : List Frame). machine_with fs (take (length weights) others)) (stack_read point point_is)
              ∙ ap (machine_with (part_frames p 0 m)) (ap (λ (k : ℕ). take k others) weights_length ∙ others_are);
          sound = record {
            shape = shape;
            bounded = counted.few_nodes;
            point_length = point_length;
            best_length = others_length;
            levels_length = read.levels_length;
            falling = subst (λ (k : ℕ). Falling k (part_nodes p.counts) levels 0 m) (sym weights_length) falling_read;
          };
        }

  -- the best, as it is copied
  pub best_copied : take n (mid_of 23 (23 + n - 23) p.integers) ≡ take n (drop 23 p.integers)
  best_copied = take-take n (23 + n - 23) (drop 23 p.integers) (omega arith)
