-- What is written of a walk is the part of its machine. Assumes nothing.
use mathlib.Core.Path.{◌≡◌, refl, sym, ap, ◌∙◌}
use mathlib.Core.Bool.{Bool, true, false, cond}
use mathlib.Core.List.{List, [], ◌∷◌, ◌++◌, map}
use Prim.Native.Nat.{ℕ, zero, suc, ◌+◌, ◌-◌, ◌≤◌}
use native.Mathlib.Numerals.{add-one}
use native.Mathlib.Omega.{arith}
use lib.ListN.{length, take, drop, replicate, length-append, length-map, length-drop, length-replicate}
use lib.Seq.{take_at, length-take-le}
use lib.IntN.{ℤ, pos}
use lib.Ieee.{Float}
use borrow.Rule.Slice.PartMut.{mid_of, put_mid}
use Rattle.lists.specs.Places.{places}
use Rattle.lists.proofs.Segments.{length_padded, map_map}
use Rattle.lists.proofs.Parts.{part_size, part_padded}
use Rattle.definitions.specs.Table.{plus_zero, largest_dimension}
use Rattle.definitions.specs.Nearest.{Best, best, no_best}
use Rattle.definitions.specs.Machine.{Frame}
use Rattle.definitions.specs.Block.{Block, padded, flag, point_under_trial, best_point, has_best, written_walk}
use Rattle.resume.specs.declared.OpenLevel.{OpenLevel}
use Rattle.resume.specs.declared.Walk.{Walk}
use Rattle.resume.specs.View.{level_at, frame_of, stack_of, best_of, machine_of}
use Rattle.resume.proofs.Levels.{stack_zero, stack_suc, falling_room, falling_between}
use Rattle.parts.specs.Levels.{lowest_first, open_levels, column, integers_behind, counts_behind, above_lowest, coordinates, reals_of, integers_of, counts_of, PlacesReady}
use Rattle.parts.specs.Walks.{WriteReady, WalkWritten}
use Rattle.parts.proofs.Backwards.{lowest_none, lowest_more, lowest_length}

-- ---- the machine's levels are the walk's, backwards
stack_levels : (weights : List Float) (point : List ℤ) (levels : List OpenLevel) (k : ℕ) → stack_of weights point levels k ≡ map (frame_of weights point) (lowest_first levels k)
stack_levels weights point levels zero = stack_zero weights point levels ∙ sym (ap (map (frame_of weights point)) (lowest_none levels))
stack_levels weights point levels (suc k) =
    stack_suc weights point levels k
    ∙ ap (λ (fs : List Frame). frame_of weights point (level_at levels k) ∷ fs) (stack_levels weights point levels k)
    ∙ sym (ap (map (frame_of weights point)) (lowest_more levels k))

module _ (weights : List Float) (s : Walk) where
  abbrev fs : List Frame
  fs = stack_of weights s.point s.levels s.count

  abbrev kept : Best
  kept = best_of (length weights) s

  level_column : {A : Type 0} (z : A) (of : Frame → A) → padded z 23 (map of fs) ≡ column z (λ (l : OpenLevel). of (frame_of weights s.point l)) (open_levels s)
  level_column z of =
      ap (λ (gs : List Frame). padded z 23 (map of gs)) (stack_levels weights s.point s.levels s.count)
      ∙ ap (padded z 23) (map_map of (frame_of weights s.point) (open_levels s))

  -- ---- the doubles
  reals_are : (front : List Float) (n : ℕ) → reals_of front s ≡ (written_walk front n (machine_of weights s)).reals
  reals_are front n =
      let head = front ++ s.radius ∷ [] in
      let P = padded plus_zero 23 (map (λ (f : Frame). f.partial) fs) in
      let C = padded plus_zero 23 (map (λ (f : Frame). f.center) fs) in
      ap (λ (l : List Float). head ++ l ++ column plus_zero (λ f. f.center) (open_levels s) ++ column plus_zero (λ f. f.remaining) (open_levels s)) (sym (level_column plus_zero (λ (f : Frame). f.partial)))
      ∙ ap (λ (l : List Float). head ++ P ++ l ++ column plus_zero (λ f. f.remaining) (open_levels s)) (sym (level_column plus_zero (λ (f : Frame). f.center)))
      ∙ ap (λ (l : List Float). head ++ P ++ C ++ l) (sym (level_column plus_zero (λ (f : Frame). f.generator.remaining)))

  -- ---- the counts
  has_best_lem : flag s.found ≡ flag (has_best kept)
  has_best_lem = go s.found
    where
      go : (b : Bool) → flag b ≡ flag (has_best (cond b (best (take (length weights) s.best)) no_best))
      go true = refl
      go false = refl

  count_is : s.count ≡ length fs
  count_is =
      sym (lowest_length s.levels s.count)
      ∙ sym (length-map (open_levels s) (frame_of weights s.point))
      ∙ sym (ap length (stack_levels weights s.point s.levels s.count))

  counts_are : (front : List Float) (n : ℕ) → counts_of n s ≡ (written_walk front n (machine_of weights s)).counts
  counts_are front n =
      let head = n ∷ s.nodes ∷ flag (has_best kept) ∷ length fs ∷ [] in
      let L = padded 0 23 (map (λ (f : Frame). f.level) fs) in
      let S = padded 0 23 (map (λ (f : Frame). f.generator.step) fs) in
      let U = padded 0 23 (map (λ (f : Frame). flag f.generator.positive_done) fs) in
      let step = column 0 (λ f. f.step) (open_levels s) in
      let up = column 0 (λ f. flag f.positive_done) (open_levels s) in
      let down = column 0 (λ f. flag f.negative_done) (open_levels s) in
      ap (λ (k : ℕ). counts_behind (n ∷ s.nodes ∷ k ∷ s.count ∷ []) (open_levels s)) has_best_lem
      ∙ ap (λ (k : ℕ). counts_behind (n ∷ s.nodes ∷ flag (has_best kept) ∷ k ∷ []) (open_levels s)) count_is
      ∙ ap (λ (l : List ℕ). head ++ l ++ step ++ up ++ down) (sym (level_column 0 (λ (f : Frame). f.level)))
      ∙ ap (λ (l : List ℕ). head ++ L ++ l ++ up ++ down) (sym (level_column 0 (λ (f : Frame). f.generator.step)))
      ∙ ap (λ (l : List ℕ). head ++ L ++ S ++ l ++ down) (sym (level_column 0 (λ (f : Frame). flag f.generator.positive_done)))
      ∙ ap (λ (l : List ℕ). head ++ L ++ S ++ U ++ l) (sym (level_column 0 (λ (f : Frame). flag f.generator.negative_done)))

  -- ---- the integers
  module _ (n : ℕ) (weights_length : length weights ≡ n) (some : 1 ≤ s.count) where
    lowest : s.count ≡ suc (s.count - 1)
    lowest = omega arith

    trial_is : replicate (above_lowest s) (pos 0) ++ places n (above_lowest s) s.point ≡ point_under_trial fs
    trial_is =
        let l = (level_at s.levels (s.count - 1)).level in
        ap (λ (k : ℕ). replicate (l + 1) (pos 0) ++ places k (l + 1) s.point) (sym weights_length)
        ∙ ap (λ (k : ℕ). replicate k (pos 0) ++ places (length weights) (l + 1) s.point) (add-one l)
        ∙ sym (ap point_under_trial (ap (stack_of weights s.point s.levels) lowest ∙ stack_suc weights s.point s.levels (s.count - 1)))

    best_is : replicate 0 (pos 0) ++ places (cond s.found n 0) 0 s.best ≡ best_point kept
    best_is = ap (λ (k : ℕ). take (cond s.found k 0) s.best) (sym weights_length) ∙ go s.found
      where
        go : (b : Bool) → take (cond b (length weights) 0) s.best ≡ best_point (cond b (best (take (length weights) s.best)) no_best)
        go true = refl
        go false = refl

    integers_are : (front : List Float) → integers_of n s ≡ (written_walk front n (machine_of weights s)).integers
    integers_are front =
        let T = padded (pos 0) 23 (point_under_trial fs) in
        let B = padded (pos 0) 23 (best_point kept) in
        let N = padded (pos 0) 23 (map (λ (f : Frame). f.generator.nearest) fs) in
        ap (λ (zs : List ℤ). integers_behind (padded (pos 0) 23 zs ++ coordinates 23 0 (cond s.found n 0) s.best) (open_levels s)) trial_is
        ∙ ap (λ (zs : List ℤ). integers_behind (T ++ padded (pos 0) 23 zs) (open_levels s)) best_is
        ∙ ap (λ (l : List ℤ). T ++ B ++ l ++ column (pos 0) (λ f. f.waiting) (open_levels s)) (sym (level_column (pos 0) (λ (f : Frame). f.generator.nearest)))
        ∙ ap (λ (l : List ℤ). T ++ B ++ N ++ l) (sym (level_column (pos 0) (λ (f : Frame). f.waiting)))

-- ---- `write_walk`
module _ {n : ℕ} {s : Walk} {p : Block} (ready : WriteReady n s p) where
  abbrev low : ℕ
  low = above_lowest s

  abbrev end : ℕ
  end = cond s.found n 0

  pub few : s.count ≤ largest_dimension
  few = omega (arith, falling_room n s.nodes s.levels 0 s.count ready.falling, ready.small)

  pub low_few : low ≤ n
  low_few = omega (arith, (falling_between n s.nodes s.levels 0 s.count ready.falling (s.count - 1) (omega (arith, ready.some))).1)

  end_few : end ≤ n
  end_few = go s.found
    where
      go : (b : Bool) → cond b n 0 ≤ n
      go true = omega arith
      go false = omega arith

  -- the point
  pub point_size_lem : length (take 23 p.integers) ≡ 23
  point_size_lem = length-take-le 23 p.integers (omega (arith, ready.lengths.integers_length))

  pub point_ready : PlacesReady s.point low n (take 23 p.integers)
  point_ready = record { order = low_few; long = omega (arith, ready.point_length, ready.small); room = omega (arith, point_size_lem, ready.small) }

  abbrev T : List ℤ
  T = coordinates 23 low n s.point

  abbrev B : List ℤ
  B = coordinates 23 0 end s.best

  -- so many coordinates in all
  size_of : (low end : ℕ) (zs : List ℤ) → low ≤ end → end ≤ n → n ≤ length zs → length (coordinates 23 low end zs) ≡ 23
  size_of low end zs h g l =
      length_padded (pos 0) 23 (replicate low (pos 0) ++ places end low zs)
      (omega (arith, length-append (replicate low (pos 0)) (places end low zs), length-replicate low (pos 0), length-drop low (take end zs), length-take-le end zs (omega arith), ready.small))

  T_length : length T ≡ 23
  T_length = size_of low n s.point low_few (omega arith) (omega (arith, ready.point_length, ready.small))

  TB_length : length (T ++ B) ≡ 46
  TB_length = omega (arith, length-append T B, T_length, size_of 0 end s.best (omega arith) end_few (omega (arith, ready.best_length, ready.small)))

  module _ (point : List ℤ) (point_is : point ≡ coordinates (length (take 23 p.integers)) low n s.point) where
    abbrev first : List ℤ
    first = point ++ drop 23 p.integers

    first_is : first ≡ T ++ drop 23 p.integers
    first_is = ap (λ (l : List ℤ). l ++ drop 23 p.integers) (point_is ∙ ap (λ (k : ℕ). coordinates k low n s.point) point_size_lem)

    best_size : length (mid_of 23 23 first) ≡ 23
    best_size = part_size T p.integers first 23 23 first_is T_length (omega (arith, ready.lengths.integers_length))

    pub best_ready : (k : ℕ) → k ≡ end → PlacesReady s.best 0 k (mid_of 23 23 first)
    best_ready k e = record { order = omega arith; long = omega (arith, ready.best_length, ready.small, end_few); room = omega (arith, best_size, ready.small, end_few) }

    module _ (k : ℕ) (k_is : k ≡ end) (others : List ℤ) (others_are : others ≡ coordinates (length (mid_of 23 23 first)) 0 k s.best) where
      abbrev second : List ℤ
      second = put_mid 23 23 first others

      second_is : second ≡ T ++ B ++ drop 46 p.integers
      second_is = part_padded (pos 0) T p.integers first (replicate 0 (pos 0) ++ places end 0 s.best) others 23 23 first_is T_length (omega (arith, ready.lengths.integers_length)) (others_are ∙ ap (λ (j : ℕ). coordinates (length (mid_of 23 23 first)) 0 j s.best) k_is)

      pub second_length : length second ≡ 92
      second_length = ap length second_is ∙ length-append (T ++ B) (drop 46 p.integers) ∙ omega (arith, TB_length, length-drop 46 p.integers, ready.lengths.integers_length)

      second_front : take 46 second ≡ T ++ B
      second_front = ap (take 46) second_is ∙ take_at (T ++ B) (drop 46 p.integers) 46 TB_length

      pub walk_written : (reals : List Float) (integers : List ℤ) (counts : List ℕ) → reals ≡ reals_of (take 576 p.reals) s → integers ≡ integers_behind (take 46 second) (open_levels s) → counts ≡ counts_of n s → WalkWritten n s (take 576 p.reals) reals integers counts
      walk_written reals integers counts reals_is integers_is counts_is weights weights_length = record {
        reals_are = reals_is ∙ reals_are weights s (take 576 p.reals) n;
        integers_are = integers_is ∙ ap (λ (l : List ℤ). integers_behind l (open_levels s)) second_front ∙ integers_are weights s n weights_length ready.some (take 576 p.reals);
        counts_are = counts_is ∙ counts_are weights s (take 576 p.reals) n;
      }
