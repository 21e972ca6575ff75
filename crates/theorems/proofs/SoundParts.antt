-- A sound part holds a search that fits, whoever wrote it; and what a pickup writes into it is read again. Assumes nothing.
use mathlib.Core.Path.{◌≡◌, refl, sym, ap, ◌∙◌, subst}
use Prim.Native.Nat.{ℕ, zero, suc, ◌+◌, ◌*◌, ◌≤◌, ◌<◌}
use native.Mathlib.Nat.{mul-le-mul}
use native.Mathlib.Omega.{arith}
use mathlib.Core.Bool.{Bool, true, false, cond}
use mathlib.Core.List.{List, []}
use lib.ListN.{length, take, drop, length-drop}
use lib.Seq.{take-take, length-take-le, get_or-take}
use lib.IntN.{ℤ}
use lib.Ieee.{Float, nan}
use Rattle.lists.proofs.Segments.{part_front}
use Rattle.definitions.specs.Table.{Table, dimension, largest_budget}
use Rattle.definitions.specs.Nearest.{no_best, best}
use Rattle.definitions.specs.Machine.{Machine}
use Rattle.definitions.specs.Kept.{holds}
use Rattle.definitions.specs.Block.{Block, part_dimension, part_nodes, part_found, part_open, part_level, levels_rise, is_sound, part_table, part_target, part_frame, part_frames, part_machine, part_held, part_slot, written_walk}
use Rattle.definitions.proofs.Block.{frames_none, frames_more, Rises, rises, SoundCounts, sound_counts}
use Rattle.theorems.proofs.KeptWalks.{FrameFits, FramesFit, BestFits, WalkFits}
use Rattle.theorems.proofs.Written.{IsPart, WalkWritten, walk_part, walk_read}

-- doubles and integers of a part's lengths, and counts that pass the test
pub record SoundPart (p : Block) : Type 0 where
  pub reals_length : length p.reals ≡ 646
  pub integers_length : length p.integers ≡ 92
  pub sound : is_sound p.counts ≡ true

module _ (p : Block) (sp : SoundPart p) where
  abbrev counts : List ℕ
  counts = p.counts

  abbrev n : ℕ
  n = part_dimension counts

  abbrev t : Table
  t = part_table p

  pub passed : SoundCounts counts
  passed = sound_counts counts sp.sound

  -- its table and target have their lengths
  pub part_dimension_lem : dimension t ≡ n
  part_dimension_lem = length-take-le n p.reals (omega (arith, sp.reals_length, passed.small))

  square_most : n * n ≤ 529
  square_most = mul-le-mul passed.small passed.small

  -- so many places from one on lie within
  within : (start k : ℕ) → start + k ≤ 646 → length (take k (drop start p.reals)) ≡ k
  within start k l = length-take-le k (drop start p.reals) (omega (arith, length-drop start p.reals, sp.reals_length))

  pub part_square : length t.mu ≡ dimension t * dimension t
  part_square = within 23 (n * n) (omega (arith, square_most)) ∙ ap (λ (m : ℕ). m * m) (sym part_dimension_lem)

  pub part_target_lem : length (part_target p) ≡ dimension t
  part_target_lem = within 552 n (omega (arith, passed.small)) ∙ sym part_dimension_lem

  -- ---- its walk
  abbrev point : List ℤ
  point = take n p.integers

  point_length : length point ≡ n
  point_length = length-take-le n p.integers (omega (arith, sp.integers_length, passed.small))

  frames_fit : (k i low : ℕ) → levels_rise counts low i k ≡ true → FramesFit t (part_nodes counts) point low (part_frames p i k)
  frames_fit zero i low e = subst (FramesFit t (part_nodes counts) point low) (sym (frames_none p i)) tt
  frames_fit (suc k) i low e = subst (FramesFit t (part_nodes counts) point low) (sym (frames_more p i k)) (fit, frames_fit k (suc i) (suc (part_level counts i)) r.later)
    where
      r : Rises counts low i k
      r = rises counts low i k e

      fit : FrameFits t (part_nodes counts) point low (part_frame p i)
      fit = record {
        lowest = r.lowest;
        inside = subst (λ (m : ℕ). part_level counts i < m) (sym part_dimension_lem) r.inside;
        above_is = ap (λ (zs : List ℤ). drop (part_level counts i + 1) zs) (sym (ap (λ (m : ℕ). take m point) part_dimension_lem ∙ take-take n n p.integers (omega arith)));
        center_is = refl;
        weight_is = refl;
        emitted = refl;
        few = r.few_steps;
      }

  best_fits : (b : Bool) → BestFits t (cond b (best (take n (drop 23 p.integers))) no_best)
  best_fits true = length-take-le n (drop 23 p.integers) (omega (arith, length-drop 23 p.integers, sp.integers_length, passed.small)) ∙ sym part_dimension_lem
  best_fits false = tt

  pub part_fits : WalkFits t (part_machine p)
  part_fits = record {
    point = point;
    point_length = point_length ∙ sym part_dimension_lem;
    frames = frames_fit (part_open counts) 0 0 passed.levels;
    best_fits = best_fits (part_found counts);
  }

  -- ---- what a pickup writes
  module _ (s : Machine) (few : s.nodes ≤ largest_budget) (walk : WalkFits t s) (going : s.stack ≡ [] → ⊥) where
    abbrev front : List Float
    front = take 576 p.reals

    -- places in front
    in_front : (start k : ℕ) → start + k ≤ 576 → take k (drop start front) ≡ take k (drop start p.reals)
    in_front start k l = part_front 576 start k p.reals l (omega (arith, sp.reals_length))

    written : WalkWritten front t s
    written = record {
      front_length = length-take-le 576 p.reals (omega (arith, sp.reals_length));
      weights_there = ap (λ (m : ℕ). take m (drop 0 front)) part_dimension_lem ∙ in_front 0 n (omega (arith, passed.small));
      mu_there = ap (λ (m : ℕ). take (m * m) (drop 23 front)) part_dimension_lem ∙ in_front 23 (n * n) (omega (arith, square_most));
      small = omega (arith, part_dimension_lem, passed.small);
      few = few;
      walk = walk;
      going = going;
    }

    pub picked_part : IsPart (written_walk front (dimension t) s)
    picked_part = walk_part front t s written

    pub picked_read : part_slot (written_walk front (dimension t) s) ≡ holds (record { table = t; target = part_target p; radius = (part_held p).radius; walk = s })
    picked_read =
        walk_read front t s written
        ∙ (λ k. holds (record { table = t; target = (ap (λ (m : ℕ). take m (drop 552 front)) part_dimension_lem ∙ in_front 552 n (omega (arith, passed.small))) k; radius = get_or-take 576 p.reals 575 nan (omega arith) k; walk = s }))
