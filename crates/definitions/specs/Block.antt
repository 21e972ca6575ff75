-- The block of memory in which the caller keeps the eight names: a slice of doubles, one of integers and one of counts, each with a part for each name.
-- docs/SPECIFICATION.md, "The block". Definitions only.
use Rattle.std.specs.Prelude.{ℕ, zero, suc, ◌+◌, ◌-◌, ◌*◌, Bool, true, false, not, ◌&&◌, cond, List, [], ◌∷◌, ◌++◌, map, ltb, eqb, length, take, drop, get_or, replicate, ℤ, pos, Float}
use Rattle.std.proofs.Math.Dec.{leb}
use Rattle.std.specs.Float.{nan}
use Rattle.lists.specs.Places.{places}
use Rattle.definitions.specs.Table.{Table, table, dimension, weight, plus_zero, largest_dimension, largest_budget}
use Rattle.definitions.specs.Nearest.{Best, no_best, best}
use Rattle.definitions.specs.Machine.{Frame, Machine}
use Rattle.definitions.specs.Checks.{Verdict, length_check}
use Rattle.definitions.specs.Kept.{Held, Slot, free, holds}

-- the block, or the part of one name
pub record Block : Type 0 where
  pub reals : List Float
  pub integers : List ℤ
  pub counts : List ℕ

-- ---- the part of a name
-- Doubles: weights from place 0 on, mu from 23, target from 552, the radius 575, the standing radius 576; of the open levels, the lowest first, the partial sums
-- from 577, the centres from 600, what remained from 623. Integers: the point under trial from 0, the best from 23; of the open levels the nearest integers from
-- 46, the children that wait from 69. Counts: 0 is n, 1 the nodes, 2 whether there is a best, 3 how many levels are open; of these the levels from 4, the steps
-- from 27, whether the direction upward is closed from 50, and downward from 73.
abbrev pub reals_of_part : ℕ
reals_of_part = 646

abbrev pub integers_of_part : ℕ
integers_of_part = 92

abbrev pub counts_of_part : ℕ
counts_of_part = 96

-- so many from a place on
abbrev pub from : {A : Type 0} → ℕ → ℕ → List A → List A
from start n xs = take n (drop start xs)

abbrev pub nonzero : ℕ → Bool
nonzero k = not (eqb k 0)

-- ---- reading a part

-- by the counts alone
module _ (counts : List ℕ) where
  abbrev pub part_dimension : ℕ
  part_dimension = get_or counts 0 0

  abbrev pub part_nodes : ℕ
  part_nodes = get_or counts 1 0

  abbrev pub part_found : Bool
  part_found = nonzero (get_or counts 2 0)

  abbrev pub part_open : ℕ
  part_open = get_or counts 3 0

  -- of the i-th open level, the lowest being 0
  abbrev pub part_level : ℕ → ℕ
  part_level i = get_or counts (4 + i) 0

  abbrev pub part_step : ℕ → ℕ
  part_step i = get_or counts (27 + i) 0

  -- so many levels from the i-th on rise from `low`, stay below n, and none has made more steps than the nodes allow
  unfoldable pub levels_rise : ℕ → ℕ → ℕ → Bool
  levels_rise low i zero = true
  levels_rise low i (suc k) =
      let later = levels_rise (suc (part_level i)) (suc i) k in
      leb low (part_level i) && ltb (part_level i) part_dimension && leb (part_step i) (2 * part_nodes + 1) && later

  -- The soundness test: a search of at most 23 levels and 2^60 nodes that is not over. What passes it is run safely, whoever wrote it; zeros do not pass.
  unfoldable pub is_sound : Bool
  unfolding levels_rise
  is_sound = leb part_dimension largest_dimension && leb part_nodes largest_budget && leb 1 part_open && leb part_open part_dimension && levels_rise 0 0 part_open

module _ (p : Block) where
  abbrev pub part_table : Table
  part_table = let n = part_dimension p.counts in table (from 0 n p.reals) (from 23 (n * n) p.reals)

  abbrev pub part_target : List Float
  part_target = from 552 (part_dimension p.counts) p.reals

  abbrev pub part_frame : ℕ → Frame
  part_frame i = record {
    level = part_level p.counts i;
    above = places (part_dimension p.counts) (part_level p.counts i + 1) p.integers;
    partial = get_or p.reals (577 + i) nan;
    center = get_or p.reals (600 + i) nan;
    waiting = get_or p.integers (69 + i) (pos 0);
    generator = record {
      center = get_or p.reals (600 + i) nan;
      remaining = get_or p.reals (623 + i) nan;
      weight = weight part_table (part_level p.counts i);
      nearest = get_or p.integers (46 + i) (pos 0);
      step = part_step p.counts i;
      emitted_nearest = true;
      positive_done = nonzero (get_or p.counts (50 + i) 0);
      negative_done = nonzero (get_or p.counts (73 + i) 0);
    };
  }

  -- so many open levels from the i-th on
  unfoldable pub part_frames : ℕ → ℕ → List Frame
  part_frames i zero = []
  part_frames i (suc k) = part_frame i ∷ part_frames (suc i) k

  abbrev pub part_best : Best
  part_best = cond (part_found p.counts) (best (from 23 (part_dimension p.counts) p.integers)) no_best

  abbrev pub part_machine : Machine
  part_machine = record { stack = part_frames 0 (part_open p.counts); kept = part_best; standing = get_or p.reals 576 nan; nodes = part_nodes p.counts }

  abbrev pub part_held : Held
  part_held = record { table = part_table; target = part_target; radius = get_or p.reals 575 nan; walk = part_machine }

  -- what the name holds: nothing, if its part is not sound
  abbrev pub part_slot : Slot
  part_slot = cond (is_sound p.counts) (holds part_held) free

-- ---- writing a part

-- with fillers behind, so many in all
abbrev pub padded : {A : Type 0} → A → ℕ → List A → List A
padded filler n xs = xs ++ replicate (n - length xs) filler

abbrev pub flag : Bool → ℕ
flag b = cond b 1 0

-- a number of each open level, with zeros behind
abbrev pub level_reals : (Frame → Float) → List Frame → List Float
level_reals of fs = padded plus_zero 23 (map of fs)

abbrev pub level_integers : (Frame → ℤ) → List Frame → List ℤ
level_integers of fs = padded (pos 0) 23 (map of fs)

abbrev pub level_counts : (Frame → ℕ) → List Frame → List ℕ
level_counts of fs = padded 0 23 (map of fs)

-- the coordinates above the lowest open level, with zeros in the places below
abbrev pub point_under_trial : List Frame → List ℤ
point_under_trial [] = []
point_under_trial (f ∷ fs) = replicate (suc f.level) (pos 0) ++ f.above

abbrev pub best_point : Best → List ℤ
best_point no_best = []
best_point (best zs) = zs

abbrev pub has_best : Best → Bool
has_best no_best = false
has_best (best zs) = true

-- the first 576 doubles: what stays of a search as long as it is kept
abbrev pub written_table : Table → List Float → Float → List Float
written_table t target R = padded plus_zero 23 t.weights ++ padded plus_zero 529 t.mu ++ padded plus_zero 23 target ++ R ∷ []

-- the walk of a search of n levels, behind these doubles
abbrev pub written_walk : List Float → ℕ → Machine → Block
written_walk front n s =
    let fs = s.stack in
    record {
      reals =
          front
          ++ (s.standing ∷ [])
          ++ level_reals (λ f. f.partial) fs
          ++ level_reals (λ f. f.center) fs
          ++ level_reals (λ f. f.generator.remaining) fs;
      integers =
          padded (pos 0) 23 (point_under_trial fs)
          ++ padded (pos 0) 23 (best_point s.kept)
          ++ level_integers (λ f. f.generator.nearest) fs
          ++ level_integers (λ f. f.waiting) fs;
      counts =
          (n ∷ s.nodes ∷ flag (has_best s.kept) ∷ length fs ∷ [])
          ++ level_counts (λ f. f.level) fs
          ++ level_counts (λ f. f.generator.step) fs
          ++ level_counts (λ f. flag f.generator.positive_done) fs
          ++ level_counts (λ f. flag f.generator.negative_done) fs;
    }

-- a search that is kept for the first time
abbrev pub written_search : Held → Block
written_search h = written_walk (written_table h.table h.target h.radius) (dimension h.table) h.walk

-- an empty name
abbrev pub zero_part : Block
zero_part = record { reals = replicate reals_of_part plus_zero; integers = replicate integers_of_part (pos 0); counts = replicate counts_of_part 0 }

-- a part whose search was picked up: table, target and radius stay as they lie there
abbrev pub rewritten : Block → Slot → Block
rewritten p free = zero_part
rewritten p (holds h) = written_walk (take 576 p.reals) (dimension h.table) h.walk

-- ---- the block
abbrev pub part_of : Block → ℕ → Block
part_of b name = record {
  reals = from ((name - 1) * reals_of_part) reals_of_part b.reals;
  integers = from ((name - 1) * integers_of_part) integers_of_part b.integers;
  counts = from ((name - 1) * counts_of_part) counts_of_part b.counts;
}

-- what a name holds
abbrev pub slot_in : Block → ℕ → Slot
slot_in b name = part_slot (part_of b name)

-- a list with another in the place of so many from a place on
abbrev pub replaced : {A : Type 0} → ℕ → ℕ → List A → List A → List A
replaced start n xs new = take start xs ++ new ++ drop (start + n) xs

-- a name's part is overwritten
abbrev pub with_part : Block → ℕ → Block → Block
with_part b name p = record {
  reals = replaced ((name - 1) * reals_of_part) reals_of_part b.reals p.reals;
  integers = replaced ((name - 1) * integers_of_part) integers_of_part b.integers p.integers;
  counts = replaced ((name - 1) * counts_of_part) counts_of_part b.counts p.counts;
}

-- 6: each slice must have the length of eight parts
abbrev pub block_checks : Block → List Verdict
block_checks b =
    length_check (8 * reals_of_part) (length b.reals)
    ∷ length_check (8 * integers_of_part) (length b.integers)
    ∷ length_check (8 * counts_of_part) (length b.counts)
    ∷ []
