-- The open levels of a part as those of a walk. A part has the lowest first, a walk has it last. Definitions only.
use Rattle.std.specs.Prelude.{◌≡◌, cond, List, [], ◌∷◌, ◌++◌, map, ℕ, zero, suc, ◌+◌, ◌-◌, ◌≤◌, ◌<◌, length, get_or, replicate, ℤ, pos, Float}
use Rattle.std.specs.Float.{nan}
use Rattle.lists.specs.Places.{places}
use Rattle.definitions.specs.Table.{plus_zero, largest_dimension}
use Rattle.definitions.specs.Block.{Block, nonzero, part_open, part_level, part_step, padded, flag}
use Rattle.resume.specs.declared.OpenLevel.{OpenLevel}
use Rattle.resume.specs.declared.Walk.{Walk}
use Rattle.resume.specs.View.{level_at}

-- the i-th open level of a part, the lowest being 0
abbrev pub level_in : Block → ℕ → OpenLevel
level_in p i = record {
  level = part_level p.counts i;
  partial = get_or p.reals (577 + i) nan;
  center = get_or p.reals (600 + i) nan;
  remaining = get_or p.reals (623 + i) nan;
  nearest = get_or p.integers (46 + i) (pos 0);
  step = part_step p.counts i;
  waiting = get_or p.integers (69 + i) (pos 0);
  positive_done = nonzero (get_or p.counts (50 + i) 0);
  negative_done = nonzero (get_or p.counts (73 + i) 0);
}

-- `read_levels`: the i-th from the end
pub record LevelsRead (p : Block) (levels : List OpenLevel) : Type 0 where
  pub levels_length : length levels ≡ largest_dimension
  pub each : (i : ℕ) → i < part_open p.counts → level_at levels i ≡ level_in p (part_open p.counts - 1 - i)

-- the first so many levels of a walk, backwards
unfoldable pub lowest_first : List OpenLevel → ℕ → List OpenLevel
lowest_first levels zero = []
lowest_first levels (suc i) = level_at levels i ∷ lowest_first levels i

abbrev pub open_levels : Walk → List OpenLevel
open_levels s = lowest_first s.levels s.count

-- a number of each level, with fillers behind
abbrev pub column : {A : Type 0} → A → (OpenLevel → A) → List OpenLevel → List A
column filler of levels = padded filler largest_dimension (map of levels)

-- ---- the slices of a walk
-- the columns of the doubles, behind others
abbrev pub reals_behind : List Float → List OpenLevel → List Float
reals_behind front fs = front ++ column plus_zero (λ f. f.partial) fs ++ column plus_zero (λ f. f.center) fs ++ column plus_zero (λ f. f.remaining) fs

-- of the integers
abbrev pub integers_behind : List ℤ → List OpenLevel → List ℤ
integers_behind front fs = front ++ column (pos 0) (λ f. f.nearest) fs ++ column (pos 0) (λ f. f.waiting) fs

-- of the counts
abbrev pub counts_behind : List ℕ → List OpenLevel → List ℕ
counts_behind front fs = front ++ column 0 (λ f. f.level) fs ++ column 0 (λ f. f.step) fs ++ column 0 (λ f. flag f.positive_done) fs ++ column 0 (λ f. flag f.negative_done) fs

-- the first level above the lowest that is open
abbrev pub above_lowest : Walk → ℕ
above_lowest s = (level_at s.levels (s.count - 1)).level + 1

-- the coordinates from one level to another, with zeros around, so many in all
abbrev pub coordinates : ℕ → ℕ → ℕ → List ℤ → List ℤ
coordinates size low end point = padded (pos 0) size (replicate low (pos 0) ++ places end low point)

abbrev pub reals_of : List Float → Walk → List Float
reals_of front s = reals_behind (front ++ s.radius ∷ []) (open_levels s)

abbrev pub integers_of : ℕ → Walk → List ℤ
integers_of n s = integers_behind (coordinates largest_dimension (above_lowest s) n s.point ++ coordinates largest_dimension 0 (cond s.found n 0) s.best) (open_levels s)

abbrev pub counts_of : ℕ → Walk → List ℕ
counts_of n s = counts_behind (n ∷ s.nodes ∷ flag s.found ∷ s.count ∷ []) (open_levels s)

-- a slice of a size for the columns of a walk
pub record ColumnsReady {A : Type 0} (size : ℕ) (s : Walk) (to : List A) : Type 0 where
  pub few : s.count ≤ largest_dimension
  pub to_length : length to ≡ size

-- `copy_places`
pub record PlacesReady (from : List ℤ) (low end : ℕ) (to : List ℤ) : Type 0 where
  pub order : low ≤ end
  pub long : end ≤ length from
  pub room : end ≤ length to
