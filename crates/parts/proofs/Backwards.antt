-- The open levels of a walk, written level by level into columns with zeros behind. Assumes nothing.
use mathlib.Core.Path.{◌≡◌, refl, sym, ap, ◌∙◌}
use mathlib.Core.List.{List, [], ◌∷◌, ◌++◌, map}
use Prim.Native.Nat.{ℕ, zero, suc, ◌+◌, ◌-◌, ◌≤◌, ◌<◌}
use native.Mathlib.Nat.{not-suc-le-zero, le_of_suc-le-suc}
use native.Mathlib.Omega.{arith}
use lib.ListN.{length, get_or, set, take, length-append}
use lib.Seq.{set-append_left}
use lib.IntN.{ℤ, pos}
use lib.Ieee.{Float}
use Rattle.lists.proofs.Segments.{length_padded, mapped_more, mapped_length}
use Rattle.lists.proofs.Parts.{set_right, padded_more}
use Rattle.definitions.specs.Table.{plus_zero, largest_dimension}
use Rattle.definitions.specs.Block.{padded, flag}
use Rattle.resume.specs.declared.OpenLevel.{OpenLevel}
use Rattle.resume.specs.View.{no_level, level_at}
use Rattle.parts.specs.Levels.{lowest_first, column, reals_behind, integers_behind, counts_behind}

-- ---- the levels backwards
module _ (levels : List OpenLevel) where
  pub lowest_none : lowest_first levels 0 ≡ []
  unfolding lowest_first
  lowest_none = refl

  pub lowest_more : (k : ℕ) → lowest_first levels (suc k) ≡ level_at levels k ∷ lowest_first levels k
  unfolding lowest_first
  lowest_more k = refl

  pub lowest_length : (k : ℕ) → length (lowest_first levels k) ≡ k
  unfolding lowest_first
  lowest_length zero = refl
  lowest_length (suc k) = ap suc (lowest_length k)

  pub lowest_at : (k i : ℕ) → i < k → get_or (lowest_first levels k) i no_level ≡ level_at levels (k - 1 - i)
  unfolding lowest_first
  lowest_at zero i h = absurd (not-suc-le-zero h)
  lowest_at (suc k) zero h = ap (level_at levels) (last k)
    where
      last : (k : ℕ) → k ≡ suc k - 1 - 0
      last k = omega arith
  lowest_at (suc k) (suc i) h = lowest_at k i (le_of_suc-le-suc h) ∙ ap (level_at levels) (earlier k)
    where
      earlier : (k : ℕ) → k - 1 - i ≡ suc k - 1 - suc i
      earlier k = omega arith

-- ---- columns of the first i levels
module _ (fs : List OpenLevel) (few : length fs ≤ largest_dimension) where
  column_length : {A : Type 0} (z : A) (f : OpenLevel → A) (i : ℕ) → i ≤ length fs → length (column z f (take i fs)) ≡ 23
  column_length z f i h = length_padded z 23 (map f (take i fs)) (omega (arith, mapped_length f fs i h))

  module _ (i : ℕ) (more : i < length fs) where
    abbrev level : OpenLevel
    level = get_or fs i no_level

    -- one level more, in the last column
    column_more : {A : Type 0} (z : A) (f : OpenLevel → A) (front : List A) (at : ℕ) → length front ≡ at → set (front ++ column z f (take i fs)) (at + i) (f level) ≡ front ++ column z f (take (i + 1) fs)
    column_more {A} z f front at e =
        set_right front (column z f (take i fs)) at i (f level) e (omega (arith, column_length z f i (omega arith)))
        ∙ ap (λ (l : List A). front ++ l) (
        padded_more z 23 (map f (take i fs)) i (f level) (mapped_length f fs i (omega arith)) (omega arith)
        ∙ ap (padded z 23) (sym (mapped_more f fs i no_level more))
        )

    -- in a column before it
    before_last : {A : Type 0} (z : A) (f : OpenLevel → A) (xs ys : List A) (at : ℕ) (x : A) → at + 23 ≤ length xs → set xs (at + i) x ≡ ys → set (xs ++ column z f (take i fs)) (at + i) x ≡ ys ++ column z f (take i fs)
    before_last {A} z f xs ys at x h e =
        set-append_left xs (column z f (take i fs)) (at + i) x (omega arith)
        ∙ ap (λ (l : List A). l ++ column z f (take i fs)) e

    behind : {A : Type 0} (z : A) (f : OpenLevel → A) (xs : List A) (at k : ℕ) → length xs ≡ at → k ≤ length fs → length (xs ++ column z f (take k fs)) ≡ at + 23
    behind z f xs at k e h = length-append xs (column z f (take k fs)) ∙ omega (arith, column_length z f k h)

-- ---- the doubles, the integers, the counts
module _ (fs : List OpenLevel) (few : length fs ≤ largest_dimension) (i : ℕ) (more : i < length fs) where
  abbrev f : OpenLevel
  f = get_or fs i no_level

  abbrev now : List OpenLevel
  now = take i fs

  abbrev next : List OpenLevel
  next = take (i + 1) fs

  module _ (front : List Float) (Front-length : length front ≡ 577) where
    abbrev P : List OpenLevel → List Float
    P = column plus_zero (λ f. f.partial)

    abbrev C : List OpenLevel → List Float
    C = column plus_zero (λ f. f.center)

    abbrev R : List OpenLevel → List Float
    R = column plus_zero (λ f. f.remaining)

    P_length : (k : ℕ) → k ≤ length fs → length (front ++ P (take k fs)) ≡ 600
    P_length k h = behind fs few i more plus_zero (λ f. f.partial) front 577 k Front-length h

    PC_length : (k l : ℕ) → k ≤ length fs → l ≤ length fs → length (front ++ P (take k fs) ++ C (take l fs)) ≡ 623
    PC_length k l h g = behind fs few i more plus_zero (λ f. f.center) (front ++ P (take k fs)) 600 l (P_length k h) g

    pub reals_more : set (set (set (reals_behind front now) (577 + i) f.partial) (600 + i) f.center) (623 + i) f.remaining ≡ reals_behind front next
    reals_more =
        ap (λ (l : List Float). set (set l (600 + i) f.center) (623 + i) f.remaining) (
        before_last fs few i more plus_zero (λ f. f.remaining) (front ++ P now ++ C now) (front ++ P next ++ C now) 577 f.partial (omega (arith, PC_length i i (omega arith) (omega arith)))
        (before_last fs few i more plus_zero (λ f. f.center) (front ++ P now) (front ++ P next) 577 f.partial (omega (arith, P_length i (omega arith)))
        (column_more fs few i more plus_zero (λ f. f.partial) front 577 Front-length))
        )
        ∙ ap (λ (l : List Float). set l (623 + i) f.remaining) (
        before_last fs few i more plus_zero (λ f. f.remaining) (front ++ P next ++ C now) (front ++ P next ++ C next) 600 f.center (omega (arith, PC_length (i + 1) i (omega arith) (omega arith)))
        (column_more fs few i more plus_zero (λ f. f.center) (front ++ P next) 600 (P_length (i + 1) (omega arith)))
        )
        ∙ column_more fs few i more plus_zero (λ f. f.remaining) (front ++ P next ++ C next) 623 (PC_length (i + 1) (i + 1) (omega arith) (omega arith))

  module _ (front : List ℤ) (Front-length : length front ≡ 46) where
    abbrev N : List OpenLevel → List ℤ
    N = column (pos 0) (λ f. f.nearest)

    N_length : (k : ℕ) → k ≤ length fs → length (front ++ N (take k fs)) ≡ 69
    N_length k h = behind fs few i more (pos 0) (λ f. f.nearest) front 46 k Front-length h

    pub integers_more : set (set (integers_behind front now) (46 + i) f.nearest) (69 + i) f.waiting ≡ integers_behind front next
    integers_more =
        ap (λ (l : List ℤ). set l (69 + i) f.waiting) (
        before_last fs few i more (pos 0) (λ f. f.waiting) (front ++ N now) (front ++ N next) 46 f.nearest (omega (arith, N_length i (omega arith)))
        (column_more fs few i more (pos 0) (λ f. f.nearest) front 46 Front-length)
        )
        ∙ column_more fs few i more (pos 0) (λ f. f.waiting) (front ++ N next) 69 (N_length (i + 1) (omega arith))

  module _ (front : List ℕ) (Front-length : length front ≡ 4) where
    abbrev up : OpenLevel → ℕ
    up f = flag f.positive_done

    abbrev down : OpenLevel → ℕ
    down f = flag f.negative_done

    abbrev L : List OpenLevel → List ℕ
    L = column 0 (λ f. f.level)

    abbrev S : List OpenLevel → List ℕ
    S = column 0 (λ f. f.step)

    abbrev U : List OpenLevel → List ℕ
    U = column 0 up

    L_length : (k : ℕ) → k ≤ length fs → length (front ++ L (take k fs)) ≡ 27
    L_length k h = behind fs few i more 0 (λ f. f.level) front 4 k Front-length h

    LS_length : (k l : ℕ) → k ≤ length fs → l ≤ length fs → length (front ++ L (take k fs) ++ S (take l fs)) ≡ 50
    LS_length k l h g = behind fs few i more 0 (λ f. f.step) (front ++ L (take k fs)) 27 l (L_length k h) g

    LSU_length : (k l m : ℕ) → k ≤ length fs → l ≤ length fs → m ≤ length fs → length (front ++ L (take k fs) ++ S (take l fs) ++ U (take m fs)) ≡ 73
    LSU_length k l m h g j = behind fs few i more 0 up (front ++ L (take k fs) ++ S (take l fs)) 50 m (LS_length k l h g) j

    pub counts_more : set (set (set (set (counts_behind front now) (4 + i) f.level) (27 + i) f.step) (50 + i) (up f)) (73 + i) (down f) ≡ counts_behind front next
    counts_more =
        ap (λ (l : List ℕ). set (set (set l (27 + i) f.step) (50 + i) (up f)) (73 + i) (down f)) (
        before_last fs few i more 0 down (front ++ L now ++ S now ++ U now) (front ++ L next ++ S now ++ U now) 4 f.level (omega (arith, LSU_length i i i (omega arith) (omega arith) (omega arith)))
        (before_last fs few i more 0 up (front ++ L now ++ S now) (front ++ L next ++ S now) 4 f.level (omega (arith, LS_length i i (omega arith) (omega arith)))
        (before_last fs few i more 0 (λ f. f.step) (front ++ L now) (front ++ L next) 4 f.level (omega (arith, L_length i (omega arith)))
        (column_more fs few i more 0 (λ f. f.level) front 4 Front-length)))
        )
        ∙ ap (λ (l : List ℕ). set (set l (50 + i) (up f)) (73 + i) (down f)) (
        before_last fs few i more 0 down (front ++ L next ++ S now ++ U now) (front ++ L next ++ S next ++ U now) 27 f.step (omega (arith, LSU_length (i + 1) i i (omega arith) (omega arith) (omega arith)))
        (before_last fs few i more 0 up (front ++ L next ++ S now) (front ++ L next ++ S next) 27 f.step (omega (arith, LS_length (i + 1) i (omega arith) (omega arith)))
        (column_more fs few i more 0 (λ f. f.step) (front ++ L next) 27 (L_length (i + 1) (omega arith))))
        )
        ∙ ap (λ (l : List ℕ). set l (73 + i) (down f)) (
        before_last fs few i more 0 down (front ++ L next ++ S next ++ U now) (front ++ L next ++ S next ++ U next) 50 (up f) (omega (arith, LSU_length (i + 1) (i + 1) i (omega arith) (omega arith) (omega arith)))
        (column_more fs few i more 0 up (front ++ L next ++ S next) 50 (LS_length (i + 1) (i + 1) (omega arith) (omega arith)))
        )
        ∙ column_more fs few i more 0 down (front ++ L next ++ S next ++ U next) 73 (LSU_length (i + 1) (i + 1) (i + 1) (omega arith) (omega arith) (omega arith))
