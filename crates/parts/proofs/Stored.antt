-- The loops that write the open levels: before the i-th turn the first i levels stand in their columns. Assumes nothing.
use mathlib.Core.Path.{◌≡◌, refl, sym, ap, ◌∙◌}
use mathlib.Core.List.{List, [], ◌∷◌, ◌++◌}
use Prim.Native.Nat.{ℕ, ◌+◌, ◌-◌, ◌≤◌, ◌<◌}
use native.Mathlib.Omega.{arith}
use lib.ListN.{length, get_or, set, take, replicate, length-set, length-append, length-replicate}
use lib.Seq.{set_at, append_snoc, take_at, take_all, length-take-le}
use lib.IntN.{ℤ, pos}
use lib.Ieee.{Float}
use borrow.Rule.Slice.PartMut.{mid_of, put_mid}
use Rattle.lists.proofs.Parts.{zeros_split, tail_cleared}
use Rattle.definitions.specs.Table.{plus_zero, largest_dimension}
use Rattle.definitions.specs.Block.{flag}
use Rattle.resume.specs.declared.OpenLevel.{OpenLevel}
use Rattle.resume.specs.declared.Walk.{Walk}
use Rattle.resume.specs.View.{no_level, level_at}
use Rattle.parts.specs.Levels.{open_levels, reals_behind, integers_behind, counts_behind}
use Rattle.parts.proofs.Backwards.{lowest_length, lowest_at, reals_more, integers_more, counts_more}

pub record Stored {A : Type 0} (behind : List A → List OpenLevel → List A) (at size : ℕ) (front : List A) (s : Walk) (to : List A) (i : ℕ) : Type 0 where
  pub bounded : i ≤ s.count
  pub front_length : length front ≡ at
  pub same_length : length to ≡ size
  pub is : to ≡ behind front (take i (open_levels s))

count_is : (s : Walk) → length (open_levels s) ≡ s.count
count_is s = lowest_length s.levels s.count

-- where a loop begins, with its front being what stands there
pub stored_none : {A : Type 0} (behind : List A → List OpenLevel → List A) (at size : ℕ) (front rest : List A) (s : Walk) (to : List A) → length front ≡ at → length to ≡ size → to ≡ front ++ rest → to ≡ behind front [] → Stored behind at size (take at to) s to 0
stored_none behind at size front rest s to e l start is = record {
  bounded = omega arith;
  front_length = ap length front_is ∙ e;
  same_length = l;
  is = is ∙ ap (λ (xs : List _). behind xs []) (sym front_is);
}
  where
    front_is : take at to ≡ front
    front_is = ap (take at) start ∙ take_at front rest at e

-- and ends
pub stored_all : {A : Type 0} {behind : List A → List OpenLevel → List A} {at size : ℕ} {front : List A} {s : Walk} {to : List A} {i : ℕ} → Stored behind at size front s to i → s.count ≤ i → to ≡ behind front (open_levels s)
stored_all {A} {behind} {at} {size} {front} {s} {to} {i} c h = c.is ∙ ap (behind front) (take_all i (open_levels s) (omega (arith, count_is s)))

-- ---- a turn
module _ (s : Walk) (i : ℕ) (few : s.count ≤ largest_dimension) (more : i < s.count) where
  abbrev fs : List OpenLevel
  fs = open_levels s

  -- the level that is written
  abbrev f : OpenLevel
  f = level_at s.levels (s.count - 1 - i)

  few_levels : length fs ≤ largest_dimension
  few_levels = omega (arith, count_is s)

  more_levels : i < length fs
  more_levels = omega (arith, count_is s)

  level_is : get_or fs i no_level ≡ f
  level_is = lowest_at s.levels s.count i more

  pub reals_next : {front to : List Float} → Stored reals_behind 577 646 front s to i → Stored reals_behind 577 646 front s (set (set (set to (577 + i) f.partial) (600 + i) f.center) (623 + i) f.remaining) (i + 1)
  reals_next {front} {to} c = record {
    bounded = omega arith;
    front_length = c.front_length;
    same_length =
        length-set (set (set to (577 + i) f.partial) (600 + i) f.center) (623 + i) f.remaining
        ∙ length-set (set to (577 + i) f.partial) (600 + i) f.center
        ∙ length-set to (577 + i) f.partial
        ∙ c.same_length;
    is =
        ap (λ (l : List Float). set (set (set l (577 + i) f.partial) (600 + i) f.center) (623 + i) f.remaining) c.is
        ∙ ap (λ (g : OpenLevel). set (set (set (reals_behind front (take i fs)) (577 + i) g.partial) (600 + i) g.center) (623 + i) g.remaining) (sym level_is)
        ∙ reals_more fs few_levels i more_levels front c.front_length;
  }

  pub integers_next : {front to : List ℤ} → Stored integers_behind 46 92 front s to i → {x y : ℤ} → x ≡ f.nearest → y ≡ f.waiting → Stored integers_behind 46 92 front s (set (set to (46 + i) x) (69 + i) y) (i + 1)
  integers_next {front} {to} c {x} {y} p q = record {
    bounded = omega arith;
    front_length = c.front_length;
    same_length = length-set (set to (46 + i) x) (69 + i) y ∙ length-set to (46 + i) x ∙ c.same_length;
    is =
        ap (λ (l : List ℤ). set (set l (46 + i) x) (69 + i) y) c.is
        ∙ ap (λ (z : ℤ). set (set (integers_behind front (take i fs)) (46 + i) z) (69 + i) y) p
        ∙ ap (λ (z : ℤ). set (set (integers_behind front (take i fs)) (46 + i) f.nearest) (69 + i) z) q
        ∙ ap (λ (g : OpenLevel). set (set (integers_behind front (take i fs)) (46 + i) g.nearest) (69 + i) g.waiting) (sym level_is)
        ∙ integers_more fs few_levels i more_levels front c.front_length;
  }

  pub counts_next : {front to : List ℕ} → Stored counts_behind 4 96 front s to i → {u d : ℕ} → u ≡ flag f.positive_done → d ≡ flag f.negative_done → Stored counts_behind 4 96 front s (set (set (set (set to (4 + i) f.level) (27 + i) f.step) (50 + i) u) (73 + i) d) (i + 1)
  counts_next {front} {to} c {u} {d} p q = record {
    bounded = omega arith;
    front_length = c.front_length;
    same_length =
        length-set (set (set (set to (4 + i) f.level) (27 + i) f.step) (50 + i) u) (73 + i) d
        ∙ length-set (set (set to (4 + i) f.level) (27 + i) f.step) (50 + i) u
        ∙ length-set (set to (4 + i) f.level) (27 + i) f.step
        ∙ length-set to (4 + i) f.level
        ∙ c.same_length;
    is =
        ap (λ (l : List ℕ). four l f.level f.step u d) c.is
        ∙ ap (λ (k : ℕ). four (counts_behind front (take i fs)) f.level f.step k d) p
        ∙ ap (four (counts_behind front (take i fs)) f.level f.step (flag f.positive_done)) q
        ∙ ap (λ (g : OpenLevel). four (counts_behind front (take i fs)) g.level g.step (flag g.positive_done) (flag g.negative_done)) (sym level_is)
        ∙ counts_more fs few_levels i more_levels front c.front_length;
  }
    where
      four : List ℕ → ℕ → ℕ → ℕ → ℕ → List ℕ
      four l a b u d = set (set (set (set l (4 + i) a) (27 + i) b) (50 + i) u) (73 + i) d

-- ---- where the loops begin
module _ (old zeros : List Float) (k : ℕ) (old_length : length old ≡ 646) (k_is : k ≡ length old - 576) (cleared : zeros ≡ replicate (length (mid_of 576 k old)) plus_zero) (radius : Float) where
  abbrev real_front : List Float
  real_front = take 576 old ++ radius ∷ []

  abbrev reals₀ : List Float
  reals₀ = set (put_mid 576 k old zeros) 576 radius

  front_576 : length (take 576 old) ≡ 576
  front_576 = length-take-le 576 old (omega (arith, old_length))

  real_front_length : length real_front ≡ 577
  real_front_length = length-append (take 576 old) (radius ∷ []) ∙ omega (arith, front_576)

  reals_are : reals₀ ≡ real_front ++ replicate 69 plus_zero
  reals_are =
      ap (λ (l : List Float). set l 576 radius) (tail_cleared plus_zero old zeros 576 k 70 (sym old_length) k_is cleared)
      ∙ set_at (take 576 old) plus_zero (replicate 69 plus_zero) radius 576 front_576
      ∙ sym (append_snoc (take 576 old) radius (replicate 69 plus_zero))

  pub reals_begin : (s : Walk) → Stored reals_behind 577 646 (take 577 reals₀) s reals₀ 0
  reals_begin s =
      stored_none reals_behind 577 646 real_front (replicate 69 plus_zero) s reals₀ real_front_length
      (ap length reals_are ∙ length-append real_front (replicate 69 plus_zero) ∙ omega (arith, real_front_length, length-replicate 69 plus_zero))
      reals_are
      (reals_are ∙ zeros_split plus_zero real_front 23 46 ∙ zeros_split plus_zero (real_front ++ replicate 23 plus_zero) 23 23)

  pub reals_front : take 577 reals₀ ≡ real_front
  reals_front = ap (take 577) reals_are ∙ take_at real_front (replicate 69 plus_zero) 577 real_front_length

module _ (old zeros : List ℤ) (k : ℕ) (old_length : length old ≡ 92) (k_is : k ≡ length old - 46) (cleared : zeros ≡ replicate (length (mid_of 46 k old)) (pos 0)) where
  abbrev integers₀ : List ℤ
  integers₀ = put_mid 46 k old zeros

  front_46 : length (take 46 old) ≡ 46
  front_46 = length-take-le 46 old (omega (arith, old_length))

  integers_are : integers₀ ≡ take 46 old ++ replicate 46 (pos 0)
  integers_are = tail_cleared (pos 0) old zeros 46 k 46 (sym old_length) k_is cleared

  pub integers_begin : (s : Walk) → Stored integers_behind 46 92 (take 46 integers₀) s integers₀ 0
  integers_begin s =
      stored_none integers_behind 46 92 (take 46 old) (replicate 46 (pos 0)) s integers₀ front_46
      (ap length integers_are ∙ length-append (take 46 old) (replicate 46 (pos 0)) ∙ omega (arith, front_46, length-replicate 46 (pos 0)))
      integers_are
      (integers_are ∙ zeros_split (pos 0) (take 46 old) 23 23)

  pub integers_front : take 46 integers₀ ≡ take 46 old
  integers_front = ap (take 46) integers_are ∙ take_at (take 46 old) (replicate 46 (pos 0)) 46 front_46

module _ (old zeros : List ℕ) (old_length : length old ≡ 96) (cleared : zeros ≡ replicate (length old) 0) (n nodes found count : ℕ) where
  abbrev counts₀ : List ℕ
  counts₀ = set (set (set (set zeros 0 n) 1 nodes) 2 found) 3 count

  abbrev count_front : List ℕ
  count_front = n ∷ nodes ∷ found ∷ count ∷ []

  counts_are : counts₀ ≡ count_front ++ replicate 92 0
  counts_are = ap (λ (l : List ℕ). set (set (set (set l 0 n) 1 nodes) 2 found) 3 count) (cleared ∙ ap (λ (k : ℕ). replicate k 0) old_length)

  pub counts_begin : (s : Walk) → Stored counts_behind 4 96 (take 4 counts₀) s counts₀ 0
  counts_begin s =
      stored_none counts_behind 4 96 count_front (replicate 92 0) s counts₀ refl
      (ap length counts_are ∙ length-append count_front (replicate 92 0) ∙ omega (arith, length-replicate {A = ℕ} 92 0))
      counts_are
      (counts_are ∙ zeros_split 0 count_front 23 69 ∙ zeros_split 0 (count_front ++ replicate 23 0) 23 46 ∙ zeros_split 0 (count_front ++ replicate 23 0 ++ replicate 23 0) 23 23)

  pub counts_front : take 4 counts₀ ≡ count_front
  counts_front = ap (take 4) counts_are
