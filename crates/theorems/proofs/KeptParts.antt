-- A search that is kept for the first time is read again from its part, and zeros are an empty name. Assumes nothing.
use mathlib.Core.Path.{◌≡◌, refl, sym, ◌∙◌, subst}
use Prim.Native.Nat.{ℕ, ◌+◌, ◌-◌, ◌*◌, ◌≤◌}
use native.Mathlib.Nat.{mul-le-mul}
use native.Mathlib.Omega.{arith}
use mathlib.Core.List.{List, [], ◌∷◌, ◌++◌}
use lib.ListN.{length, take, drop, replicate, length-append, length-replicate}
use lib.IntN.{pos}
use lib.Seq.{take_at, get_or_at}
use lib.Ieee.{Float, nan}
use Rattle.lists.proofs.Segments.{part_left, part_right, length_padded}
use Rattle.definitions.specs.Table.{dimension, plus_zero, largest_budget}
use Rattle.definitions.specs.Kept.{Held, free, holds}
use Rattle.definitions.specs.Block.{is_sound, part_slot, padded, written_table, written_search, zero_part}
use Rattle.definitions.proofs.Block.{table_length}
use Rattle.theorems.proofs.KeptWalks.{WalkFits}
use Rattle.theorems.proofs.Written.{IsPart, WalkWritten, walk_part, walk_read}

-- ---- a search that is kept for the first time: it has passed its checks, and is not over
pub record HeldFits (h : Held) : Type 0 where
  pub small : dimension h.table ≤ 23
  pub square : length h.table.mu ≡ dimension h.table * dimension h.table
  pub target_length : length h.target ≡ dimension h.table
  pub few : h.walk.nodes ≤ largest_budget
  pub walk : WalkFits h.table h.walk
  pub going : h.walk.stack ≡ [] → ⊥

module _ (h : Held) (fits : HeldFits h) where
  abbrev n : ℕ
  n = dimension h.table

  abbrev front : List Float
  front = written_table h.table h.target h.radius

  abbrev W : List Float
  W = padded plus_zero 23 h.table.weights

  abbrev M : List Float
  M = padded plus_zero 529 h.table.mu

  abbrev X : List Float
  X = padded plus_zero 23 h.target

  square_few : length h.table.mu ≤ 529
  square_few = subst (λ (k : ℕ). k ≤ 529) (sym fits.square) (mul-le-mul fits.small fits.small)

  W_length : length W ≡ 23
  W_length = length_padded plus_zero 23 h.table.weights fits.small

  WM_length : length (W ++ M) ≡ 552
  WM_length = omega (arith, length-append W M, W_length, length_padded plus_zero 529 h.table.mu square_few)

  WMX_length : length (W ++ M ++ X) ≡ 575
  WMX_length = omega (arith, length-append (W ++ M) X, WM_length, length_padded plus_zero 23 h.target (omega (arith, fits.target_length, fits.small)))

  written : WalkWritten front h.table h.walk
  written = record {
    front_length = table_length h.table h.target h.radius fits.small fits.square fits.target_length;
    weights_there =
        part_left 0 n (W ++ M ++ X) (h.radius ∷ []) (omega (arith, WMX_length, fits.small))
        ∙ part_left 0 n (W ++ M) X (omega (arith, WM_length, fits.small))
        ∙ part_left 0 n W M (omega (arith, W_length, fits.small))
        ∙ take_at h.table.weights (replicate (23 - n) plus_zero) n refl;
    mu_there =
        part_left 23 (n * n) (W ++ M ++ X) (h.radius ∷ []) (within (n * n) square_most WMX_length)
        ∙ part_left 23 (n * n) (W ++ M) X (inside (n * n) square_most WM_length)
        ∙ part_right 23 (n * n) W M W_length
        ∙ take_at h.table.mu (replicate (529 - length h.table.mu) plus_zero) (n * n) fits.square;
    small = fits.small;
    few = fits.few;
    walk = fits.walk;
    going = fits.going;
  }
    where
      square_most : n * n ≤ 529
      square_most = subst (λ (k : ℕ). k ≤ 529) fits.square square_few

      within : (k : ℕ) → k ≤ 529 → length (W ++ M ++ X) ≡ 575 → 23 + k ≤ length (W ++ M ++ X)
      within k l e = omega arith

      inside : (k : ℕ) → k ≤ 529 → length (W ++ M) ≡ 552 → 23 + k ≤ length (W ++ M)
      inside k l e = omega arith

  target_there : take n (drop 552 front) ≡ h.target
  target_there =
      part_left 552 n (W ++ M ++ X) (h.radius ∷ []) (omega (arith, WMX_length, fits.small))
      ∙ part_right 552 n (W ++ M) X WM_length
      ∙ take_at h.target (replicate (23 - length h.target) plus_zero) n fits.target_length

  pub search_part : IsPart (written_search h)
  search_part = walk_part front h.table h.walk written

  pub search_read : part_slot (written_search h) ≡ holds h
  search_read =
      walk_read front h.table h.walk written
      ∙ (λ k. holds (record { table = h.table; target = target_there k; radius = get_or_at (W ++ M ++ X) h.radius [] nan 575 WMX_length k; walk = h.walk }))

-- ---- an empty name
pub zero_part_lem : IsPart zero_part
zero_part_lem = record { reals_length = length-replicate 646 plus_zero; integers_length = length-replicate 92 (pos 0); counts_length = length-replicate {A = ℕ} 96 0 }

pub zero_read : part_slot zero_part ≡ free
unfolding is_sound
zero_read = refl
