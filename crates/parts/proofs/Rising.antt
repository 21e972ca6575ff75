-- The soundness test, one test after the other. Assumes nothing.
use mathlib.Core.Path.{◌≡◌, sym, ap, ◌∙◌}
use mathlib.Core.Bool.{Bool, true, false, ◌&&◌}
use mathlib.Core.List.{List}
use Prim.Native.Nat.{ℕ, suc, ◌+◌, ◌-◌, ◌*◌, ◌≤◌, ◌<◌}
use native.Mathlib.Numerals.{add-one}
use native.Mathlib.Omega.{arith}
use lib.Dec.{leb, ltb}
use borrow.Author.Tests.{le-leb, lt-leb, lt-ltb, le-ltb}
use Rattle.definitions.specs.Table.{largest_dimension, largest_budget}
use Rattle.definitions.specs.Block.{part_dimension, part_nodes, part_open, part_level, part_step, levels_rise, is_sound}
use Rattle.definitions.proofs.Block.{rise_none, rise_more, sound_is}

-- ---- `levels_rise`
module _ (counts : List ℕ) (low i k : ℕ) where
  abbrev level : ℕ
  level = part_level counts i

  abbrev later : Bool
  later = levels_rise counts (suc level) (suc i) k

  abbrev inside : Bool
  inside = ltb level (part_dimension counts)

  abbrev few : Bool
  few = leb (part_step counts i) (2 * part_nodes counts + 1)

  rise_low : level < low → levels_rise counts low i (suc k) ≡ false
  rise_low h = rise_more counts low i k ∙ ap (λ (a : Bool). a && inside && few && later) (lt-leb low level h)

  module _ (at_least_lem : low ≤ level) where
    risen : levels_rise counts low i (suc k) ≡ (inside && few && later)
    risen = rise_more counts low i k ∙ ap (λ (a : Bool). a && inside && few && later) (le-leb low level at_least_lem)

    rise_high : part_dimension counts ≤ level → levels_rise counts low i (suc k) ≡ false
    rise_high h = risen ∙ ap (λ (a : Bool). a && few && later) (le-ltb level (part_dimension counts) h)

    module _ (below : level < part_dimension counts) where
      rise_steps : 2 * part_nodes counts + 1 < part_step counts i → levels_rise counts low i (suc k) ≡ false
      rise_steps h =
          risen
          ∙ ap (λ (a : Bool). a && few && later) (lt-ltb level (part_dimension counts) below)
          ∙ ap (λ (a : Bool). a && later) (lt-leb (part_step counts i) (2 * part_nodes counts + 1) h)

      rise_on : part_step counts i ≤ 2 * part_nodes counts + 1 → levels_rise counts low i (suc k) ≡ later
      rise_on h =
          risen
          ∙ ap (λ (a : Bool). a && few && later) (lt-ltb level (part_dimension counts) below)
          ∙ ap (λ (a : Bool). a && later) (le-leb (part_step counts i) (2 * part_nodes counts + 1) h)

-- what is left of the test from the i-th open level on
pub record Rising (counts : List ℕ) (low i : ℕ) : Type 0 where
  pub bounded : i ≤ part_open counts
  pub low_small : low ≤ part_dimension counts
  pub left : levels_rise counts 0 0 (part_open counts) ≡ levels_rise counts low i (part_open counts - i)

pub rising_none : (counts : List ℕ) → Rising counts 0 0
rising_none counts = record { bounded = omega arith; low_small = omega arith; left = ap (levels_rise counts 0 0) (whole (part_open counts)) }
  where
    whole : (m : ℕ) → m ≡ m - 0
    whole m = omega arith

module _ {counts : List ℕ} {low i : ℕ} (r : Rising counts low i) where
  pub rising_all : part_open counts ≤ i → true ≡ levels_rise counts 0 0 (part_open counts)
  rising_all h = sym (r.left ∙ ap (levels_rise counts low i) (none (part_open counts) h) ∙ rise_none counts low i)
    where
      none : (m : ℕ) → m ≤ i → m - i ≡ 0
      none m h = omega arith

  module _ (more : i < part_open counts) where
    abbrev k : ℕ
    k = part_open counts - (i + 1)

    one_more : (m : ℕ) → i < m → m - i ≡ suc (m - (i + 1))
    one_more m h = omega arith

    here : levels_rise counts 0 0 (part_open counts) ≡ levels_rise counts low i (suc k)
    here = r.left ∙ ap (levels_rise counts low i) (one_more (part_open counts) more)

    pub rising_low : part_level counts i < low → false ≡ levels_rise counts 0 0 (part_open counts)
    rising_low h = sym (here ∙ rise_low counts low i k h)

    module _ (at_least_lem : low ≤ part_level counts i) where
      pub rising_high : part_dimension counts ≤ part_level counts i → false ≡ levels_rise counts 0 0 (part_open counts)
      rising_high h = sym (here ∙ rise_high counts low i k at_least_lem h)

      module _ (below : part_level counts i < part_dimension counts) where
        pub rising_steps : 2 * part_nodes counts + 1 < part_step counts i → false ≡ levels_rise counts 0 0 (part_open counts)
        rising_steps h = sym (here ∙ rise_steps counts low i k at_least_lem below h)

        pub rising_next : part_step counts i ≤ 2 * part_nodes counts + 1 → Rising counts (part_level counts i + 1) (i + 1)
        rising_next h = record {
          bounded = omega arith;
          low_small = omega arith;
          left =
              here
              ∙ rise_on counts low i k at_least_lem below h
              ∙ ap (λ (l : ℕ). levels_rise counts l (suc i) k) (sym (add-one (part_level counts i)))
              ∙ ap (λ (j : ℕ). levels_rise counts (part_level counts i + 1) j k) (sym (add-one i));
        }

-- ---- `is_sound`
module _ (counts : List ℕ) where
  abbrev n : ℕ
  n = part_dimension counts

  abbrev small : Bool
  small = leb n largest_dimension

  abbrev spent : Bool
  spent = leb (part_nodes counts) largest_budget

  abbrev some : Bool
  some = leb 1 (part_open counts)

  abbrev most : Bool
  most = leb (part_open counts) n

  abbrev rise : Bool
  rise = levels_rise counts 0 0 (part_open counts)

  pub sound_large : largest_dimension < n → false ≡ is_sound counts
  sound_large h = sym (sound_is counts ∙ ap (λ (a : Bool). a && spent && some && most && rise) (lt-leb n largest_dimension h))

  module _ (h : n ≤ largest_dimension) where
    sound_few : is_sound counts ≡ (spent && some && most && rise)
    sound_few = sound_is counts ∙ ap (λ (a : Bool). a && spent && some && most && rise) (le-leb n largest_dimension h)

    pub sound_spent : largest_budget < part_nodes counts → false ≡ is_sound counts
    sound_spent l = sym (sound_few ∙ ap (λ (a : Bool). a && some && most && rise) (lt-leb (part_nodes counts) largest_budget l))

    module _ (b : part_nodes counts ≤ largest_budget) where
      sound_some : is_sound counts ≡ (some && most && rise)
      sound_some = sound_few ∙ ap (λ (a : Bool). a && some && most && rise) (le-leb (part_nodes counts) largest_budget b)

      pub sound_over : part_open counts < 1 → false ≡ is_sound counts
      sound_over l = sym (sound_some ∙ ap (λ (a : Bool). a && most && rise) (lt-leb 1 (part_open counts) l))

      module _ (o : 1 ≤ part_open counts) where
        sound_most : is_sound counts ≡ (most && rise)
        sound_most = sound_some ∙ ap (λ (a : Bool). a && most && rise) (le-leb 1 (part_open counts) o)

        pub sound_many : n < part_open counts → false ≡ is_sound counts
        sound_many l = sym (sound_most ∙ ap (λ (a : Bool). a && rise) (lt-leb (part_open counts) n l))

        pub sound_levels : part_open counts ≤ n → rise ≡ is_sound counts
        sound_levels l = sym (sound_most ∙ ap (λ (a : Bool). a && rise) (le-leb (part_open counts) n l))
