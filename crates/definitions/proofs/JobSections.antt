-- A job's sections: the four ends of one, one for each of its tests, the number of its items, and the settings, given or not. Assumes nothing.
use mathlib.Core.Path.{◌≡◌, refl, ap, sym}
use mathlib.Core.Bool.{Bool, true, false}
use mathlib.Core.List.{List, [], ◌∷◌}
use Prim.Native.Nat.{ℕ, zero, suc, ◌+◌, ◌*◌, ◌≤◌, ◌<◌}
use borrow.Author.Tests.{lt-ltb, le-ltb}
use lib.Dec.{eqb}
use lib.ListN.{length}
use Rattle.definitions.specs.Settings.{defaults}
use Rattle.definitions.specs.JobLayout.{items, section_fault, number_at, items_at, section, settings_section}

pub length_items : (input : List ℕ) (offset k : ℕ) → length (items_at input offset k) ≡ k
unfolding items_at
length_items input offset zero = refl
length_items input offset (suc k) = ap suc (length_items input (offset + 8) k)

module _ (input : List ℕ) (right : ℕ → Bool) (offset : ℕ) where
  pub section_short : length input < offset + 4 → section input right offset ≡ section_fault (length input)
  unfolding section
  section_short short = simp (lt-ltb (length input) (offset + 4) short)

  module _ (long : offset + 4 ≤ length input) {count : ℕ} (is : count ≡ number_at input offset 4) where
    pub section_wrong : right count ≡ false → section input right offset ≡ section_fault offset
    unfolding section
    section_wrong wrong = simp (le-ltb (length input) (offset + 4) long, sym is, wrong)

    module _ (good : right count ≡ true) where
      pub section_cut : length input < offset + 4 + 8 * count → section input right offset ≡ section_fault (length input)
      unfolding section
      section_cut cut = simp (le-ltb (length input) (offset + 4) long, sym is, good, lt-ltb (length input) (offset + 4 + 8 * count) cut)

      pub section_whole : offset + 4 + 8 * count ≤ length input → section input right offset ≡ items (items_at input (offset + 4) count) (offset + 4 + 8 * count)
      unfolding section
      section_whole fits = simp (le-ltb (length input) (offset + 4) long, sym is, good, le-ltb (length input) (offset + 4 + 8 * count) fits)

-- ---- the settings
module _ (input : List ℕ) (offset : ℕ) where
  pub settings_given : offset < length input → settings_section input offset ≡ section input (eqb 3) offset
  unfolding settings_section
  settings_given more = simp (lt-ltb offset (length input) more)

  pub settings_default : length input ≤ offset → settings_section input offset ≡ items (defaults.p ∷ defaults.q ∷ defaults.places ∷ []) offset
  unfolding settings_section
  settings_default all = simp (le-ltb offset (length input) all)
