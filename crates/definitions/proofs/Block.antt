-- The block's definitions, a clause each, as equations; and what the soundness test says. Assumes nothing.
use mathlib.Core.Path.{◌≡◌, refl, sym, ◌∙◌, subst}
use Prim.Native.Nat.{ℕ, suc, ◌+◌, ◌*◌, ◌≤◌, ◌<◌}
use native.Mathlib.Nat.{mul-le-mul}
use native.Mathlib.Omega.{arith}
use mathlib.Core.Bool.{Bool, true, false, ◌&&◌}
use mathlib.Core.List.{List, [], ◌∷◌, ◌++◌}
use lib.Dec.{leb, ltb}
use lib.ListN.{length, length-append}
use lib.Ieee.{Float}
use borrow.Author.Tests.{leb-true, ltb-true}
use Rattle.lists.proofs.Segments.{length_padded}
use Rattle.definitions.specs.Table.{Table, dimension, plus_zero, largest_dimension, largest_budget}
use Rattle.definitions.specs.Block.{Block, part_dimension, part_nodes, part_open, part_level, part_step, part_frame, part_frames, levels_rise, is_sound, padded, written_table}

module _ (p : Block) where
  pub frames_none : (i : ℕ) → part_frames p i 0 ≡ []
  unfolding part_frames
  frames_none i = refl

  pub frames_more : (i k : ℕ) → part_frames p i (suc k) ≡ part_frame p i ∷ part_frames p (suc i) k
  unfolding part_frames
  frames_more i k = refl

module _ (counts : List ℕ) where
  pub rise_none : (low i : ℕ) → levels_rise counts low i 0 ≡ true
  unfolding levels_rise
  rise_none low i = refl

  pub rise_more : (low i k : ℕ) → levels_rise counts low i (suc k) ≡ (leb low (part_level counts i) && ltb (part_level counts i) (part_dimension counts) && leb (part_step counts i) (2 * part_nodes counts + 1) && levels_rise counts (suc (part_level counts i)) (suc i) k)
  unfolding levels_rise
  rise_more low i k = refl

  pub sound_is : is_sound counts ≡ (leb (part_dimension counts) largest_dimension && leb (part_nodes counts) largest_budget && leb 1 (part_open counts) && leb (part_open counts) (part_dimension counts) && levels_rise counts 0 0 (part_open counts))
  unfolding is_sound
  sound_is = refl

-- ---- what passes
pub and_left : (a b : Bool) → (a && b) ≡ true → a ≡ true
and_left true b e = refl
and_left false b e = e

pub and_right : (a b : Bool) → (a && b) ≡ true → b ≡ true
and_right true b e = e
and_right false b e = let z : ◌≡◌ {A = ℕ} 0 1 = cc in absurd (omega arith)

module _ (counts : List ℕ) where
  -- the i-th open level, and those after it
  pub record Rises (low i k : ℕ) : Type 0 where
    pub lowest : low ≤ part_level counts i
    pub inside : part_level counts i < part_dimension counts
    pub few_steps : part_step counts i ≤ 2 * part_nodes counts + 1
    pub later : levels_rise counts (suc (part_level counts i)) (suc i) k ≡ true

  pub rises : (low i k : ℕ) → levels_rise counts low i (suc k) ≡ true → Rises low i k
  rises low i k e =
      let a = leb low (part_level counts i) in
      let b = ltb (part_level counts i) (part_dimension counts) in
      let c = leb (part_step counts i) (2 * part_nodes counts + 1) in
      let d = levels_rise counts (suc (part_level counts i)) (suc i) k in
      let whole = sym (rise_more counts low i k) ∙ e in
      let three = and_left (a && b && c) d whole in
      let two = and_left (a && b) c three in
      record {
        lowest = leb-true low (part_level counts i) (and_left a b two);
        inside = ltb-true (part_level counts i) (part_dimension counts) (and_right a b two);
        few_steps = leb-true (part_step counts i) (2 * part_nodes counts + 1) (and_right (a && b) c three);
        later = and_right (a && b && c) d whole;
      }

  pub record SoundCounts : Type 0 where
    pub small : part_dimension counts ≤ largest_dimension
    pub few_nodes : part_nodes counts ≤ largest_budget
    pub some : 1 ≤ part_open counts
    pub most : part_open counts ≤ part_dimension counts
    pub levels : levels_rise counts 0 0 (part_open counts) ≡ true

  pub sound_counts : is_sound counts ≡ true → SoundCounts
  sound_counts e =
      let a = leb (part_dimension counts) largest_dimension in
      let b = leb (part_nodes counts) largest_budget in
      let c = leb 1 (part_open counts) in
      let d = leb (part_open counts) (part_dimension counts) in
      let f = levels_rise counts 0 0 (part_open counts) in
      let whole = sym (sound_is counts) ∙ e in
      let four = and_left (a && b && c && d) f whole in
      let three = and_left (a && b && c) d four in
      let two = and_left (a && b) c three in
      record {
        small = leb-true (part_dimension counts) largest_dimension (and_left a b two);
        few_nodes = leb-true (part_nodes counts) largest_budget (and_right a b two);
        some = leb-true 1 (part_open counts) (and_right (a && b) c three);
        most = leb-true (part_open counts) (part_dimension counts) (and_right (a && b && c) d four);
        levels = and_right (a && b && c && d) f whole;
      }

-- ---- the doubles that stay of a search
pub table_length : (s : Table) (target : List Float) (R : Float) → dimension s ≤ largest_dimension → length s.mu ≡ dimension s * dimension s → length target ≡ dimension s → length (written_table s target R) ≡ 576
table_length s target R small square aimed =
    let W = padded plus_zero 23 s.weights in
    let M = padded plus_zero 529 s.mu in
    let X = padded plus_zero 23 target in
    let few = subst (λ (k : ℕ). k ≤ 529) (sym square) (mul-le-mul small small) in
    omega (arith, length-append (W ++ M ++ X) (R ∷ []), length-append (W ++ M) X, length-append W M, length_padded plus_zero 23 s.weights small, length_padded plus_zero 529 s.mu few, length_padded plus_zero 23 target (omega (arith, aimed, small)))
