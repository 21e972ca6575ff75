-- The open levels of a walk: what a store changes of the machine's stack and of what the code relies on. Assumes nothing.
use mathlib.Core.Path.{◌≡◌, refl, sym, ap, ◌∙◌, subst}
use Prim.Native.Nat.{ℕ, zero, suc, ◌+◌, ◌*◌, ◌≤◌, ◌<◌}
use native.Mathlib.Nat.{le_trans, eq-or-lt_of_le}
use native.Mathlib.Numerals.{add-one}
use native.Mathlib.Omega.{arith}
use mathlib.Core.List.{List, [], ◌∷◌}
use mathlib.Core.Logic.{⊎_elim}
use lib.ListN.{length, get_or, set}
use lib.Seq.{get_or-set_same, get_or-set_other}
use lib.IntN.{ℤ}
use lib.Ieee.{Float, nan}
use Rattle.lists.proofs.Places.{places_other}
use Rattle.definitions.specs.Machine.{Frame}
use Rattle.children.specs.View.{zigzag}
use Rattle.resume.specs.declared.OpenLevel.{OpenLevel}
use Rattle.resume.specs.View.{generator_of, no_level, level_at, frame_of, stack_of}
use Rattle.resume.specs.Ready.{Placed, Falling}

-- ---- clauses
pub stack_zero : (weights : List Float) (point : List ℤ) (levels : List OpenLevel) → stack_of weights point levels 0 ≡ []
unfolding stack_of
stack_zero weights point levels = refl

pub stack_suc : (weights : List Float) (point : List ℤ) (levels : List OpenLevel) (i : ℕ) → stack_of weights point levels (suc i) ≡ frame_of weights point (level_at levels i) ∷ stack_of weights point levels i
unfolding stack_of
stack_suc weights point levels i = refl

module _ (n nodes : ℕ) (levels : List OpenLevel) where
  pub falling_none : (low : ℕ) → low ≤ n → Falling n nodes levels low 0
  unfolding Falling
  falling_none low h = h

  pub falling_parts : (low i : ℕ) → Falling n nodes levels low (suc i) → Placed n nodes low (level_at levels i) × Falling n nodes levels (suc (level_at levels i).level) i
  unfolding Falling
  falling_parts low i s = s

  -- ---- bounds
  pub falling_lower : (low low' i : ℕ) → low' ≤ low → Falling n nodes levels low i → Falling n nodes levels low' i
  unfolding Falling
  falling_lower low low' zero h s = le_trans h s
  falling_lower low low' (suc i) h s = (record { lowest = le_trans h s.0.lowest; inside = s.0.inside; few = s.0.few }, s.1)

  -- there are at most as many as levels from `low` up
  pub falling_room : (low i : ℕ) → Falling n nodes levels low i → i + low ≤ n
  unfolding Falling
  falling_room low zero s = le_trans (omega arith) s
  falling_room low (suc i) s = room (level_at levels i).level s.0.lowest (falling_room (suc (level_at levels i).level) i s.1)
    where
      room : (l : ℕ) → low ≤ l → i + suc l ≤ n → suc i + low ≤ n
      room l p q = omega arith

  -- each of them lies between `low` and n
  pub falling_between : (low i : ℕ) → Falling n nodes levels low i → (j : ℕ) → j < i → (low ≤ (level_at levels j).level) × ((level_at levels j).level < n)
  unfolding Falling
  falling_between low zero s j h = absurd (omega arith)
  falling_between low (suc i) s j h =
      ⊎_elim
      (λ same. subst (λ (k : ℕ). (low ≤ (level_at levels k).level) × ((level_at levels k).level < n)) (sym same) (s.0.lowest, s.0.inside))
      (λ less. let b = falling_between (suc (level_at levels i).level) i s.1 j less in (omega (arith, s.0.lowest, b.0), b.1))
      (eq-or-lt_of_le (omega arith))

  pub falling_more : (nodes' low i : ℕ) → nodes ≤ nodes' → Falling n nodes levels low i → Falling n nodes' levels low i
  unfolding Falling
  falling_more nodes' low zero h s = s
  falling_more nodes' low (suc i) h s = (record { lowest = s.0.lowest; inside = s.0.inside; few = more (level_at levels i).step s.0.few }, falling_more nodes' (suc (level_at levels i).level) i h s.1)
    where
      more : (k : ℕ) → k ≤ 2 * nodes + 1 → k ≤ 2 * nodes' + 1
      more k q = omega arith

  -- ---- a store past them
  pub falling_store : (low i j : ℕ) (f : OpenLevel) → i ≤ j → Falling n nodes levels low i → Falling n nodes (set levels j f) low i
  unfolding Falling
  falling_store low zero j f h s = s
  falling_store low (suc i) j f h s =
      subst (λ (g : OpenLevel). Placed n nodes low g × Falling n nodes (set levels j f) (suc g.level) i) (sym (get_or-set_other levels j i f no_level (apart h)))
      (s.0, falling_store (suc (level_at levels i).level) i j f (omega arith) s.1)
    where
      apart : suc i ≤ j → i ≡ j → ⊥
      apart h e = omega arith

  -- one more, below them
  pub falling_push : (low i : ℕ) (f : OpenLevel) → i < length levels → Placed n nodes low f → Falling n nodes levels (suc f.level) i → Falling n nodes (set levels i f) low (i + 1)
  unfolding Falling
  falling_push low i f h p s =
      subst (Falling n nodes (set levels i f) low) (sym (add-one i))
      (subst (λ (g : OpenLevel). Placed n nodes low g × Falling n nodes (set levels i f) (suc g.level) i) (sym (get_or-set_same levels i f no_level h))
      (p, falling_store (suc f.level) i i f (omega arith) s))

-- ---- the stack
module _ (weights : List Float) (levels : List OpenLevel) where
  -- a store past the levels
  pub stack_store : (point : List ℤ) (i j : ℕ) (f : OpenLevel) → i ≤ j → stack_of weights point (set levels j f) i ≡ stack_of weights point levels i
  unfolding stack_of
  stack_store point zero j f h = refl
  stack_store point (suc i) j f h =
      ap (λ (g : OpenLevel). frame_of weights point g ∷ stack_of weights point (set levels j f) i) (get_or-set_other levels j i f no_level (apart h))
      ∙ ap (λ (s : List Frame). frame_of weights point (level_at levels i) ∷ s) (stack_store point i j f (omega arith))
    where
      apart : suc i ≤ j → i ≡ j → ⊥
      apart h e = omega arith

  -- a coordinate set below all of them
  pub stack_point : (point : List ℤ) (nodes l : ℕ) (z : ℤ) → l < length weights → (i low : ℕ) → l < low → Falling (length weights) nodes levels low i → stack_of weights (set point l z) levels i ≡ stack_of weights point levels i
  unfolding stack_of Falling
  stack_point point nodes l z h zero low g s = refl
  stack_point point nodes l z h (suc i) low g s =
      ap (λ (a : List ℤ). framed a ∷ stack_of weights (set point l z) levels i) (places_other (length weights) point l ((level_at levels i).level + 1) z h (over s.0.lowest))
      ∙ ap (λ (r : List Frame). frame_of weights point (level_at levels i) ∷ r) (stack_point point nodes l z h i (suc (level_at levels i).level) (above s.0.lowest) s.1)
    where
      framed : List ℤ → Frame
      framed a = record {
        level = (level_at levels i).level;
        above = a;
        partial = (level_at levels i).partial;
        center = (level_at levels i).center;
        waiting = (level_at levels i).waiting;
        generator = zigzag (generator_of (get_or weights (level_at levels i).level nan) (level_at levels i));
      }

      over : low ≤ (level_at levels i).level → l < (level_at levels i).level + 1
      over q = omega arith

      above : low ≤ (level_at levels i).level → l < suc (level_at levels i).level
      above q = omega arith
