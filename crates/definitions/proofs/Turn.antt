-- `turn`, a clause each, as equations; and which names are held. Assumes nothing.
use mathlib.Core.Path.{◌≡◌, refl, sym, ◌∙◌, subst}
use Prim.Native.Nat.{ℕ, zero, suc, ◌≤◌}
use native.Mathlib.Omega.{arith}
use mathlib.Core.Bool.{Bool, true, false, cond}
use mathlib.Core.List.{List}
use lib.Dec.{ltb}
use lib.IntN.{ℤ}
use borrow.Author.Tests.{ltb-true}
use Rattle.definitions.specs.Checks.{first_refusal}
use Rattle.definitions.specs.Calls.{found, refused, after, NearestPoint, written}
use Rattle.definitions.specs.Kept.{free, holds}
use Rattle.definitions.specs.Refusals.{Refusal}
use Rattle.definitions.specs.Block.{Block, is_sound, part_slot, part_held, rewritten, part_of, slot_in, with_part}
use Rattle.definitions.specs.Named.{if_passed}
use Rattle.definitions.specs.Turn.{next_name, is_held, held_after, served, slice_answer, slice_slot, slot_dimension, checks_of_turn, turn_checks, turn, block_after_turn, last_after_turn, turn_output}

-- ---- the name that is served
pub held_zero : (b : Block) (name : ℕ) → held_after 0 b name ≡ 0
unfolding held_after
held_zero b name = refl

pub held_suc : (k : ℕ) (b : Block) (name : ℕ) → held_after (suc k) b name ≡ cond (is_held (slot_in b (next_name name))) (next_name name) (held_after k b (next_name name))
unfolding held_after
held_suc k b name = refl

-- a part holds a search exactly if it is sound
pub held_sound : (p : Block) → is_held (part_slot p) ≡ is_sound p.counts
held_sound p = go (is_sound p.counts)
  where
    go : (c : Bool) → is_held (cond c (holds (part_held p)) free) ≡ c
    go true = refl
    go false = refl

-- the next name is a name
pub next_range : (name : ℕ) → (1 ≤ next_name name) × (next_name name ≤ 8)
next_range name = go (ltb name 8) refl
  where
    go : (c : Bool) → ltb name 8 ≡ c → (1 ≤ cond c (suc name) 1) × (cond c (suc name) 1 ≤ 8)
    go true e = (omega arith, omega (arith, ltb-true name 8 e))
    go false e = (omega arith, omega arith)

-- a name that is found is held
pub record Found (b : Block) (name : ℕ) : Type 0 where
  pub least : 1 ≤ name
  pub most : name ≤ 8
  pub sound : is_sound (part_of b name).counts ≡ true

pub after_held : (k : ℕ) (b : Block) (name : ℕ) → (held_after k b name ≡ 0 → ⊥) → Found b (held_after k b name)
after_held zero b name d = absurd (d (held_zero b name))
after_held (suc k) b name d = subst (Found b) (sym (held_suc k b name)) (go (is_held (slot_in b (next_name name))) refl (λ e. d (held_suc k b name ∙ e)) (after_held k b (next_name name)))
  where
    go : (c : Bool) → is_held (slot_in b (next_name name)) ≡ c → (cond c (next_name name) (held_after k b (next_name name)) ≡ 0 → ⊥) → ((held_after k b (next_name name) ≡ 0 → ⊥) → Found b (held_after k b (next_name name))) → Found b (cond c (next_name name) (held_after k b (next_name name)))
    go true e d later = record { least = (next_range name).0; most = (next_range name).1; sound = sym (held_sound (part_of b (next_name name))) ∙ e }
    go false e d later = later d

-- ---- the call
module _ (b : Block) (last : ℕ) (out : List ℤ) (slice : ℕ) where
  pub turn_checks_are : turn_checks b last out slice ≡ first_refusal (checks_of_turn b last out slice)
  unfolding turn_checks
  turn_checks_are = refl

  pub turn_name_is : (turn b last out slice).name ≡ if_passed (turn_checks b last out slice) 0 (served b last)
  unfolding turn
  turn_name_is = refl

  pub turn_n_is : (turn b last out slice).n ≡ if_passed (turn_checks b last out slice) 0 (slot_dimension (slot_in b (served b last)))
  unfolding turn
  turn_n_is = refl

  pub turn_answer_is : (turn b last out slice).answer ≡ after (turn_checks b last out slice) (slice_answer slice (slot_in b (served b last)))
  unfolding turn
  turn_answer_is = refl

  pub after_turn_is : block_after_turn b last out slice ≡ if_passed (turn_checks b last out slice) b (with_part b (served b last) (rewritten (part_of b (served b last)) (slice_slot slice (slot_in b (served b last)))))
  unfolding block_after_turn
  after_turn_is = refl

  pub last_after_turn_is : last_after_turn b last out slice ≡ if_passed (turn_checks b last out slice) last (served b last)
  unfolding last_after_turn
  last_after_turn_is = refl

pub turn_output_found : (a : NearestPoint) (out : List ℤ) → turn_output (found a) out ≡ written a.point out
unfolding turn_output
turn_output_found a out = refl

pub turn_output_refused : (e : Refusal) (out : List ℤ) → turn_output (refused e) out ≡ out
unfolding turn_output
turn_output_refused e out = refl
