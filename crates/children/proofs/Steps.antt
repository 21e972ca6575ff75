-- The two steps of `next`: the first in a direction that is open, the second in the other one. Assumes nothing.
use Rattle.std.proofs.Common.{None, Some}
use Rattle.std.specs.Int.{from_bool}
use mathlib.Core.Path.{◌≡◌, refl, ap, sym, ◌∙◌}
use mathlib.Core.Bool.{Bool, true, false, not, ◌&&◌, ◌||◌, beq, cond}
use Prim.Native.Nat.{ℕ, zero, suc, ◌+◌, ◌%◌, ◌≤◌, ◌<◌, ◌^◌}
use native.Mathlib.Omega.{arith}
use native.Mathlib.Numerals.{add-one}
use borrow.Author.Tests.{eq-eqb}
use lib.Dec.{eqb}
use lib.IntN.{ℤ}
use lib.Ieee.{le}
use Rattle.rounding.specs.Integers.{to_double, is_i64}
use Rattle.definitions.specs.Zigzag.{Zigzag, Next, child, none, passes_test, after_step, both_done, upward, one_step, second_step, after_nearest, next}
use Rattle.definitions.proofs.Zigzags.{passes_is, upward_is, moved, step_done, step_child, step_closes}
use Rattle.children.specs.declared.Children.{Children}
use Rattle.children.specs.declared.Trial.{Trial}
use Rattle.children.specs.View.{zigzag, at_step, goes_upward, is_done, FirstStep, trial_of, child_of, tested_of}
use Rattle.children.proofs.Outcomes.{passed_of, failed_of}

-- ---- booleans
both_is : (up p n : Bool) → (not up || p) && (up || n) ≡ cond up p n
both_is true true n = refl
both_is true false n = refl
both_is false p n = refl

open_is : (up p n : Bool) → cond up (not up || p) (up || n) ≡ cond up p n
open_is true p n = refl
open_is false p n = refl

pub not_not : (b : Bool) → not (not b) ≡ b
not_not true = refl
not_not false = refl

-- the step that is tried first, and its direction
pub moved_on : (s : ℕ) (skipped : Bool) → s + from_bool skipped ≡ cond skipped (s + 1) s
moved_on s true = refl
moved_on s false = omega arith

pub turned : (up skipped : Bool) → not (beq up skipped) ≡ cond skipped (not up) up
turned true true = refl
turned true false = refl
turned false true = refl
turned false false = refl

-- of two directions of which one is closed, the other is open
other_open : (up p n : Bool) → cond up p n ≡ true → p && n ≡ false → cond (not up) p n ≡ false
other_open true p n e f = ap (λ (b : Bool). b && n) (sym e) ∙ f
other_open false true n e f = sym e ∙ f
other_open false false n e f = refl

-- ---- the direction of a step
beq_not : (a b : Bool) → beq (not a) b ≡ not (beq a b)
beq_not true true = refl
beq_not true false = refl
beq_not false true = refl
beq_not false false = refl

parity : (s : ℕ) → eqb ((s + 1) % 2) 1 ≡ not (eqb (s % 2) 1)
parity s = by (s % 2) ((s + 1) % 2) (omega arith) (omega arith)
  where
    by : (r t : ℕ) → r < 2 → r + t ≡ 1 → eqb t 1 ≡ not (eqb r 1)
    by zero t h e = eq-eqb t 1 (omega arith)
    by (suc zero) t h e = let z : t ≡ 0 = omega arith in rw z
    by (suc (suc r)) t h e = absurd (omega arith)

pub turns : (self : Children) (s : ℕ) (up : Bool) → up ≡ goes_upward self s → not up ≡ goes_upward self (s + 1)
turns self s up e = let f = le (to_double self.nearest) self.center in ap not e ∙ sym (beq_not (eqb (s % 2) 1) f) ∙ ap (λ (b : Bool). beq b f) (sym (parity s))

-- the direction of the first open step, and that it is open
first_direction : (self : Children) (s : ℕ) (up skipped : Bool) → up ≡ goes_upward self s → cond skipped (not up) up ≡ goes_upward self (cond skipped (s + 1) s)
first_direction self s up true e = turns self s up e
first_direction self s up false e = e

first_open : (up p n skipped : Bool) → skipped ≡ cond up p n → p && n ≡ false → cond (cond skipped (not up) up) p n ≡ false
first_open up p n true e f = other_open up p n (sym e) f
first_open up p n false e f = sym e

first_bound : (s : ℕ) (skipped : Bool) → s < 2 ^ 62 → cond skipped (s + 1) s ≤ 2 ^ 62
first_bound s true h = omega arith
first_bound s false h = omega arith

pub first_step : (self : Children) (up skipped : Bool) → self.step < 2 ^ 62 → self.emitted_nearest ≡ true → up ≡ goes_upward self self.step → skipped ≡ is_done self up → self.positive_done && self.negative_done ≡ false → FirstStep self (cond skipped (self.step + 1) self.step) (cond skipped (not up) up)
first_step self up skipped small emitted direction e one_open = record {
  bounded = first_bound self.step skipped small;
  emitted = emitted;
  direction = first_direction self self.step up skipped direction;
  not_done = first_open up self.positive_done self.negative_done skipped e one_open;
}

-- ---- `second_step` and `next`
second_is : (g : Zigzag) → second_step (none g) ≡ cond (both_done g) (none g) (one_step g)
unfolding second_step
second_is g = refl

second_child : (z : ℤ) (g : Zigzag) → second_step (child z g) ≡ child z g
unfolding second_step
second_child z g = refl

second_ends : (g : Zigzag) → both_done g ≡ true → second_step (none g) ≡ none g
second_ends g e = second_is g ∙ ap (λ (b : Bool). cond b (none g) (one_step g)) e

second_tries : (g : Zigzag) → both_done g ≡ false → second_step (none g) ≡ one_step g
second_tries g e = second_is g ∙ ap (λ (b : Bool). cond b (none g) (one_step g)) e

next_is : (g : Zigzag) → next g ≡ cond g.emitted_nearest (cond (both_done g) (none g) (second_step (one_step g))) (child g.nearest (after_nearest g))
unfolding next
next_is g = refl

next_tries : (g : Zigzag) (b : Bool) → g.emitted_nearest ≡ true → both_done g ≡ b → next g ≡ cond b (none g) (second_step (one_step g))
next_tries g b e f = next_is g ∙ ap (λ (t : Bool). cond t (cond (both_done g) (none g) (second_step (one_step g))) (child g.nearest (after_nearest g))) e ∙ ap (λ (t : Bool). cond t (none g) (second_step (one_step g))) f

pub next_ends : (self : Children) → self.emitted_nearest ≡ true → self.positive_done && self.negative_done ≡ true → None ≡ child_of (next (zigzag self))
next_ends self e f = ap child_of (sym (next_tries (zigzag self) true e f))

-- ---- a step
module _ (self : Children) (step : ℕ) (p n up : Bool) (direction : up ≡ goes_upward self step) where
  abbrev here : Zigzag
  here = at_step self step p n

  tested_here : {b : Bool} → is_i64 (moved here up) && passes_test (zigzag self) (moved here up) ≡ b → is_i64 (moved here up) && passes_test here (moved here up) ≡ b
  tested_here e = ap (λ (b : Bool). is_i64 (moved here up) && b) (passes_is here (moved here up) ∙ sym (passes_is (zigzag self) (moved here up))) ∙ e

  is_upward : up ≡ upward here
  is_upward = direction ∙ sym (upward_is here)

  step_finds : cond up p n ≡ false → (r : Trial) → Some r ≡ tested_of (zigzag self) (moved here up) → one_step here ≡ child (moved here up) (at_step self (step + 1) p n)
  step_finds not_done r e = step_child here up is_upward not_done (tested_here (passed_of (zigzag self) (moved here up) r e).0) ∙ ap (λ (s : ℕ). child (moved here up) (at_step self s p n)) (sym (add-one step))

  step_fails : cond up p n ≡ false → None ≡ tested_of (zigzag self) (moved here up) → one_step here ≡ none (at_step self (step + 1) (up || p) (not up || n))
  step_fails not_done e = step_closes here up is_upward not_done (tested_here (failed_of (zigzag self) (moved here up) e)) ∙ ap (λ (s : ℕ). none (at_step self s (up || p) (not up || n))) (sym (add-one step))

  step_passes_over : cond up p n ≡ true → one_step here ≡ none (at_step self (step + 1) p n)
  step_passes_over e = step_done here up is_upward e ∙ ap (λ (s : ℕ). none (at_step self s p n)) (sym (add-one step))

  -- a step in the only open direction is the last
  alone : cond up p n ≡ false → cond (not up) p n ≡ true → child_of (second_step (one_step here)) ≡ child_of (one_step here)
  alone not_done other = by (is_i64 (moved here up) && passes_test here (moved here up)) refl
    where
      by : (b : Bool) → is_i64 (moved here up) && passes_test here (moved here up) ≡ b → child_of (second_step (one_step here)) ≡ child_of (one_step here)
      by true e = let s = step_child here up is_upward not_done e in ap (λ (x : Next). child_of (second_step x)) s ∙ ap child_of (second_child (moved here up) (after_step false false here)) ∙ ap child_of (sym s)
      by false e =
          let s = step_closes here up is_upward not_done e in
          ap (λ (x : Next). child_of (second_step x)) s
          ∙ ap child_of (second_ends (after_step up (not up) here) (ap (λ (b : Bool). (b || p) && (not up || n)) (sym (not_not up)) ∙ both_is (not up) p n ∙ other))
          ∙ ap child_of (sym s)

-- ---- the first step that is tried
module _ (self : Children) (step : ℕ) (up : Bool) (direction : up ≡ goes_upward self step) (not_done : is_done self up ≡ false) where
  abbrev first : Zigzag
  first = at_step self step self.positive_done self.negative_done

  pub first_finds : (r : Trial) → Some r ≡ tested_of (zigzag self) (moved first up) → second_step (one_step first) ≡ child (moved first up) (at_step self (step + 1) self.positive_done self.negative_done)
  first_finds r e = ap second_step (step_finds self step self.positive_done self.negative_done up direction not_done r e) ∙ second_child (moved first up) (at_step self (step + 1) self.positive_done self.negative_done)

  pub first_fails : None ≡ tested_of (zigzag self) (moved first up) → second_step (none (at_step self (step + 1) (not (not up) || self.positive_done) (not up || self.negative_done))) ≡ second_step (one_step first)
  first_fails e =
      ap (λ (b : Bool). second_step (none (at_step self (step + 1) (b || self.positive_done) (not up || self.negative_done)))) (not_not up)
      ∙ ap second_step (sym (step_fails self step self.positive_done self.negative_done up direction not_done e))

-- ---- the last one, in the other direction
module _ (self : Children) (step : ℕ) (up : Bool) (direction : up ≡ goes_upward self step) where
  abbrev P : Bool
  P = not up || self.positive_done

  abbrev N : Bool
  N = up || self.negative_done

  abbrev last : Zigzag
  last = at_step self step P N

  pub last_closed : is_done self up ≡ true → None ≡ child_of (second_step (none last))
  last_closed e = ap child_of (sym (second_ends last (both_is up self.positive_done self.negative_done ∙ e)))

  module _ (not_done : is_done self up ≡ false) where
    second_step_lem : second_step (none last) ≡ one_step last
    second_step_lem = second_tries last (both_is up self.positive_done self.negative_done ∙ not_done)

    open_here : cond up P N ≡ false
    open_here = open_is up self.positive_done self.negative_done ∙ not_done

    pub last_fails : None ≡ tested_of (zigzag self) (moved last up) → None ≡ child_of (second_step (none last))
    last_fails e = ap child_of (sym (second_step_lem ∙ step_fails self step P N up direction open_here e))

    pub last_finds : (r : Trial) → Some r ≡ tested_of (zigzag self) (moved last up) → second_step (none last) ≡ child (moved last up) (at_step self (step + 1) P N)
    last_finds r e = second_step_lem ∙ step_finds self step P N up direction open_here r e

-- ---- from the first open step to `next`
module _ (self : Children) (up : Bool) (direction : up ≡ goes_upward self self.step) (one_open : self.positive_done && self.negative_done ≡ false) where
  abbrev from : ℕ → Zigzag
  from s = at_step self s self.positive_done self.negative_done

  skips : (skipped : Bool) → skipped ≡ is_done self up → child_of (second_step (one_step (from (cond skipped (self.step + 1) self.step)))) ≡ child_of (second_step (one_step (from self.step)))
  skips false e = refl
  skips true e =
      let p = self.positive_done in
      let n = self.negative_done in
      alone self (self.step + 1) p n (not up) (turns self self.step up direction) (other_open up p n (sym e) one_open) (ap (λ (b : Bool). cond b p n) (not_not up) ∙ sym e)
      ∙ ap child_of (sym (ap second_step (step_passes_over self self.step p n up direction (sym e)) ∙ second_tries (from (self.step + 1)) one_open))

  pub next_skips : (skipped : Bool) → skipped ≡ is_done self up → self.emitted_nearest ≡ true → child_of (second_step (one_step (from (cond skipped (self.step + 1) self.step)))) ≡ child_of (next (zigzag self))
  next_skips skipped e f = skips skipped e ∙ ap (λ (b : Bool). child_of (second_step (one_step (emitted_as b)))) (sym f) ∙ ap child_of (sym (next_tries (zigzag self) false f one_open))
    where
      emitted_as : Bool → Zigzag
      emitted_as b = record {
        center = self.center;
        remaining = self.remaining;
        weight = self.weight;
        nearest = self.nearest;
        step = self.step;
        emitted_nearest = b;
        positive_done = self.positive_done;
        negative_done = self.negative_done;
      }

-- ---- an answer of the code, whose nearest integer and flag are written m and b
pub answer : (self : Children) (step : ℕ) (positive_done negative_done : Bool) {r : Trial} {m z : ℤ} {b : Bool} → r ≡ trial_of self.weight self.center z → m ≡ self.nearest → b ≡ true → Some (r, record { center = self.center; remaining = self.remaining; weight = self.weight; nearest = m; step = step; emitted_nearest = b; positive_done = positive_done; negative_done = negative_done }) ≡ child_of (child z (at_step self step positive_done negative_done))
answer self step positive_done negative_done e f g = rw (e, f, g)
