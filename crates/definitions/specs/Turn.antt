-- `turn`: the kept searches take turns at one computer. The checks, what is told, and what is left of the block, the output and the name last served.
-- docs/SPECIFICATION.md, "Turns". Definitions only.
use Rattle.std.specs.Prelude.{ℕ, zero, suc, ◌+◌, ◌^◌, Bool, true, false, not, ◌&&◌, cond, List, [], ◌∷◌, ◌++◌, leb, ltb, eqb, length, ℤ}
use Rattle.definitions.specs.Table.{dimension, largest_dimension, largest_budget}
use Rattle.definitions.specs.Machine.{run_for, came}
use Rattle.definitions.specs.Refusals.{slice_range, none_held, budget_exhausted}
use Rattle.definitions.specs.Checks.{Verdict, refuse_if, first_refusal, length_check}
use Rattle.definitions.specs.Calls.{Answer, found, refused, after, NearestPoint, end_of_nearest, written}
use Rattle.definitions.specs.Kept.{Held, Slot, free, holds}
use Rattle.definitions.specs.Block.{Block, is_sound, part_frames, rewritten, part_of, slot_in, with_part, block_checks}
use Rattle.definitions.specs.Named.{if_passed, further_answer, further_slot}

-- ---- the name that is served

-- the name after a name: 1 after 8. A number that is no name stands for 8, the name before the first turn.
abbrev pub next_name : ℕ → ℕ
next_name name = cond (ltb name 8) (suc name) 1

abbrev pub is_held : Slot → Bool
is_held free = false
is_held (holds h) = true

-- the first held name of so many after a name, or 0
unfoldable pub held_after : ℕ → Block → ℕ → ℕ
unfolding is_sound part_frames
held_after zero b name = 0
held_after (suc k) b name =
    let later = held_after k b (next_name name) in
    cond (is_held (slot_in b (next_name name))) (next_name name) later

-- the next held name after the one last served, or 0 if no name is held
abbrev pub served : Block → ℕ → ℕ
served b last = held_after 8 b last

-- ---- the checks

-- 28: the slice must be one of 1 to 2^20
abbrev pub slice_check : ℕ → Verdict
slice_check slice = refuse_if (not (leb 1 slice && leb slice (2 ^ 20))) slice_range

-- 29: a name must be held
abbrev pub served_check : ℕ → Verdict
served_check name = refuse_if (eqb name 0) none_held

-- ---- the search that is served

-- whether the next slice would pass the limit of a budget
abbrev pub passes : Held → ℕ → Bool
passes h slice = ltb largest_budget (h.walk.nodes + slice)

-- then it is answered 15 as it stands; else as a pickup. An empty name is not served.
abbrev pub slice_answer : ℕ → Slot → Answer NearestPoint
slice_answer slice free = refused none_held
slice_answer slice (holds h) = cond (passes h slice) (refused (budget_exhausted h.walk.nodes h.walk.standing)) (further_answer slice (holds h))

-- and its name is emptied; else it holds what a pickup leaves
abbrev pub slice_slot : ℕ → Slot → Slot
slice_slot slice free = free
slice_slot slice (holds h) = cond (passes h slice) free (further_slot slice (holds h))

abbrev pub slot_dimension : Slot → ℕ
slot_dimension free = 0
slot_dimension (holds h) = dimension h.table

-- ---- `turn`

-- what a turn tells: the name that it served, the n of its search, and the answer. A turn that a check refuses serves no name: 0 and 0.
pub record Turn : Type 0 where
  pub name : ℕ
  pub n : ℕ
  pub answer : Answer NearestPoint

module _ (b : Block) (last : ℕ) (out : List ℤ) (slice : ℕ) where
  -- 28, 6 of the block, 29, 6 of the output, which has 23 places whatever n is
  abbrev pub checks_of_turn : List Verdict
  checks_of_turn = slice_check slice ∷ block_checks b ++ served_check (served b last) ∷ length_check largest_dimension (length out) ∷ []

  unfoldable pub turn_checks : Verdict
  unfolding first_refusal held_after
  turn_checks = first_refusal checks_of_turn

  unfoldable pub turn : Turn
  unfolding after turn_checks held_after end_of_nearest run_for came is_sound part_frames
  turn =
      let slot = slot_in b (served b last) in
      record {
        name = if_passed turn_checks 0 (served b last);
        n = if_passed turn_checks 0 (slot_dimension slot);
        answer = after turn_checks (slice_answer slice slot);
      }

  unfoldable pub block_after_turn : Block
  unfolding turn_checks held_after run_for is_sound part_frames
  block_after_turn =
      let name = served b last in
      if_passed turn_checks b (with_part b name (rewritten (part_of b name) (slice_slot slice (slot_in b name))))

  -- the name last served
  unfoldable pub last_after_turn : ℕ
  unfolding turn_checks held_after
  last_after_turn = if_passed turn_checks last (served b last)

-- the output at exit: the point in the first n places
unfoldable pub turn_output : Answer NearestPoint → List ℤ → List ℤ
turn_output (found a) out = written a.point out
turn_output (refused e) out = out
