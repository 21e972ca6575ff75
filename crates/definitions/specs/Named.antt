-- `nearest_named` and `pick_up`: the checks, the answer and the block at exit. The output at exit is that of `nearest`. Definitions only.
use Rattle.std.specs.Prelude.{ℕ, List, [], ◌∷◌, ◌++◌, length, ℤ, Float}
use Rattle.definitions.specs.Table.{Table, largest_dimension}
use Rattle.definitions.specs.Machine.{run_for, begin, came}
use Rattle.definitions.specs.Refusals.{name_empty}
use Rattle.definitions.specs.Checks.{Verdict, pass, refuse, first_refusal, radius_check, handed_on}
use Rattle.definitions.specs.Calls.{Answer, refused, after, NearestPoint, end_of_nearest, search_checks, checks_of_nearest}
use Rattle.definitions.specs.Kept.{Slot, free, holds, search_for, further, answer_of, if_over, slot_for, name_check, held_check, output_check, sum_check}
use Rattle.definitions.specs.Block.{Block, is_sound, part_frames, written_search, rewritten, part_of, slot_in, with_part, block_checks}

-- what it was, if a check refuses; else what it becomes
abbrev pub if_passed : {A : Type 0} → Verdict → A → A → A
if_passed (refuse e) was becomes = was
if_passed pass was becomes = becomes

-- ---- `nearest_named`
module _ (b : Block) (name : ℕ) (t : Table) (target : List Float) (out : List ℤ) (R : Float) (budget : ℕ) where
  -- 25, 6 of the block, then 2 to 9 with 23 as the largest n
  abbrev pub checks_of_named : List Verdict
  checks_of_named = name_check name ∷ block_checks b ++ checks_of_nearest largest_dimension t target out R budget

  unfoldable pub named_checks : Verdict
  unfolding first_refusal search_checks radius_check
  named_checks = first_refusal checks_of_named

  unfoldable pub nearest_named : Answer NearestPoint
  unfolding after named_checks end_of_nearest run_for begin came
  nearest_named = after named_checks (answer_of (search_for t target (handed_on R) budget))

  -- a search that is not over is kept under the name, in the place of what was there; any other leaves the block as it was
  unfoldable pub block_after_named : Block
  unfolding named_checks run_for begin
  block_after_named =
      let h = search_for t target (handed_on R) budget in
      if_passed named_checks b (if_over h.walk.stack b (with_part b name (written_search h)))

-- ---- `pick_up`

-- what a name holds, with a further budget; an empty one has not passed the checks
abbrev pub further_answer : ℕ → Slot → Answer NearestPoint
further_answer budget free = refused name_empty
further_answer budget (holds h) = answer_of (further h budget)

abbrev pub further_slot : ℕ → Slot → Slot
further_slot budget free = free
further_slot budget (holds h) = slot_for (further h budget)

module _ (b : Block) (name : ℕ) (out : List ℤ) (budget : ℕ) where
  -- 25, 6 of the block, 26, 6 of the output, 27
  abbrev pub checks_of_pick_up : List Verdict
  checks_of_pick_up = name_check name ∷ block_checks b ++ held_check (slot_in b name) ∷ output_check (slot_in b name) (length out) ∷ sum_check (slot_in b name) budget ∷ []

  unfoldable pub pick_up_checks : Verdict
  unfolding first_refusal is_sound part_frames
  pick_up_checks = first_refusal checks_of_pick_up

  unfoldable pub pick_up : Answer NearestPoint
  unfolding after pick_up_checks end_of_nearest run_for came is_sound part_frames
  pick_up = after pick_up_checks (further_answer budget (slot_in b name))

  -- the search where it was put down again, or an empty name if it is over
  unfoldable pub block_after_pick_up : Block
  unfolding pick_up_checks run_for is_sound part_frames
  block_after_pick_up = if_passed pick_up_checks b (with_part b name (rewritten (part_of b name) (further_slot budget (slot_in b name))))
