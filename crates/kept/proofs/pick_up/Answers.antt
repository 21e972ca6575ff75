-- `pick_up` meets its contract: a refusal of the name or the block, or what the pickup of the name's part does. Assumes nothing.
use mathlib.Core.Path.{sym}
use native.Mathlib.Omega.{arith}
use Rattle.definitions.proofs.Named.{BlockPassed, block_passed}
use Rattle.parts.specs.Parts.{block}
use Rattle.kept.proofs.Blocks.{part_lent, part_back}
use Rattle.kept.proofs.Calls.{refused_up, pick_up_refused, pick_up_done}
use Rattle.kept.proofs.pick_up.Goals as goal
use Rattle.kept.proofs.pick_up.Goals.{In_ok-block_check}

-- the name and the block have passed
passed : (c : In_ok-block_check) → let a = c.args in BlockPassed (block a.reals.now a.integers.now a.counts.now) a.name
passed c = let a = c.args in block_passed (block a.reals.now a.integers.now a.counts.now) a.name (sym c.in_ok-block_check.ensures)

pub returns-in_err-block_check : goal.returns-in_err-block_check
returns-in_err-block_check c =
    let a = c.args in
    refused_up _ _ c.from_residual.ensures
    (pick_up_refused (block a.reals.now a.integers.now a.counts.now) a.name a.out.now a.budget _ (sym c.in_err-block_check.ensures))

pub returns : goal.returns
returns c =
    let a = c.args in
    let b = block a.reals.now a.integers.now a.counts.now in
    let p = block c.pick_up_part.new.reals c.pick_up_part.new.integers c.pick_up_part.new.counts in
    pick_up_done b a.name a.out.now a.budget (sym c.in_ok-block_check.ensures) _ p _ (part_lent b a.name) (part_back b a.name p) c.pick_up_part.ensures

pub overflow_sub-at : goal.overflow_sub-at
overflow_sub-at c = (passed c).least

pub overflow_mul-r : goal.overflow_mul-r
overflow_mul-r c = omega (arith, (passed c).most)

pub overflow_mul-i : goal.overflow_mul-i
overflow_mul-i c = omega (arith, (passed c).most)

pub overflow_mul-c : goal.overflow_mul-c
overflow_mul-c c = omega (arith, (passed c).most)

pub overflow_add-r : goal.overflow_add-r
overflow_add-r c = omega (arith, (passed c).most)

pub offset_bounds-reals-r : goal.offset_bounds-reals-r
offset_bounds-reals-r c = omega (arith, (passed c).most)

pub slice_bounds-pick_up_part-end : goal.slice_bounds-pick_up_part-end
slice_bounds-pick_up_part-end c = let e = passed c in omega (arith, e.least, e.most, e.reals_length)

pub slice_bounds-pick_up_part-end-2 : goal.slice_bounds-pick_up_part-end-2
slice_bounds-pick_up_part-end-2 c = let e = passed (goal.at.slice_bounds-pick_up_part-end-2 c).In_ok-block_check in omega (arith, e.least, e.most, e.integers_length)

pub slice_bounds-pick_up_part-end-3 : goal.slice_bounds-pick_up_part-end-3
slice_bounds-pick_up_part-end-3 c = let e = passed (goal.at.slice_bounds-pick_up_part-end-3 c).In_ok-block_check in omega (arith, e.least, e.most, e.counts_length)
