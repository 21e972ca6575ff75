-- `nearest_named` meets its contract: a refusal of the name, the block or the search's checks, or what the search leaves of the name's part. Assumes nothing.
use mathlib.Core.Path.{sym, ◌∙◌, subst}
use native.Mathlib.Omega.{arith}
use Rattle.definitions.specs.Table.{table, largest_dimension}
use Rattle.definitions.proofs.Passed.{nearest_passed, walk_shaped}
use Rattle.definitions.proofs.Named.{BlockPassed, block_passed, search_checks_are}
use Rattle.parts.specs.Parts.{block, PartLengths}
use Rattle.kept.proofs.Blocks.{part_lent, part_back, part_lengths}
use Rattle.kept.proofs.Calls.{refused_up, named_refused, named_refused_later, named_done}
use Rattle.kept.proofs.nearest_named.Goals as goal
use Rattle.kept.proofs.nearest_named.Goals.{In_ok-block_check}

-- the name and the block have passed
within : (c : In_ok-block_check) → let a = c.args in BlockPassed (block a.reals.now a.integers.now a.counts.now) a.name
within c = let a = c.args in block_passed (block a.reals.now a.integers.now a.counts.now) a.name (sym c.in_ok-block_check.ensures)

pub returns-in_err-block_check : goal.returns-in_err-block_check
returns-in_err-block_check c =
    let a = c.args in
    refused_up _ _ c.from_residual.ensures
    (named_refused (block a.reals.now a.integers.now a.counts.now) a.name (table a.weights.now a.mu.now) a.target.now a.out.now a.radius a.budget _ (sym c.in_err-block_check.ensures))

pub returns-in_err-nearest_check : goal.returns-in_err-nearest_check
returns-in_err-nearest_check c =
    let a = c.args in
    refused_up _ _ c.from_residual-in_err-nearest_check.ensures
    (named_refused_later (block a.reals.now a.integers.now a.counts.now) a.name (table a.weights.now a.mu.now) a.target.now a.out.now a.radius a.budget (sym c.in_ok-block_check.ensures) _ (sym c.in_err-nearest_check.ensures))

pub nearest_part-requires : goal.nearest_part-requires
nearest_part-requires c =
    let a = c.args in
    let b = block a.reals.now a.integers.now a.counts.now in
    let u = table a.weights.now a.mu.now in
    let p = nearest_passed largest_dimension u a.target.now a.out.now a.radius a.budget (search_checks_are u a.target.now a.out.now a.radius a.budget ∙ sym c.in_ok-nearest_check.ensures) in
    record { lengths = subst PartLengths (sym (part_lent b a.name)) (part_lengths b a.name (within (goal.at.nearest_part-requires c).In_ok-block_check)); shape = walk_shaped p.search a.budget p.few }

pub returns : goal.returns
returns c =
    let a = c.args in
    let b = block a.reals.now a.integers.now a.counts.now in
    let p = block c.nearest_part.new.reals c.nearest_part.new.integers c.nearest_part.new.counts in
    named_done b a.name (table a.weights.now a.mu.now) a.target.now a.out.now a.radius a.budget (sym c.in_ok-block_check.ensures) (sym c.in_ok-nearest_check.ensures) c.handed_on.result _ p _ c.handed_on.ensures (part_lent b a.name) (part_back b a.name p) c.nearest_part.ensures

pub overflow_sub-at : goal.overflow_sub-at
overflow_sub-at c = (within (goal.at.overflow_sub-at c).In_ok-block_check).least

pub overflow_mul-r : goal.overflow_mul-r
overflow_mul-r c = omega (arith, (within (goal.at.overflow_mul-r c).In_ok-block_check).most)

pub overflow_mul-i : goal.overflow_mul-i
overflow_mul-i c = omega (arith, (within (goal.at.overflow_mul-i c).In_ok-block_check).most)

pub overflow_mul-c : goal.overflow_mul-c
overflow_mul-c c = omega (arith, (within (goal.at.overflow_mul-c c).In_ok-block_check).most)

pub overflow_add-r : goal.overflow_add-r
overflow_add-r c = omega (arith, (within (goal.at.overflow_add-r c).In_ok-block_check).most)

pub offset_bounds-reals-r : goal.offset_bounds-reals-r
offset_bounds-reals-r c = omega (arith, (within (goal.at.offset_bounds-reals-r c).In_ok-block_check).most)

pub slice_bounds-nearest_part-end : goal.slice_bounds-nearest_part-end
slice_bounds-nearest_part-end c = let e = within (goal.at.slice_bounds-nearest_part-end c).In_ok-block_check in omega (arith, e.least, e.most, e.reals_length)

pub slice_bounds-nearest_part-end-2 : goal.slice_bounds-nearest_part-end-2
slice_bounds-nearest_part-end-2 c = let e = within (goal.at.slice_bounds-nearest_part-end-2 c).In_ok-block_check in omega (arith, e.least, e.most, e.integers_length)

pub slice_bounds-nearest_part-end-3 : goal.slice_bounds-nearest_part-end-3
slice_bounds-nearest_part-end-3 c = let e = within (goal.at.slice_bounds-nearest_part-end-3 c).In_ok-block_check in omega (arith, e.least, e.most, e.counts_length)
