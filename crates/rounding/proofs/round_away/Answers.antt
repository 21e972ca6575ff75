-- `rounding::round_away` meets its contract. Assumes nothing.
use Rattle.std.proofs.Common.{ap, ◌∙◌, w64}
use lib.Ieee.{of_bits}
use mir.Facts.{to_z_pos}
use mir.ValLaws.{to_z-of_z}
use Rattle.rounding.specs.Integers.{round_away}
use Rattle.rounding.proofs.Comparison.{held, failed}
use Rattle.rounding.proofs.Saturation.{at_top, at_bottom, at_zero, above_zero, neg_twice, negated_fits, negated_is}
use Rattle.rounding.proofs.round_away.Goals as goal

-- ---- above zero

pub rounded-requires : goal.rounded-requires
unfolding of_bits
rounded-requires c = record { above = held c.if-v.true; below = held c.if-v-2.true }

pub returns-then-v-2 : goal.returns-then-v-2
returns-then-v-2 c = to_z_pos w64 c.rounded.ensures.under ∙ c.rounded.ensures.own

pub returns-then-v : goal.returns-then-v
unfolding of_bits
returns-then-v c = at_top c.args.v (held c.if-v.true) (failed c.if-v-2.false)

-- ---- below zero

pub rounded-requires-then-w : goal.rounded-requires-then-w
unfolding of_bits
rounded-requires-then-w c = record { above = above_zero c.args.v (held c.if-v-3.true); below = held c.if-w.true }

pub overflow_sub-result : goal.overflow_sub-result
overflow_sub-result c = negated_fits c.rounded-then-w.result c.rounded-then-w.ensures.under

pub returns-then-w : goal.returns-then-w
returns-then-w c =
    let r = c.rounded-then-w.result in
    let below = c.rounded-then-w.ensures.under in
    to_z-of_z w64 _ (negated_fits r below) ∙ negated_is r below ∙ c.rounded-then-w.ensures.negated ∙ ap round_away (neg_twice c.args.v)

pub returns-then-v-3 : goal.returns-then-v-3
unfolding of_bits
returns-then-v-3 c = at_bottom c.args.v (held c.if-v-3.true) (failed c.if-w.false)

-- ---- a zero and a NaN

pub returns : goal.returns
unfolding of_bits
returns c = at_zero c.args.v (failed c.if-v.false) (failed c.if-v-3.false)
