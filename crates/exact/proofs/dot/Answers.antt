-- `dot`: a row more is added to the sum. Assumes nothing.
use Rattle.std.proofs.Common.{rules}
use Rattle.exact.proofs.Summed.{summed_none, row_added}
use Rattle.exact.proofs.dot.Goals as goal

pub loop-row-init : goal.loop-row-init
loop-row-init c = summed_none _ _ _ _ _

pub overflow_add-sum : goal.overflow_add-sum
overflow_add-sum c =
    (row_added _ _ _ _ _ _ _ _ _ c.requires.n_bound c.loop-row-test.true c.loop-row.invariant (search rules) (c.requires.bounded _ (search rules)) c.from.ensures c.from-in-loop-row.ensures).fits

pub loop-row-preserved : goal.loop-row-preserved
loop-row-preserved c =
    (row_added _ _ _ _ _ _ _ _ _ c.requires.n_bound c.loop-row-test.true c.loop-row.invariant (search rules) (c.requires.bounded _ (search rules)) c.from.ensures c.from-in-loop-row.ensures).next
