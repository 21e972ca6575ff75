-- `add_row`: the entries passed are added. Assumes nothing.
use native.Mathlib.Omega.{arith}
use Rattle.running.proofs.Rows.{added_none, added_next, added_all}
use Rattle.running.proofs.centers.add_row.Goals as goal

pub loop-i-init : goal.loop-i-init
loop-i-init c = added_none c.args.factor c.args.row.now c.args.centers.now

pub loop-i-preserved : goal.loop-i-preserved
loop-i-preserved c =
    added_next c.args.factor c.args.row.now c.loop-i.invariant c.requires (omega arith)

pub returns : goal.returns
returns c =
    added_all c.args.factor c.args.row.now c.loop-i.invariant (omega arith)
