-- `group`: each range has its word. Assumes nothing.
use Rattle.std.proofs.Common.{arith}
use Rattle.definitions.specs.JobText.{text}
use Rattle.writing.proofs.Texts.{written_as}
use Rattle.writing.proofs.Groups.{layout_group, table_group, call_group, settings_group, search_group}
use Rattle.writing.proofs.group.Goals as goal

-- the arm of one number comes before those of ranges
pub returns-in-21 : goal.returns-in-21
unfolding text
returns-in-21 c = written_as c.put.ensures (settings_group _ (omega arith)) (omega arith)

pub returns-in-0-to-1 : goal.returns-in-0-to-1
unfolding text
returns-in-0-to-1 c = written_as c.put-in-0-to-1.ensures (layout_group _ (omega arith)) (omega arith)

pub returns-in-2-to-5 : goal.returns-in-2-to-5
unfolding text
returns-in-2-to-5 c = written_as c.put-in-2-to-5.ensures (table_group _ (omega arith) (omega arith)) (omega arith)

pub returns-in-6-to-14 : goal.returns-in-6-to-14
unfolding text
returns-in-6-to-14 c = written_as c.put-in-6-to-14.ensures (call_group _ (omega arith) (omega arith)) (omega arith)

pub returns-in_default : goal.returns-in_default
unfolding text
returns-in_default c = written_as c.put-in_default.ensures (search_group _ (omega arith) (λ e. omega (arith, e))) (omega arith)
