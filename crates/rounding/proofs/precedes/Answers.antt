-- `rounding::precedes` asks `total_cmp`. Assumes nothing.
use Rattle.std.proofs.Common.{ap, ◌∙◌}
use Rattle.std.specs.Ordering.{is_lt}
use Rattle.rounding.proofs.Total.{before_is}
use Rattle.rounding.proofs.precedes.Goals as goal

pub returns : goal.returns
returns c = c.is_lt.ensures ∙ ap is_lt c.total_cmp.ensures ∙ before_is c.args.x c.args.y
