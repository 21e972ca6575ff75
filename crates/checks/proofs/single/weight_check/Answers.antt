-- `checks::weight_check` meets its contract: `position` finds the first weight with the fault. Assumes nothing.
use borrow.Author.Rules.{rules}
use Rattle.definitions.specs.Refusals.{weight_range}
use Rattle.definitions.specs.Checks.{weight_fault}
use Rattle.checks.proofs.Positions.{refused_at, none_at}
use Rattle.checks.proofs.single.weight_check.Goals as goal

pub returns-in-Some : goal.returns-in-Some
returns-in-Some c = refused_at weight_fault weight_range c.args.weights.now c.in-Some.i (search rules) (search rules) (search rules)

pub returns-in-None : goal.returns-in-None
returns-in-None c = none_at weight_fault weight_range c.args.weights.now (search rules)
