-- `checks::target_check` meets its contract: `position` finds the first target with the fault. Assumes nothing.
use borrow.Author.Rules.{rules}
use Rattle.definitions.specs.Refusals.{non_finite}
use Rattle.definitions.specs.Checks.{target_fault, target_check}
use Rattle.checks.proofs.Positions.{refused_at, none_at}
use Rattle.checks.proofs.single.target_check.Goals as goal

pub returns-in-Some : goal.returns-in-Some
unfolding target_check
returns-in-Some c = refused_at target_fault non_finite c.args.target.now c.in-Some.i (search rules) (search rules) (search rules)

pub returns-in-None : goal.returns-in-None
unfolding target_check
returns-in-None c = none_at target_fault non_finite c.args.target.now (search rules)
