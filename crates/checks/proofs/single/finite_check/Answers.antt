-- `checks::finite_check` meets its contract: `position` finds the first coefficient with the fault. Assumes nothing.
use borrow.Author.Rules.{rules}
use Rattle.definitions.specs.Refusals.{non_finite}
use Rattle.definitions.specs.Checks.{not_finite, finite_check}
use Rattle.checks.proofs.Positions.{refused_at, none_at}
use Rattle.checks.proofs.single.finite_check.Goals as goal

pub returns-in-Some : goal.returns-in-Some
unfolding finite_check
returns-in-Some c = refused_at not_finite non_finite c.args.coefficients.now c.in-Some.i (search rules) (search rules) (search rules)

pub returns-in-None : goal.returns-in-None
unfolding finite_check
returns-in-None c = none_at not_finite non_finite c.args.coefficients.now (search rules)
