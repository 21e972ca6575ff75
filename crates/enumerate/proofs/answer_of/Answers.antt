-- `answer_of` meets its contract, case by case. Assumes nothing.
use mathlib.Core.Path.{sym, ap, ◌∙◌}
use Rattle.definitions.specs.Calls.{end_of_nearest}
use Rattle.definitions.proofs.Answers.{end_exhausted, end_nothing, end_point}
use Rattle.enumerate.specs.declared.Ending.{Ending}
use Rattle.enumerate.specs.View.{walked_of}
use Rattle.enumerate.proofs.answer_of.Goals as goal

pub returns-in-Point : goal.returns-in-Point
returns-in-Point c = λ out. sym (ap (λ (e : Ending). end_of_nearest c.args.radius (walked_of e out)) c.in-Point.is ∙ end_point _ _ _ _)

pub returns-in-Nothing : goal.returns-in-Nothing
returns-in-Nothing c = λ out. sym (ap (λ (e : Ending). end_of_nearest c.args.radius (walked_of e out)) c.in-Nothing.is ∙ end_nothing _ _ _)

pub returns-in-Exhausted : goal.returns-in-Exhausted
returns-in-Exhausted c = λ out. sym (ap (λ (e : Ending). end_of_nearest c.args.radius (walked_of e out)) c.in-Exhausted.is ∙ end_exhausted _ _ _)
