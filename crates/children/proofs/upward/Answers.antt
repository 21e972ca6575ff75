-- `upward` turns with each step. Assumes nothing.
use mathlib.Core.Path.{◌≡◌, refl}
use mathlib.Core.Bool.{Bool, true, false, not, beq}
use borrow.Author.Tests.{eq-eqb, ne_eqb}
use Rattle.children.proofs.upward.Goals as goal

as_first : (b : Bool) → b ≡ beq true b
as_first true = refl
as_first false = refl

not_as_first : (b : Bool) → not b ≡ beq false b
not_as_first true = refl
not_as_first false = refl

pub returns-then-step-eq1 : goal.returns-then-step-eq1
returns-then-step-eq1 c = rw (eq-eqb _ _ c.if-step-eq1.true) (as_first c.args.first)

pub returns : goal.returns
returns c = rw (ne_eqb _ _ c.if-step-eq1.false) (not_as_first c.args.first)
