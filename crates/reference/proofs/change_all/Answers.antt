-- `change_all` meets its contract: the coordinates passed are changed, the others as they were. Assumes nothing.
use mathlib.Core.Path.{◌∙◌}
use native.Mathlib.Omega.{arith}
use borrow.Author.Count.{below_more}
use borrow.Author.Rules.{rules}
use lib.IntN.{pos}
use lib.Seq.{get_or-set_same, get_or-set_other}
use Rattle.reference.proofs.change_all.Goals as goal

pub loop-i-preserved : goal.loop-i-preserved
loop-i-preserved c =
    let l = c.loop-i in (
      below_more _ _ (λ k less. get_or-set_other l.point l.i k _ (pos 0) (λ same. omega (arith, same, less)) ∙ l.invariant.0 k less) (get_or-set_same l.point l.i _ (pos 0) (omega arith) ∙ search rules),
      λ k more. get_or-set_other l.point l.i k _ (pos 0) (λ same. omega (arith, same, more)) ∙ l.invariant.1 k (omega arith),
    )
