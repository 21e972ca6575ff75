-- `ratio_line` meets its contract, a verdict each. Assumes nothing.
use mathlib.Core.Path.{◌≡◌, refl, ap, sym, ◌∙◌}
use mathlib.Core.List.{List}
use Prim.Native.Nat.{ℕ, ◌≤◌}
use native.Mathlib.Omega.{arith}
use Rattle.definitions.specs.JobText.{text, ratio_word, ratio_line}
use Rattle.ratio.specs.declared.Ratio.{Ratio}
use Rattle.ratio.specs.View.{verdict_of}
use Rattle.writing.specs.Appended.{Appended}
use Rattle.writing.proofs.Texts.{appended_as}
use Rattle.job_answer.specs.Sizes.{ratio_size}
use Rattle.job_answer.proofs.ratio_line.Goals as goal

-- the line that was put is that of the verdict that the match found
matched : {before after line : List ℕ} {size : ℕ} {ratio verdict : Ratio} → ratio ≡ verdict → Appended before line size after → line ≡ ratio_line (verdict_of verdict) → size ≤ ratio_size → Appended before (ratio_line (verdict_of ratio)) ratio_size after
matched is put same few = appended_as put (same ∙ sym (ap (λ (r : Ratio). ratio_line (verdict_of r)) is)) few

-- for each verdict what is written
pub returns-in-Holds : goal.returns-in-Holds
unfolding text ratio_word ratio_line
returns-in-Holds c = matched c.in-Holds.is c.put.ensures refl (omega arith)

pub returns-in-Fails : goal.returns-in-Fails
unfolding text ratio_word ratio_line
returns-in-Fails c = matched c.in-Fails.is c.put-in-Fails.ensures refl (omega arith)

pub returns-in-Open : goal.returns-in-Open
unfolding text ratio_word ratio_line
returns-in-Open c = matched c.in-Open.is c.put-in-Open.ensures refl (omega arith)

pub returns-in-None : goal.returns-in-None
unfolding text ratio_word ratio_line
returns-in-None c = matched c.in-None.is c.put-in-None.ensures refl (omega arith)
