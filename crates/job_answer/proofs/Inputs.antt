-- An input is answered by its first bytes, if they are more than the longest job's. Assumes nothing.
use mathlib.Core.Path.{◌≡◌, ap, sym, subst, ◌∙◌}
use mathlib.Core.List.{List}
use Prim.Native.Nat.{ℕ, ◌≤◌}
use native.Mathlib.Omega.{arith}
use lib.ListN.{length}
use lib.Seq.{take_all}
use Rattle.definitions.specs.JobText.{job_output}
use Rattle.definitions.proofs.JobPrefixes.{buffer_output}
use Rattle.std.specs.Prelude.{Result, Ok}
use Rattle.job_answer.specs.declared.TooShort.{TooShort}
use Rattle.job_answer.specs.Answer.{JobAnswered, buffer_size, InputAnswered}
use Rattle.job_answer.proofs.Answers.{written_fits}

module _ {bytes out out' : List ℕ} {r : Result ℕ TooShort} where
  pub input_answer : JobAnswered (job_output bytes) out r out' → InputAnswered bytes out r out'
  input_answer a = record {
    answered = λ input same. subst (λ (text : List ℕ). JobAnswered text out r out') (ap job_output (sym same) ∙ buffer_output buffer_size (omega arith) input) a;
  }

  -- a text that was written has room
  pub input_fits : {size : ℕ} → InputAnswered bytes out r out' → length bytes ≤ buffer_size → r ≡ Ok size → size ≤ length out
  input_fits a few e = written_fits (a.answered bytes (take_all buffer_size bytes few)) e
