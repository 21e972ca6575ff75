-- `answer_job`: the text of the job read, where there is room. Assumes nothing.
use mathlib.Core.Path.{◌≡◌, ap, sym, subst, ◌∙◌}
use mathlib.Core.List.{List, ◌++◌}
use Prim.Native.Nat.{ℕ, ◌≤◌}
use native.Mathlib.Omega.{arith}
use lib.ListN.{length, drop}
use Rattle.std.specs.Prelude.{Ok, Err}
use Rattle.definitions.specs.JobText.{job_text, job_output}
use Rattle.reading.specs.View.{layout_read}
use Rattle.job_answer.specs.Sizes.{output_size}
use Rattle.job_answer.specs.Answer.{JobAnswered}
use Rattle.job_answer.proofs.Answers.{too_short_answer, written_answer}
use Rattle.job_answer.proofs.answer_job.Goals as goal
use Rattle.job_answer.proofs.answer_job.Goals.{After-as_slice-bytes}

-- the bytes are the text of the job read
module _ (c : After-as_slice-bytes) where
  abbrev bytes : List ℕ
  bytes = c.as_slice-bytes.result.now

  text : bytes ≡ job_text (layout_read c.read.result)
  text = c.as_slice-bytes.ensures ∙ c.job_text.ensures.bytes ∙ ap (λ (l : List ℕ). l ++ job_text (layout_read c.read.result)) c.new-text.ensures

  output : bytes ≡ job_output c.args.input.now
  unfolding job_output
  output = text ∙ ap job_text c.read.ensures.means

  few : length bytes ≤ output_size
  few = omega (arith, ap length text, c.job_text.ensures.within)

pub returns-then-out-count : goal.returns-then-out-count
returns-then-out-count c =
    let s = (goal.at.returns-then-out-count c).After-as_slice-bytes in
    let out = c.args.out.now in
    subst (λ (t : List ℕ). JobAnswered t out (Err (record { needed = length (bytes s) })) out) (output s) (too_short_answer (bytes s) out (few s) c.if-out-count.true)

pub returns : goal.returns
returns c =
    let s = (goal.at.returns c).After-as_slice-bytes in
    let out = c.args.out.now in
    let rest = drop (length (bytes s)) out in
    let answer = written_answer (bytes s) out (few s) c.if-out-count.false in
    subst (λ (t : List ℕ). JobAnswered t out (Ok (length (bytes s))) (c.copy_from_slice.new.self ++ rest)) (output s)
    (subst (JobAnswered (bytes s) out (Ok (length (bytes s)))) (sym (ap (λ (l : List ℕ). l ++ rest) c.copy_from_slice.ensures.after)) answer)
