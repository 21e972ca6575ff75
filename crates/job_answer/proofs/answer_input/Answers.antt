-- `answer_input`: the bytes read tell the text of the whole input. Assumes nothing.
use Rattle.job_answer.proofs.Inputs.{input_answer}
use Rattle.job_answer.proofs.answer_input.Goals as goal

pub returns : goal.returns
returns c = input_answer c.answer_job.ensures
