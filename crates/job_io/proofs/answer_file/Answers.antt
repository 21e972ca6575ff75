-- `answer_file`: what is written to the output was printed there. Assumes nothing.
use mathlib.Core.Path.{sym}
use native.Mathlib.Omega.{arith}
use lib.Seq.{length-take-le}
use Rattle.job_answer.proofs.Inputs.{input_fits}
use Rattle.job_io.proofs.answer_file.Goals as goal

pub slice_bounds-out-end : goal.slice_bounds-out-end
slice_bounds-out-end c =
    let fits = input_fits c.answer_input-printed.ensures (omega arith) c.in-Ok.is in
    omega arith

pub slice_bounds-write_all-end : goal.slice_bounds-write_all-end
slice_bounds-write_all-end c =
    let fits = input_fits c.answer_input-printed.ensures (omega arith) c.in-Ok.is in
    sym (length-take-le _ _ (omega arith))
