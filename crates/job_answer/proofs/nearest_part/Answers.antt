-- `nearest_part`: the line is that of the job's nearest search. Assumes nothing.
use mathlib.Core.Path.{◌≡◌, ap, ◌∙◌}
use mathlib.Core.List.{List, ◌++◌}
use native.Mathlib.Omega.{arith}
use lib.IntN.{ℤ, pos}
use lib.ListN.{length, drop, replicate}
use Rattle.definitions.specs.Table.{largest_dimension}
use Rattle.definitions.specs.JobText.{nearest_line}
use Rattle.enumerate.specs.View.{nearest_answer}
use Rattle.lists.proofs.Repeats.{repeat_prefix}
use Rattle.reading.specs.Parts.{ArrayHolds}
use Rattle.writing.proofs.Texts.{appended_as}
use Rattle.job_answer.proofs.Jobs.{nearest_lent, point_held}
use Rattle.job_answer.proofs.nearest_part.Goals as goal
use Rattle.job_answer.proofs.nearest_part.Goals.{After-nearest-answer}

-- the array after the search
module _ (c : After-nearest-answer) where
  lent : length c.nearest-answer.new.out ≡ c.args.job.now.n
  lent = let whole = repeat_prefix largest_dimension c.args.job.now.n (pos 0) c.requires.shape.small in omega (arith, whole, c.nearest-answer.auto.out)

  held : ArrayHolds largest_dimension c.args.job.now.n c.nearest-answer.new.out (c.nearest-answer.new.out ++ drop c.args.job.now.n (replicate largest_dimension (pos 0)))
  held = point_held c.requires.shape c.nearest-answer.ensures lent

pub returns : goal.returns
returns c =
    let array = held (goal.at.returns c).After-nearest-answer in
    let same = ap (λ (zs : List ℤ). nearest_line (nearest_answer c.nearest-answer.result zs)) array.first ∙ ap nearest_line (c.nearest-answer.ensures.tells ∙ nearest_lent c.requires.shape) in
    appended_as c.nearest_line.ensures same (omega arith)
