-- `slice_check` meets its contract: 28, then the checks of the block, the name 1 being a name. Assumes nothing.
use Rattle.turns.proofs.Slices.{slice_low, slice_high}
use Rattle.turns.proofs.slice_check.Goals as goal
use Rattle.turns.proofs.slice_check.Goals.{then-slice-lt1-via-then-slice-lt1, then-slice-lt1-via-else-slice-lt1+then-slice-gt-LARGEST_SLICE}

pub returns-then-slice-lt1 : goal.returns-then-slice-lt1
returns-then-slice-lt1 c = elim c.then-slice-lt1.branch [
  | then-slice-lt1-via-then-slice-lt1 w ↦ slice_low _ _ w.if-slice-lt1.true
  | then-slice-lt1-via-else-slice-lt1+then-slice-gt-LARGEST_SLICE w ↦ slice_high _ _ w.if-slice-lt1.false w.if-slice-gt-LARGEST_SLICE.true
]
