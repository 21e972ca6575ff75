-- `rounding::max` meets its contract: each answer is the one that `larger` picks by the same tests. Assumes nothing.
use Rattle.std.proofs.Common.{sym, ◌∙◌}
use Rattle.rounding.specs.Doubles.{larger}
use Rattle.rounding.proofs.max.Goals as goal
use Rattle.rounding.proofs.max.Goals.{then-x-y-via-then-x-y, then-x-y-via-else-x-y+then-is_nan}

pub returns-then-x-y : goal.returns-then-x-y
unfolding larger
returns-then-x-y c =
    elim c.then-x-y.branch [ then-x-y-via-then-x-y w ↦ simp w.if-x-y.true | then-x-y-via-else-x-y+then-is_nan w ↦ simp (w.if-x-y.false, sym w.is_nan.ensures.value ∙ w.if-is_nan.true) ]

pub returns : goal.returns
unfolding larger
returns c = simp (c.if-x-y.false, sym c.is_nan.ensures.value ∙ c.if-is_nan.false)
