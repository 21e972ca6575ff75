-- `is_sound`: each exit is a law of `Rising`. Assumes nothing.
use mathlib.Core.Path.{◌∙◌}
use Rattle.parts.proofs.Rising.{sound_large, sound_spent, sound_over, sound_many, sound_levels}
use Rattle.parts.proofs.is_sound.Goals as goal
use Rattle.parts.proofs.is_sound.Goals.{then-n-via-then-n, then-n-via-else-n+then-nodes-gt-LARGEST_BUDGET, then-n-via-else-n+else-nodes-gt-LARGEST_BUDGET+then-open-lt1, then-n-via-else-n+else-nodes-gt-LARGEST_BUDGET+else-open-lt1+then-open-n}

pub returns-then-n : goal.returns-then-n
returns-then-n c =
    elim c.then-n.branch [
      | then-n-via-then-n w ↦ sound_large _ w.if-n.true
      | then-n-via-else-n+then-nodes-gt-LARGEST_BUDGET w ↦ sound_spent _ w.if-n.false w.if-nodes-gt-LARGEST_BUDGET.true
      | then-n-via-else-n+else-nodes-gt-LARGEST_BUDGET+then-open-lt1 w ↦ sound_over _ w.if-n.false w.if-nodes-gt-LARGEST_BUDGET.false w.if-open-lt1.true
      | then-n-via-else-n+else-nodes-gt-LARGEST_BUDGET+else-open-lt1+then-open-n w ↦ sound_many _ w.if-n.false w.if-nodes-gt-LARGEST_BUDGET.false w.if-open-lt1.false w.if-open-n.true
    ]

pub returns : goal.returns
returns c =
    c.levels_rise.ensures ∙ sound_levels _ c.if-n.false c.if-nodes-gt-LARGEST_BUDGET.false c.if-open-lt1.false c.if-open-n.false
