-- `children_test::level` is proved: a child takes at most two steps, so what `next` requires of them holds. Assumes nothing.
use mathlib.Core.Path.{sym, ◌∙◌}
use native.Mathlib.Omega.{arith}
use Rattle.definitions.proofs.Zigzags.{start_step, next_step}
use Rattle.children.specs.View.{zigzag}
use Rattle.children.proofs.Outcomes.{open_of, at_of}
use Rattle.children_test.proofs.level.Goals as goal

pub loop-count-init : goal.loop-count-init
loop-count-init c =
    let g = c.in-Some.g in
    omega (arith, start_step _ _ _ (zigzag g) (open_of _ g (sym c.in-Some.is ∙ c.new.ensures)))

pub loop-count-preserved : goal.loop-count-preserved
loop-count-preserved c =
    let t = c.in-Some-next.t in
    let after = c.in-Some-next.after in
    omega (arith, c.loop-count.invariant, next_step (zigzag c.loop-count.g) t.z (zigzag after) (at_of _ t after (sym c.in-Some-next.is ∙ c.next.ensures)).0)
