-- `write_reals`: the levels passed stand in the columns. Assumes nothing.
use mathlib.Core.Path.{refl, ap, ◌∙◌}
use mathlib.Core.List.{List}
use lib.ListN.{replicate}
use lib.Ieee.{Float}
use Rattle.rounding.proofs.Interface.{zero_is}
use Rattle.parts.specs.Levels.{open_levels, reals_behind}
use Rattle.parts.proofs.Stored.{stored_all, reals_next, reals_begin, reals_front}
use Rattle.parts.proofs.columns.write_reals.Goals as goal

pub loop-i-init : goal.loop-i-init
loop-i-init c =
    reals_begin c.args.reals.now c.fill.new.self _ c.requires.to_length refl (c.fill.ensures.after (λ y h. h) ∙ ap (replicate _) zero_is) c.args.s.radius c.args.s

pub loop-i-preserved : goal.loop-i-preserved
loop-i-preserved c =
    reals_next c.args.s c.loop-i.i c.requires.few c.loop-i-test.true c.loop-i.invariant

pub returns : goal.returns
returns c =
    stored_all c.loop-i.invariant c.loop-i-test.false
    ∙ ap (λ (front : List Float). reals_behind front (open_levels c.args.s)) (reals_front c.args.reals.now c.fill.new.self _ c.requires.to_length refl (c.fill.ensures.after (λ y h. h) ∙ ap (replicate _) zero_is) c.args.s.radius)
