-- `write_integers`: the levels passed stand in the columns. Assumes nothing.
use mathlib.Core.Path.{refl, ap, ◌∙◌}
use mathlib.Core.List.{List}
use lib.IntN.{ℤ}
use mir.Syntax.{w64}
use mir.ValLaws.{to_z-of_z}
use Rattle.parts.specs.Levels.{open_levels, integers_behind}
use Rattle.parts.proofs.Stored.{stored_all, integers_next, integers_begin, integers_front}
use Rattle.parts.proofs.columns.write_integers.Goals as goal

pub loop-i-init : goal.loop-i-init
loop-i-init c =
    integers_begin c.args.integers.now c.fill.new.self _ c.requires.to_length refl (c.fill.ensures.after (λ y h. h)) c.args.s

pub loop-i-preserved : goal.loop-i-preserved
loop-i-preserved c =
    integers_next c.args.s c.loop-i.i c.requires.few c.loop-i-test.true c.loop-i.invariant
    (to_z-of_z w64 _ (record { sfits = c.struct_told-1.given.1.1.1.1.0.1 }))
    (to_z-of_z w64 _ (record { sfits = c.struct_told-in-loop-i-1.given.1.1.1.1.1.1.0.1 }))

pub returns : goal.returns
returns c =
    stored_all c.loop-i.invariant c.loop-i-test.false
    ∙ ap (λ (front : List ℤ). integers_behind front (open_levels c.args.s)) (integers_front c.args.integers.now c.fill.new.self _ c.requires.to_length refl (c.fill.ensures.after (λ y h. h)))
