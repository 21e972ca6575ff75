-- `Children::tried` is the definition's two steps, from one whose direction is open. Assumes nothing.
use mathlib.Core.Path.{sym, ap, ◌∙◌}
use Prim.Native.Nat.{◌+◌}
use native.Mathlib.Omega.{arith}
use Rattle.definitions.proofs.Zigzags.{moved}
use Rattle.children.specs.View.{zigzag, at_step, child_of}
use Rattle.children.proofs.Outcomes.{nearest_is, passed_of}
use Rattle.children.proofs.Steps.{turns, first_fails, first_finds, answer}
use Rattle.children.proofs.Children.tried.Goals as goal

pub last_tried-requires : goal.last_tried-requires
last_tried-requires c =
    record { bounded = omega (arith, c.requires.bounded); emitted = c.requires.emitted; direction = turns c.args.self c.args.step c.args.positive c.requires.direction }

pub returns-in_default : goal.returns-in_default
returns-in_default c =
    c.last_tried.ensures
    ∙ ap child_of (first_fails c.args.self c.args.step c.args.positive c.requires.direction c.requires.not_done (sym c.in_default.is ∙ c.tested.ensures))

pub returns : goal.returns
returns c =
    let self = c.args.self in
    let s = c.args.step in
    let up = c.args.positive in
    let r = c.in-Some.t in
    let p = sym c.in-Some.is ∙ c.tested.ensures in
    answer self (s + 1) self.positive_done self.negative_done (passed_of (zigzag self) (moved (at_step self s self.positive_done self.negative_done) up) r p).1 (nearest_is c.struct_told-1.given) c.requires.emitted
    ∙ ap child_of (sym (first_finds self s up c.requires.direction c.requires.not_done r p))
