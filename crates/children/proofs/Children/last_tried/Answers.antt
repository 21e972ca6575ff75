-- `Children::last_tried` is the second step of the definition. Assumes nothing.
use mathlib.Core.Path.{sym, ap, ◌∙◌}
use Prim.Native.Nat.{◌+◌}
use mathlib.Core.Bool.{not, ◌||◌}
use Rattle.definitions.proofs.Zigzags.{moved}
use Rattle.children.specs.View.{zigzag, at_step, child_of}
use Rattle.children.proofs.Outcomes.{nearest_is, passed_of}
use Rattle.children.proofs.Steps.{last_closed, last_fails, last_finds, answer}
use Rattle.children.proofs.Children.last_tried.Goals as goal

pub returns-then-done : goal.returns-then-done
returns-then-done c =
    last_closed c.args.self c.args.step c.args.positive c.requires.direction (sym c.done.ensures ∙ c.if-done.true)

pub returns-in_err-last : goal.returns-in_err-last
returns-in_err-last c =
    c.from_residual.ensures
    ∙ last_fails c.args.self c.args.step c.args.positive c.requires.direction (sym c.done.ensures ∙ c.if-done.false) (sym c.in_err-last.was ∙ c.tested.ensures)

pub returns : goal.returns
returns c =
    let self = c.args.self in
    let s = c.args.step in
    let up = c.args.positive in
    let r = c.in_ok-last.last in
    let P = not up || self.positive_done in
    let N = up || self.negative_done in
    let p = sym c.in_ok-last.was ∙ c.tested.ensures in
    answer self (s + 1) P N (passed_of (zigzag self) (moved (at_step self s P N) up) r p).1 (nearest_is c.struct_told-1.given) c.requires.emitted
    ∙ ap child_of (sym (last_finds self s up c.requires.direction (sym c.done.ensures ∙ c.if-done.false) r p))
