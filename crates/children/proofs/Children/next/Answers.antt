-- `Children::next` is the zigzag's: a closed direction's step is passed over. Assumes nothing.
use mathlib.Core.Path.{◌≡◌, ap, ◌∙◌}
use mathlib.Core.Bool.{true, false, ◌&&◌, beq}
use Prim.Native.Nat.{ℕ, ◌%◌}
use lib.Dec.{eqb}
use lib.Ieee.{Float, le}
use borrow.Author.Tests.{not-true, not-false}
use Rattle.rounding.specs.Integers.{to_double}
use Rattle.definitions.specs.Zigzag.{one_step, second_step}
use Rattle.children.specs.View.{at_step, goes_upward, child_of}
use Rattle.children.proofs.Outcomes.{nearest_is}
use Rattle.children.proofs.Steps.{moved_on, turned, next_ends, next_skips, first_step}
use Rattle.children.proofs.Children.next.Goals as goal
use Rattle.children.proofs.Children.next.Goals.{After-upward-positive}

pub first-requires : goal.first-requires
first-requires c = not-true _ c.if-not-self.true

pub returns-then-self : goal.returns-then-self
returns-then-self c = next_ends c.args.self (not-false _ c.if-not-self.false) c.if-self.true

-- what is known once a step has its direction
direction : (c : After-upward-positive) → let self = c.args.self in c.upward-positive.result ≡ goes_upward self self.step
direction c =
    let self = c.args.self in
    c.upward-positive.ensures
    ∙ ap (λ (x : Float). beq (eqb (self.step % 2) 1) (le x self.center)) (c.to_double.ensures ∙ ap to_double (nearest_is c.struct_told-1.given))

one_open : (c : After-upward-positive) → let self = c.args.self in self.positive_done && self.negative_done ≡ false
one_open c = c.if-self.false

emitted : (c : After-upward-positive) → c.args.self.emitted_nearest ≡ true
emitted c = not-false _ c.if-not-self.false

pub tried-requires : goal.tried-requires
tried-requires c =
    let u = (goal.at.tried-requires c).After-upward-positive in
    let up = u.upward-positive.result in
    let skipped = c.done-skipped.result in
    rw (c.from.ensures, moved_on c.args.self.step skipped, turned up skipped)
    (first_step c.args.self up skipped c.requires (emitted u) (direction u) c.done-skipped.ensures (one_open u))

pub returns : goal.returns
returns c =
    let u = (goal.at.returns c).After-upward-positive in
    let self = u.args.self in
    let skipped = c.done-skipped.result in
    c.tried.ensures
    ∙ ap (λ (s : ℕ). child_of (second_step (one_step (at_step self s self.positive_done self.negative_done)))) (rw c.from.ensures (moved_on self.step skipped))
    ∙ next_skips self u.upward-positive.result (direction u) (one_open u) skipped c.done-skipped.ensures (emitted u)
