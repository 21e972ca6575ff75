-- `Children::new` is the zigzag's start. Assumes nothing.
use mathlib.Core.Path.{◌≡◌, ap, sym, ◌∙◌}
use mathlib.Core.Bool.{Bool, true, false, cond}
use lib.IntN.{ℤ}
use lib.Ieee.{Float, le}
use mir.Syntax.{w64}
use mir.ValLaws.{to_z-of_z}
use Rattle.rounding.specs.Integers.{round_away}
use Rattle.definitions.specs.Distance.{term}
use Rattle.definitions.specs.Zigzag.{open_level, no_children, start}
use Rattle.definitions.proofs.Zigzags.{start_at, start_is}
use Rattle.std.proofs.Common.{Some}
use Rattle.children.specs.View.{generator_of, level_of}
use Rattle.children.proofs.Terms.{term_at}
use Rattle.children.proofs.Children.new.Goals as goal
use Rattle.children.proofs.Children.new.Goals.{After-term}

-- the start, by the test of the code
decided : (c : After-term) (passed : Bool) → let a = c.args in le c.term.result a.remaining ≡ passed → start a.center a.remaining a.weight ≡ cond passed (open_level (start_at a.center a.remaining a.weight (round_away a.center))) no_children
decided c passed t =
    let a = c.args in
    let e : c.term.result ≡ term a.weight a.center (round_away a.center) = c.term.ensures ∙ term_at _ _ _ (round_away a.center) c.rounded_away-nearest.ensures.double in
    start_is a.center a.remaining a.weight
    ∙ ap (λ (b : Bool). cond b (open_level (start_at a.center a.remaining a.weight (round_away a.center))) no_children) (ap (λ (x : Float). le x a.remaining) (sym e) ∙ t)

pub returns-then-term-remaining : goal.returns-then-term-remaining
returns-then-term-remaining c =
    let t = (goal.at.returns-then-term-remaining c).After-term in
    let n = t.rounded_away-nearest in
    let a = t.args in
    let m = to_z-of_z w64 n.result.integer (record { sfits = c.struct_told-1.given.0.1 }) ∙ n.ensures.integer in
    ap (λ (z : ℤ). Some (generator_of (start_at a.center a.remaining a.weight z))) m
    ∙ ap level_of (sym (decided t true c.if-term-remaining.true))

pub returns : goal.returns
returns c = ap level_of (sym (decided (goal.at.returns c).After-term false c.if-term-remaining.false))
