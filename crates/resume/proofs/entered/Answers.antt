-- `entered` makes the generator of a level from the centre that `center` sums, and takes its first child. Assumes nothing.
use Rattle.std.proofs.Common.{Some}
use mathlib.Core.Path.{◌≡◌, sym, ap, ◌∙◌}
use Rattle.children.specs.declared.Children.{Children}
use lib.ListN.{get_or}
use lib.Ieee.{Float, nan}
use Rattle.definitions.specs.Table.{table}
use Rattle.definitions.specs.Zigzag.{Zigzag, Start, open_level, start}
use Rattle.definitions.proofs.Zigzags.{start_opens}
use Rattle.distance.specs.Residuals.{center_sum}
use Rattle.children.specs.View.{zigzag, level_of}
use Rattle.children.proofs.Outcomes.{open_of, closed_of}
use Rattle.resume.specs.View.{entered_of}
use Rattle.resume.proofs.entered.Goals as goal
use Rattle.resume.proofs.entered.Goals.{After-new}

-- the level's start, by its centre
abbrev start_of : After-new → Float → Start
start_of m x = start x m.args.remaining (get_or m.args.weights.now m.args.level nan)

abbrev summed : After-new → Float
summed m = center_sum (table m.args.weights.now m.args.mu.now) m.args.target.now m.args.rest.now m.args.level

made : (m : After-new) → m.new.result ≡ level_of (start_of m (summed m))
made m = m.new.ensures ∙ ap (λ (x : Float). level_of (start_of m x)) m.center-value.ensures

pub returns-in_default : goal.returns-in_default
returns-in_default c =
    let m = (goal.at.returns-in_default c).After-new in
    ap entered_of (sym (closed_of (start_of m (summed m)) (sym c.in_default.is ∙ made m)))

opens : (m : After-new) (g : Children) → m.new.result ≡ Some g → start_of m (summed m) ≡ open_level (zigzag g)
opens m g e = open_of _ g (sym e ∙ made m)

pub first-requires : goal.first-requires
first-requires c =
    let m = (goal.at.first-requires c).After-new in
    let g = c.in-Some.made in
    ap (λ (h : Zigzag). h.emitted_nearest) (start_opens (summed m) m.args.remaining (get_or m.args.weights.now m.args.level nan) (zigzag g) (opens m g c.in-Some.is))

pub returns : goal.returns
returns c = c.first.ensures ∙ ap entered_of (sym (opens (goal.at.returns c).After-new c.in-Some.made c.in-Some.is))
