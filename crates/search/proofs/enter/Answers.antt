-- `enter` makes the generator of a level from the centre that `center` sums. Assumes nothing.
use mathlib.Core.Path.{ap, ◌∙◌}
use lib.ListN.{get_or}
use lib.Ieee.{Float, nan}
use Rattle.definitions.specs.Zigzag.{start}
use Rattle.children.specs.View.{level_of}
use Rattle.search.proofs.enter.Goals as goal

pub returns : goal.returns
returns c =
    let a = c.args in
    c.new.ensures ∙ ap (λ (x : Float). level_of (start x a.remaining (get_or a.weights.now a.level nan))) c.center-value.ensures
