-- `trial_of` gives an integer its double and its term. Assumes nothing.
use mathlib.Core.Path.{◌≡◌, ap, ◌∙◌}
use mir.Syntax.{w64}
use mir.ValLaws.{to_z-of_z}
use Rattle.rounding.specs.Integers.{to_double}
use Rattle.children.proofs.Terms.{term_at}
use Rattle.children.proofs.trial_of.Goals as goal

pub returns : goal.returns
returns c =
    let a = c.args in
    let same = to_z-of_z w64 a.z c.ranges.z in
    let value : c.to_double-value.result ≡ to_double a.z = c.to_double-value.ensures ∙ ap to_double same in
    rw (same, c.term.ensures ∙ term_at _ _ _ a.z value, value)
