-- `consider` is the leaf of `nearest`: each exit is a law of `NearestLeaf`. Assumes nothing.
use mathlib.Core.Path.{sym, ◌∙◌}
use native.Mathlib.Omega.{arith}
use Rattle.search.proofs.NearestLeaf.{replaced, stayed}
use Rattle.search.proofs.consider.Goals as goal

pub returns-then-not-replaces : goal.returns-then-not-replaces
returns-then-not-replaces c =
    let a = c.args in
    stayed a.n a.s a.distance a.found.now (sym c.replaces.ensures ∙ c.if-not-replaces.true)

pub returns : goal.returns
returns c =
    let a = c.args in
    replaced a.n a.s a.distance a.found.now c.with_best.result c.with_best.ensures 1 (omega arith) (sym c.replaces.ensures ∙ c.if-not-replaces.false)
