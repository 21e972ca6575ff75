-- `before` compares as `lexicographic` does. Assumes nothing.
use Rattle.std.proofs.Common.{◌≡◌, ◌∙◌, ap, take, length, arith, length-take-le}
use Rattle.std.specs.Ordering.{is_lt}
use Rattle.sorting.proofs.Orders.{less_is}
use Rattle.search.proofs.before.Goals as goal

pub returns : goal.returns
returns c =
    let a = c.args in
    let e : length (take a.n a.point.now) ≡ length (take a.n a.best.now) = omega (arith, length-take-le a.n a.point.now c.requires.point_fits, length-take-le a.n a.best.now c.requires.best_fits) in
    c.is_lt.ensures ∙ ap is_lt c.cmp.ensures ∙ less_is (take a.n a.point.now) (take a.n a.best.now) e
