-- `search_walk` meets its contract: the walk by n. Assumes nothing.
use mathlib.Core.Path.{sym}
use Rattle.definitions.specs.Table.{table}
use Rattle.definitions.proofs.Answers.{search_small, search_large}
use Rattle.enumerate.proofs.Answers.{walked_as}
use Rattle.enumerate.proofs.search_walk.Goals as goal

pub returns-then-weights-le-LARGEST_DIMENSION : goal.returns-then-weights-le-LARGEST_DIMENSION
returns-then-weights-le-LARGEST_DIMENSION c =
    let a = c.args in
    walked_as (sym (search_small (table a.weights.now a.mu.now) a.target.now a.radius a.budget c.if-weights-le-LARGEST_DIMENSION.true)) c.nearest_walk.ensures

pub returns : goal.returns
returns c =
    let a = c.args in
    walked_as (sym (search_large (table a.weights.now a.mu.now) a.target.now a.radius a.budget c.if-weights-le-LARGEST_DIMENSION.false)) c.running_walk.ensures
