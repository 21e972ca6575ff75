-- `search_walk` meets its contract: the walk by n. Assumes nothing.
use mathlib.Core.Path.{sym}
use Rattle.definitions.specs.Table.{table}
use Rattle.definitions.proofs.Answers.{list_search_small, list_search_large}
use Rattle.listing.proofs.WalkEnds.{walked_as}
use Rattle.listing.proofs.walks.search_walk.Goals as goal

pub returns-then-weights-le-LARGEST_DIMENSION : goal.returns-then-weights-le-LARGEST_DIMENSION
returns-then-weights-le-LARGEST_DIMENSION c =
    let a = c.args in
    walked_as (sym (list_search_small (table a.weights.now a.mu.now) a.target.now a.radius a.budget c.if-weights-le-LARGEST_DIMENSION.true)) c.list_walk.ensures

pub returns : goal.returns
returns c =
    let a = c.args in
    walked_as (sym (list_search_large (table a.weights.now a.mu.now) a.target.now a.radius a.budget c.if-weights-le-LARGEST_DIMENSION.false)) c.running_walk.ensures
