-- `checks::feed_row` meets its contract: after k turns the first k entries of the row are fed. Assumes nothing.
use mathlib.Core.Path.{◌≡◌}
use Rattle.definitions.specs.Checks.{count_from}
use Rattle.definitions.specs.Entries.{fed_all, entries_at}
use Rattle.checks.specs.Triangle.{triangle_verdict}
use Rattle.checks.proofs.triangle.feed_row.Given as goal

abbrev pub invariant-loop-k : goal.invariant-loop-k
invariant-loop-k l = triangle_verdict l.s ≡ fed_all (triangle_verdict l.initial.s) (entries_at l.mu (count_from l.first l.k))
