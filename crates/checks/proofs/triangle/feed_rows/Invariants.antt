-- `checks::feed_rows` meets its contract: after j turns the rows below j are fed. Assumes nothing.
use mathlib.Core.Path.{◌≡◌}
use Rattle.definitions.specs.Checks.{pass, read_indices}
use Rattle.definitions.specs.Entries.{fed_all, entries_at}
use Rattle.checks.specs.Triangle.{triangle_verdict}
use Rattle.checks.proofs.triangle.feed_rows.Given as goal

abbrev pub invariant-loop-j : goal.invariant-loop-j
invariant-loop-j l = triangle_verdict l.s ≡ fed_all pass (entries_at l.mu (read_indices l.n l.j))
