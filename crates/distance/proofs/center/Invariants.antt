-- `center` adds up what `sum_from` does: the invariant is that what is left to add to `sum` gives the whole. Assumes nothing.
use mathlib.Core.Path.{◌≡◌}
use Prim.Native.Nat.{◌+◌, ◌*◌}
use Rattle.definitions.specs.Seeds.{sum_from}
use Rattle.lists.specs.Places.{places}
use Rattle.distance.proofs.center.Given as goal

abbrev pub invariant-loop-j : goal.invariant-loop-j
invariant-loop-j l =
    (l.at ≡ l.j * l.n + l.level) × (sum_from l.n l.mu l.level l.j (places l.n l.j l.rest) l.sum ≡ sum_from l.n l.mu l.level (l.level + 1) (places l.n (l.level + 1) l.rest) l.value)
