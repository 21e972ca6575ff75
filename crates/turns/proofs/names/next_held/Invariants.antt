-- The loop of `next_held` keeps `Looking`: so many names were tried, none of them held. Assumes nothing.
use Rattle.turns.proofs.Looking.{Looking}
use Rattle.turns.proofs.names.next_held.Given as goal

abbrev pub invariant-loop : goal.invariant-loop
invariant-loop l = Looking l.counts l.last l.name l.counter
