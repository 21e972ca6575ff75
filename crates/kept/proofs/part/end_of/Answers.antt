-- `end_of` meets its contract. Assumes nothing.
use Rattle.kept.proofs.Ends.{nothing_found, best_found}
use Rattle.kept.proofs.part.end_of.Goals as goal

pub returns-then-not-s : goal.returns-then-not-s
returns-then-not-s c = let a = c.args in nothing_found a.radius a.s a.out.now c.if-not-s.true

pub returns : goal.returns
returns c = let a = c.args in best_found a.radius a.s a.out.now c.if-not-s.false _ c.copy.ensures
