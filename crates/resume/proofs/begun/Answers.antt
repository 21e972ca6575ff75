-- `begun` starts the machine: its exits are the laws of `Beginning`. Assumes nothing.
use mathlib.Core.Path.{sym, subst}
use Rattle.resume.specs.Ready.{Begun}
use Rattle.resume.proofs.Beginning.{begun_over, begun_open}
use Rattle.resume.proofs.begun.Goals as goal

pub returns-then-n-eq0 : goal.returns-then-n-eq0
returns-then-n-eq0 c =
    subst (Begun c.args.weights.now c.args.mu.now c.args.target.now c.args.radius) (sym c.with_best.ensures)
    (begun_over c.requires c.args.radius c.if-n-eq0.true)

pub returns : goal.returns
returns c =
    begun_open c.requires c.args.radius c.if-n-eq0.false c.entered-first.result c.entered-first.ensures c.waiting.result c.waiting.ensures c.one_more.result c.one_more.ensures
