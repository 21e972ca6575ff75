-- `levels_rise`: what is left of the test is the whole of it. Assumes nothing.
use Rattle.parts.proofs.Rising.{rising_all, rising_low, rising_high, rising_steps, rising_next}
use Rattle.parts.proofs.levels.levels_rise.Goals as goal
use Rattle.parts.proofs.levels.levels_rise.Goals.{then-level-low-via-then-level-low, then-level-low-via-else-level-low+then-level-n, then-level-low-via-else-level-low+else-level-n+then-counts-i}

pub returns-then-level-low : goal.returns-then-level-low
returns-then-level-low c =
    elim c.then-level-low.branch [
      | then-level-low-via-then-level-low w ↦ rising_low c.loop-i.invariant c.loop-i-test.true w.if-level-low.true
      | then-level-low-via-else-level-low+then-level-n w ↦ rising_high c.loop-i.invariant c.loop-i-test.true w.if-level-low.false w.if-level-n.true
      | then-level-low-via-else-level-low+else-level-n+then-counts-i w ↦ rising_steps c.loop-i.invariant c.loop-i-test.true w.if-level-low.false w.if-level-n.false w.if-counts-i.true
    ]

pub loop-i-preserved : goal.loop-i-preserved
loop-i-preserved c =
    rising_next c.loop-i.invariant c.loop-i-test.true c.if-level-low.false c.if-level-n.false c.if-counts-i.false

pub returns : goal.returns
returns c = rising_all c.loop-i.invariant c.loop-i-test.false
