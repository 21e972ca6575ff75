-- `center` adds up what `sum_from` does: the invariant is that what is left to add to `sum` gives the whole. Assumes nothing.
use mathlib.Core.Path.{ap, sym, ◌∙◌}
use Prim.Native.Nat.{ℕ, ◌+◌}
use native.Mathlib.Omega.{arith}
use native.Mathlib.Nat.{add-mul}
use lib.ListN.{get_or}
use lib.Ieee.{nan, binary64, add, mul}
use Rattle.definitions.specs.Seeds.{sum_from}
use Rattle.lists.specs.Places.{places}
use Rattle.distance.proofs.Centers.{sum_from_step, sum_from_stop}
use Rattle.distance.proofs.center.Goals as goal

pub loop-j-preserved : goal.loop-j-preserved
loop-j-preserved c =
    let a = c.args in
    let step = sum_from_step a.n a.mu.now a.level a.rest.now (omega arith) c.loop-j.j c.loop-j.sum (omega arith) in
    (omega (arith, add-mul c.loop-j.j 1 a.n), ap (λ (i : ℕ). sum_from a.n a.mu.now a.level (c.loop-j.j + 1) (places a.n (c.loop-j.j + 1) a.rest.now) (add binary64 c.loop-j.sum (mul binary64 (get_or a.rest.now c.loop-j.j nan) (get_or a.mu.now i nan)))) c.loop-j.invariant.0 ∙ sym step ∙ c.loop-j.invariant.1)

pub returns : goal.returns
returns c =
    let a = c.args in
    sym (sum_from_stop a.n a.mu.now a.level a.rest.now (omega arith) c.loop-j.j c.loop-j.sum (omega arith)) ∙ c.loop-j.invariant.1
