-- `changed_range_check` meets its contract: no coordinate passed has the fault. Assumes nothing.
use mathlib.Core.Path.{◌≡◌, sym}
use mathlib.Core.Bool.{true}
use native.Mathlib.Omega.{arith}
use borrow.Author.Rules.{rules}
use lib.ListN.{length}
use Rattle.definitions.specs.Refusals.{changed_range}
use Rattle.definitions.specs.Reference.{changed_fault}
use Rattle.definitions.proofs.Verdicts.{first_fault, no_fault}
use Rattle.reference.proofs.changed_range_check.Goals as goal

pub returns-then-not-difference_fits : goal.returns-then-not-difference_fits
returns-then-not-difference_fits c =
    let a = c.args in
    let fault : changed_fault a.point.now a.r c.loop-i.i ≡ true = search rules in
    sym (first_fault (changed_fault a.point.now a.r) changed_range (length a.point.now) c.loop-i.i (omega arith) c.loop-i.invariant fault)

pub returns : goal.returns
returns c =
    let a = c.args in
    sym (no_fault (changed_fault a.point.now a.r) changed_range (length a.point.now) (λ k below. c.loop-i.invariant k (omega arith)))
