-- `range_check` meets its contract: `position` finds the first element with the fault. Assumes nothing.
use mathlib.Core.Path.{◌≡◌, sym}
use mathlib.Core.Bool.{true, false}
use Prim.Native.Nat.{ℕ, ◌+◌, ◌<◌}
use borrow.Author.Rules.{rules}
use lib.ListN.{length}
use Rattle.definitions.specs.Refusals.{matrix_range}
use Rattle.definitions.proofs.Verdicts.{first_fault, no_fault}
use Rattle.matrices.proofs.Elements.{fault_at}
use Rattle.matrices.proofs.range_check.Goals as goal

pub returns-in-Some : goal.returns-in-Some
returns-in-Some c =
    let xs = c.args.elements.now in
    let before : (k : ℕ) → k < c.in-Some.k → fault_at xs k ≡ false = search rules in
    let here : fault_at xs c.in-Some.k ≡ true = search rules in
    sym (first_fault (fault_at xs) (λ k. matrix_range (c.args.first + k)) (length xs) c.in-Some.k (search rules) before here)

pub returns-in-None : goal.returns-in-None
returns-in-None c =
    let xs = c.args.elements.now in
    sym (no_fault (fault_at xs) (λ k. matrix_range (c.args.first + k)) (length xs) (search rules))
