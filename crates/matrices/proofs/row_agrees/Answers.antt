-- `row_agrees` meets its contract: `all` tests the row's elements. Assumes nothing.
use mathlib.Core.Path.{refl}
use mathlib.Core.Bool.{Bool, true, false}
use Prim.Native.Nat.{ℕ}
use native.Mathlib.Omega.{arith}
use borrow.Author.Rules.{rules}
use Rattle.std.proofs.lemmas.Iterator.{cases_from_all, YieldsList-from_range}
use Rattle.definitions.specs.Prepared.{same_integer, product_element, identity_element}
use Rattle.matrices.proofs.Elements.{Answered, each_tested}
use Rattle.matrices.proofs.row_agrees.Goals as goal

pub returns : goal.returns
returns c =
    let a = c.args in
    let test : ℕ → Bool = λ column. same_integer (product_element a.n a.a.now a.b.now a.row column) (identity_element a.row column) in
    each_tested a.n test _ (cases_from_all _ _ c.all.result (Answered a.n test true) (Answered a.n test false) c.all.ensures.ran (YieldsList-from_range 0 a.n a.n refl (omega arith)) (λ x q k. (search rules, λ below. search rules)) (λ x q k below. search rules))
