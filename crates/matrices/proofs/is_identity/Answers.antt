-- `is_identity` meets its contract: `all` tests the rows. Assumes nothing.
use mathlib.Core.Path.{refl, sym, ◌∙◌}
use mathlib.Core.Bool.{Bool, true, false}
use Prim.Native.Nat.{ℕ}
use native.Mathlib.Omega.{arith}
use borrow.Author.Rules.{rules}
use Rattle.std.proofs.lemmas.Iterator.{cases_from_all, YieldsList-from_range}
use Rattle.definitions.specs.Prepared.{each_below, same_integer, product_element, identity_element}
use Rattle.definitions.proofs.Prepared.{identity_is}
use Rattle.matrices.proofs.Elements.{Answered, each_tested}
use Rattle.matrices.proofs.is_identity.Goals as goal

pub returns : goal.returns
returns c =
    let a = c.args in
    let test : ℕ → Bool = λ row. each_below a.n (λ column. same_integer (product_element a.n a.a.now a.b.now row column) (identity_element row column)) in
    each_tested a.n test _ (cases_from_all _ _ c.all.result (Answered a.n test true) (Answered a.n test false) c.all.ensures.ran (YieldsList-from_range 0 a.n a.n refl (omega arith)) (λ x q k. (search rules, λ below. search rules)) (λ x q k below. search rules)) ∙ sym (identity_is a.n a.a.now a.b.now)
