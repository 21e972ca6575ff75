-- What a `?` hands on of a refusal: the refusal itself. Assumes nothing.
use mathlib.Core.Path.{◌≡◌, ap, ◌∙◌}
use Rattle.std.specs.Prelude.{Result, Err}
use Rattle.std.specs.Result.{IsErrAnd}
use Rattle.std.proofs.lemmas.Result.{err_from_is_err_and}

-- the result at the exit of a `?` whose error stays of its type
pub handed_up : {T E : Type 0} {e : E} (r : Result T E) → IsErrAnd r (λ y. y ≡ e) → r ≡ Err e
handed_up r h = let p = err_from_is_err_and r h in p.1 ∙ ap Err p.2
