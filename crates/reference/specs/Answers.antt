-- What `change_reference` answers and leaves in the lent point; ' marks what it holds at exit. Definitions only.
use Rattle.std.specs.Prelude.{◌≡◌, ⊤, Result, List, ℕ, ℤ}
use Rattle.definitions.specs.Reference.{change_reference, change_output}
use Rattle.refusals.specs.Numbers.{verdict}
use Rattle.refusals.specs.declared.Refusal.{Refusal}

pub record ChangeAnswered (a : List ℤ) (r : ℕ) (v : Result ⊤ Refusal) (a' : List ℤ) : Type 0 where
  pub tells : verdict v ≡ change_reference a r
  pub writes : a' ≡ change_output (change_reference a r) a r
