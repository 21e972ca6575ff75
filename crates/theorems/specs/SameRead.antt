-- Two tables that differ at most in entries mu that are not read (docs/SPECIFICATION.md, "Terms"). Definitions only.
use Rattle.std.specs.Prelude.{ℕ, ◌<◌, ◌≡◌, length}
use Rattle.definitions.specs.Table.{Table, dimension, entry}

pub record SameRead (t t' : Table) : Type 0 where
  pub weights : t.weights ≡ t'.weights
  pub mu_length : length t.mu ≡ length t'.mu
  pub entries : (j i : ℕ) → i < j → j < dimension t → entry (dimension t) t.mu j i ≡ entry (dimension t) t'.mu j i
