-- What `round` and `nearest_plane` answer and leave in the lent slices; ' marks what a slice holds at exit. Definitions only.
use Rattle.std.specs.Prelude.{◌≡◌, ⊤, Result, List, ℤ, Float}
use Rattle.definitions.specs.Table.{Table}
use Rattle.definitions.specs.Seeds.{nearest_plane}
use Rattle.definitions.specs.Calls as C
use Rattle.refusals.specs.Numbers.{verdict}
use Rattle.refusals.specs.declared.Refusal.{Refusal}

pub record RoundAnswered (coefficients : List Float) (out : List ℤ) (r : Result ⊤ Refusal) (out' : List ℤ) : Type 0 where
  pub tells : verdict r ≡ C.round coefficients out
  pub writes : out' ≡ C.round_output (C.round coefficients out) coefficients out

pub record PlaneAnswered (t : Table) (coefficients : List Float) (out : List ℤ) (r : Result ⊤ Refusal) (coefficients' : List Float) (out' : List ℤ) : Type 0 where
  pub tells : verdict r ≡ C.plane t coefficients out
  pub writes : out' ≡ C.plane_output (C.plane t coefficients out) t coefficients out
  pub leaves : coefficients' ≡ C.plane_coefficients (C.plane t coefficients out) t coefficients

-- what its levels leave once the checks have passed
pub record PlaneWritten (t : Table) (coefficients coefficients' : List Float) (out' : List ℤ) : Type 0 where
  pub point : out' ≡ (nearest_plane t coefficients).point
  pub left : coefficients' ≡ (nearest_plane t coefficients).left
