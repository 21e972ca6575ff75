-- The checks of an ml search, cut where the code makes its candidate. Assumes nothing.
use mathlib.Core.Path.{◌≡◌, refl, ap}
use mathlib.Core.List.{List, [], ◌∷◌, ◌++◌, append_assoc}
use Prim.Native.Nat.{ℕ}
use lib.IntN.{ℤ}
use lib.Ieee.{Float}
use Rattle.definitions.specs.Table.{Table, dimension, largest_dimension}
use Rattle.definitions.specs.Distance.{distance}
use Rattle.definitions.specs.Seeds.{nearest_plane}
use Rattle.definitions.specs.Checks.{first_refusal, budget_check}
use Rattle.definitions.specs.Calls.{search_checks, ml_radius, ml_checks}
use Rattle.seeded.specs.Candidates.{total_checks}

module _ (t : Table) (target : List Float) (out : List ℤ) (budget : ℕ) where
  pub ml_cut : first_refusal ((search_checks largest_dimension t target out ++ budget_check budget ∷ []) ++ total_checks (dimension t) (ml_radius t target)) ≡ ml_checks largest_dimension t target out budget
  unfolding ml_checks
  ml_cut = ap first_refusal (append_assoc (search_checks largest_dimension t target out) (budget_check budget ∷ []) (total_checks (dimension t) (ml_radius t target)))

-- ml's radius, as the code computes it
pub ml_radius_is_lem : (t : Table) (target : List Float) → ml_radius t target ≡ distance t target (nearest_plane t target).point
unfolding ml_radius
ml_radius_is_lem t target = refl
