-- The nearest walk with running centres: its point is a vector, and the radius that stands is from 0 to R. Assumes nothing.
use mathlib.Core.Path.{◌≡◌, sym, subst}
use Prim.Native.Nat.{ℕ}
use mathlib.Core.Bool.{Bool, true, false, cond}
use mathlib.Core.List.{List}
use lib.Dec.{T}
use lib.IntN.{ℤ}
use lib.Ieee.{Float, binary64}
use Rattle.rounding.specs.Kinds.{Finite, NonNegative}
use Rattle.definitions.specs.Table.{Table}
use Rattle.definitions.specs.Admitted.{is_vector}
use Rattle.definitions.specs.Walk.{ended, exhausted}
use Rattle.definitions.specs.Nearest.{Best, no_best, best, replaces, consider}
use Rattle.definitions.specs.Running.{running_nearest}
use Rattle.definitions.proofs.Running.{running_nearest_is}
use Rattle.theorems.specs.Unbudgeted.{nearer}
use Rattle.theorems.proofs.Limits.{Limits}
use Rattle.theorems.proofs.Unbudgeted.{Agrees}
use Rattle.theorems.proofs.Budget.{consider_leaf}
use Rattle.theorems.proofs.Standing.{Stands}
use Rattle.theorems.proofs.RunningWalks.{UpTo, running_all, running_agrees, running_stands}

module _ (t : Table) (target : List Float) (limits : Limits t target) (R : Float) (finite : Finite binary64 R) (nonneg : NonNegative binary64 R) where
  -- the best, if there is one, is a vector
  abbrev Vector : Best → Float → Type 0
  Vector no_best S = Unit {0}
  Vector (best zs) S = T (is_vector t zs)

  keeps : (zs : List ℤ) (d : Float) → T (is_vector t zs) → UpTo R d → (k : Best) (S : Float) → UpTo R S → Vector k S → UpTo R (nearer zs d k S).1 × Vector (nearer zs d k S).0 (nearer zs d k S).1
  keeps zs d vector u k S w h = go (replaces zs d k S)
    where
      go : (b : Bool) → UpTo R (cond b d S) × Vector (cond b (best zs) k) (cond b d S)
      go true = (u, vector)
      go false = (w, h)

  stands : (budget : ℕ) → Stands (λ k S. UpTo R S × Vector k S) (running_nearest t target R budget)
  stands budget = subst (Stands (λ k S. UpTo R S × Vector k S)) (sym (running_nearest_is t target R budget)) (running_stands t target limits R finite nonneg consider nearer consider_leaf Vector keeps no_best tt budget)

  -- the radius that stood when the budget was used up
  pub running_radius : (budget m : ℕ) (S : Float) → running_nearest t target R budget ≡ exhausted m S → UpTo R S
  running_radius budget m S e = (subst (Stands (λ k S. UpTo R S × Vector k S)) e (stands budget)).1.0

  -- the point, and its distance
  pub running_point : (budget : ℕ) (zs : List ℤ) (S : Float) (m : ℕ) → running_nearest t target R budget ≡ ended (best zs) S m → T (is_vector t zs) × UpTo R S
  running_point budget zs S m e = let (u, v) = subst (Stands (λ k S. UpTo R S × Vector k S)) e (stands budget) in (v, u)

-- how it ends at a budget, by the walk without one
pub nearest_running_agrees : (t : Table) (target : List Float) (R : Float) (budget : ℕ) → Agrees budget (running_all consider nearer consider_leaf t target no_best R) (running_nearest t target R budget)
nearest_running_agrees t target R budget = subst (Agrees budget (running_all consider nearer consider_leaf t target no_best R)) (sym (running_nearest_is t target R budget)) (running_agrees consider nearer consider_leaf t target no_best R budget)
