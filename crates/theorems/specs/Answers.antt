-- What the theorems say of a call's answer: of a point, of a list, of its walk's end, and of its refusals. Definitions only.
use Rattle.std.specs.Prelude.{◌≡◌, not, ◌⊎◌, ◌↔◌, ℕ, ◌≤◌, ◌<◌, T, length, ℤ, Float}
use mathlib.Core.List.{List, map, Memᴰ}
use Rattle.std.specs.Float.Ieee.{le, lt}
use Rattle.definitions.specs.Table.{Table, minus_zero}
use Rattle.definitions.specs.Distance.{distance, has_distance}
use Rattle.definitions.specs.Admitted.{is_vector, admitted, opened}
use Rattle.definitions.specs.Walk.{Walked, ended, exhausted}
use Rattle.definitions.specs.Nearest.{Best, no_best, best}
use Rattle.definitions.specs.Listing.{ListPoint, sorted}
use Rattle.definitions.specs.Refusals.{Refusal, real, budget_exhausted, outside_radius, list_full}
use Rattle.definitions.specs.Checks.{Verdict, pass, refuse}
use Rattle.definitions.specs.Calls.{Answer, found, refused, NearestPoint, ListAnswer, written, coordinates}
use Rattle.theorems.specs.Counting.{EachOnce, NumberOf}
use Rattle.theorems.specs.Ordered.{vectors_of, OwnDistances}
use Rattle.theorems.specs.Refusals.{FirstFits, NoneFits}

-- what a point written is: a vector, admitted at the radius the walk starts from, and no vector has a smaller computed distance
pub record Nearest (t : Table) (target : List Float) (R : Float) (z : List ℤ) : Type 0 where
  pub vector : T (is_vector t z)
  pub admits : T (admitted t target R z)
  pub least : (y : List ℤ) → T (is_vector t y) → T (not (lt (distance t target y) (distance t target z)))

-- what a list found is: exactly the admitted vectors, each with its own distance, and as many nodes as opened prefixes
pub record Listed (t : Table) (target : List Float) (R : Float) (found : List ListPoint) (m : ℕ) : Type 0 where
  pub exact : EachOnce (admitted t target R) (vectors_of found)
  pub own : OwnDistances t target found
  pub nodes : NumberOf (opened t target R) m

-- the answer and the output slice at exit, for each end of the walk from R
pub record EndsAsWalk (R : Float) (w : Walked Best) (out : List ℤ) (answer : Answer NearestPoint) (out' : List ℤ) : Type 0 where
  pub point : (z : List ℤ) (S : Float) (m : ℕ) → w ≡ ended (best z) S m → (answer ≡ found (record { nodes = m; distance = S; point = z })) × (out' ≡ z)
  pub nothing : (S : Float) (m : ℕ) → w ≡ ended no_best S m → (answer ≡ refused (outside_radius R)) × (out' ≡ out)
  pub exhaustion : (m : ℕ) (S : Float) → w ≡ exhausted m S → (answer ≡ refused (budget_exhausted m S)) × (out' ≡ out)

-- the same of `list`, with both slices
pub record EndsAsListWalk (w : Walked (List ListPoint)) (distances : List Float) (points : List ℤ) (answer : Answer ListAnswer) (distances' : List Float) (points' : List ℤ) : Type 0 where
  pub room : (ps : List ListPoint) (S : Float) (m : ℕ) → w ≡ ended ps S m → length ps ≤ length distances →
      (answer ≡ found (record { nodes = m; points = sorted ps }))
      × (distances' ≡ written (map (λ (p : ListPoint). p.distance) (sorted ps)) distances)
      × (points' ≡ written (coordinates (sorted ps)) points)
  pub full : (ps : List ListPoint) (S : Float) (m : ℕ) → w ≡ ended ps S m → length distances < length ps →
      (answer ≡ refused (list_full (length ps))) × (distances' ≡ distances) × (points' ≡ points)
  pub exhaustion : (m : ℕ) (S : Float) → w ≡ exhausted m S → (answer ≡ refused (budget_exhausted m S)) × (distances' ≡ distances) × (points' ≡ points)

-- two radii that admit the same vectors and open the same prefixes
pub record SameAdmitted (t : Table) (target : List Float) (R S : Float) : Type 0 where
  pub admits : (z : List ℤ) → admitted t target R z ≡ admitted t target S z
  pub opens : (zs : List ℤ) → opened t target R zs ≡ opened t target S zs

-- what a radius says of distances: an admitted vector has a computed distance, of at most R; one that is not admitted has none below R
pub record RadiusBounds (t : Table) (target : List Float) (R : Float) : Type 0 where
  pub within : (y : List ℤ) → T (admitted t target R y) → T (has_distance t target y) × T (le (distance t target y) R)
  pub beyond : (y : List ℤ) → T (is_vector t y) → T (not (admitted t target R y)) → T (le R (distance t target y))

-- minus zero is not among the values of a refusal
abbrev pub NoMinusZero : Refusal → Type 0
NoMinusZero e = Memᴰ (real minus_zero) e.values → ⊥

-- a refusal under the one number or the other
abbrev pub Under : ℕ → ℕ → Refusal → Type 0
Under j k e = (e.number ≡ j) ⊎ (e.number ≡ k)

-- what promise 1 says of a call with these checks, which the search can end under j and k, which may be the same; `Unchanged` says that the slices at exit hold what they held
pub record Demand1 {A : Type 0} (checks : List Verdict) (j k : ℕ) (answer : Answer A) (Unchanged : Type 0) : Type 0 where
  -- refused under a number other than j and k exactly by the first check that fits, with its number and its values
  pub refuses : (e : Refusal) → FirstFits checks e ↔ ((answer ≡ refused e) × (Under j k e → ⊥))
  -- an answer, or a refusal under j or k, exactly where no check fits
  pub answers : NoneFits checks ↔ (((a : A) × (answer ≡ found a)) ⊎ ((e : Refusal) × (answer ≡ refused e) × Under j k e))
  pub unchanged : (e : Refusal) → answer ≡ refused e → Unchanged

-- the same of calls without a walk, which are refused by their checks alone
pub record VerdictDemand1 (checks : List Verdict) (verdict : Verdict) (Unchanged : Type 0) : Type 0 where
  pub refuses : (e : Refusal) → FirstFits checks e ↔ (verdict ≡ refuse e)
  pub passes : NoneFits checks ↔ (verdict ≡ pass)
  pub unchanged : (e : Refusal) → verdict ≡ refuse e → Unchanged
