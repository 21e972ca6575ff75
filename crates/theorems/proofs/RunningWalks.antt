-- The walk with running centres: what holds of each leaf, of the radius that stands and of what is kept, and how it ends at a budget. Assumes nothing.
use mathlib.Core.Path.{◌≡◌, sym, ap, subst}
use mathlib.Core.Logic.{inl, inr}
use Prim.Native.Nat.{ℕ, suc, ◌+◌, ◌<◌, zero-le}
use native.Mathlib.Nat.{zero-add}
use native.Mathlib.Omega.{arith}
use mathlib.Core.List.{List, [], ◌∷◌}
use lib.Dec.{T}
use lib.ListN.{length, get_or}
use lib.IntN.{ℤ}
use lib.Ieee.{Float, nan, binary64, add, sub, le}
use lib.Ieee.Fits.{and_l}
use Rattle.rounding.specs.Integers.{is_i64}
use Rattle.rounding.specs.Kinds.{Finite, NonNegative}
use Rattle.rounding.proofs.Interface.{number, zero_nonneg, nonneg_not_lt, not_lt→le, float_le_trans, float_le_refl, finite_below, add_nonneg, sub_number, term_nonneg}
use Rattle.definitions.specs.Table.{Table, dimension, weight, plus_zero}
use Rattle.definitions.specs.Distance.{term}
use Rattle.definitions.specs.Admitted.{all_i64, is_vector}
use Rattle.definitions.specs.Walk.{Walked, ended, exhausted, Leaf, walk}
use Rattle.definitions.specs.Running.{Running, initialize_centers, Beside, beside, with_running, only_kept, leaf_beside, running_centers, running_walk}
use Rattle.definitions.proofs.Distances.{term_is}
use Rattle.definitions.proofs.Admissions.{all_i64_nil, all_i64_intro, vector_intro}
use Rattle.definitions.proofs.Running.{running_walk_is}
use Rattle.theorems.specs.Counting.{tally}
use Rattle.theorems.specs.Children.{children, is_child, times}
use Rattle.theorems.specs.Unbudgeted.{Progress, Outcome, walk_all}
use Rattle.theorems.proofs.Booleans.{tally_some}
use Rattle.theorems.proofs.Limits.{Limits}
use Rattle.theorems.proofs.RunningCenters.{Steady, steady_start, steady_update}
use Rattle.theorems.proofs.Generators.{is_child_is}
use Rattle.theorems.proofs.Children.{children_once}
use Rattle.theorems.proofs.Unbudgeted.{Agrees, LeafOf, walk_agrees}
use Rattle.theorems.proofs.Standing.{Stands, walk_stands}

-- ---- a leaf, with the running centres beside what is kept
abbrev pub beside_outcome : {K : Type 0} → Outcome K → Outcome (Beside K)
beside_outcome outcome zs d b S = (beside (outcome zs d b.kept S).0 b.running, (outcome zs d b.kept S).1)

pub beside_leaf : {K : Type 0} (leaf : Leaf K) (outcome : Outcome K) → LeafOf leaf outcome → LeafOf (leaf_beside leaf) (beside_outcome outcome)
beside_leaf leaf outcome is zs d b S m = ap (with_running b.running) (is zs d b.kept S m)

-- ---- how it ends at a budget, by the walk without one
module _ {K : Type 0} (leaf : Leaf K) (outcome : Outcome K) (leaf_is : LeafOf leaf outcome) (t : Table) (target : List Float) (k₀ : K) (R : Float) where
  abbrev pub beside_all : Progress (Beside K)
  beside_all = walk_all (beside_outcome outcome) (running_centers t) t (dimension t) [] plus_zero (record { kept = beside k₀ (initialize_centers t target); standing = R; nodes = 0 })

  abbrev pub running_all : Progress K
  running_all = record { kept = beside_all.kept.kept; standing = beside_all.standing; nodes = beside_all.nodes }

  pub running_agrees : (budget : ℕ) → Agrees budget running_all (running_walk leaf t target k₀ R budget)
  running_agrees budget =
      subst (Agrees budget running_all) (sym (running_walk_is t target leaf k₀ R budget))
      (go _ (walk_agrees (leaf_beside leaf) (beside_outcome outcome) (beside_leaf leaf outcome leaf_is) (running_centers t) t budget (dimension t) [] plus_zero (record { kept = beside k₀ (initialize_centers t target); standing = R; nodes = 0 }) zero-le))
    where
      go : (w : Walked (Beside K)) → Agrees budget beside_all w → Agrees budget running_all (only_kept w)
      go w (inl (h, e)) = inl (h, ap only_kept e)
      go w (inr (h, S, e)) = inr (h, S, ap only_kept e)

-- ---- the prefixes that it comes to
-- a radius that stands, a partial sum or a distance: from 0 to R
pub record UpTo (R S : Float) : Type 0 where
  pub plus : NonNegative binary64 S
  pub within : T (le S R)

module _ (t : Table) (target : List Float) (limits : Limits t target) (R : Float) (finite : Finite binary64 R) (nonneg : NonNegative binary64 R) where
  pub up_to_finite : {S : Float} → UpTo R S → Finite binary64 S
  up_to_finite u = finite_below u.plus finite u.within

  pub up_to_R : UpTo R R
  up_to_R = record { plus = nonneg; within = float_le_refl binary64 (number finite) }

  pub record Prefix (d : ℕ) (zs : List ℤ) (p : Float) : Type 0 where
    pub levels : length zs + d ≡ dimension t
    pub all : T (all_i64 zs)
    pub sum : UpTo R p

  pub no_prefix : Prefix (dimension t) [] plus_zero
  no_prefix = record { levels = zero-add (dimension t); all = all_i64_nil; sum = record { plus = zero_nonneg binary64; within = not_lt→le binary64 (number finite) (zero_nonneg binary64).num (nonneg_not_lt nonneg) } }

  -- a level below a prefix, entered with these running centres at the standing radius S
  module _ (level : ℕ) (zs : List ℤ) (p : Float) (at : Prefix (suc level) zs p) (r : Running) (steady : Steady t r) (S : Float) (radius : UpTo R S) where
    abbrev c : Float
    c = get_or r.centers level nan

    pub below : level < dimension t
    below = omega (arith, at.levels)

    centre : Finite binary64 c
    centre = (steady.within level below).fin

    -- its children are those that pass, each once
    pub child_times : (z : ℤ) → times z (children c (sub binary64 S p) (weight t level)) ≡ tally (is_child c (sub binary64 S p) (weight t level) z)
    child_times = children_once c (sub binary64 S p) (weight t level) centre (limits.weights level below) (sub_number (up_to_finite radius) (up_to_finite at.sum))

    module _ (z : ℤ) (child : 0 < times z (children c (sub binary64 S p) (weight t level))) where
      pub child_integer : T (is_i64 z)
      child_integer = and_l (is_i64 z) _ (subst T (is_child_is c (sub binary64 S p) (weight t level) z) (tally_some (is_child c (sub binary64 S p) (weight t level) z) (subst (λ (k : ℕ). 0 < k) (child_times z) child)))

      term_plus : NonNegative binary64 (term (weight t level) c z)
      term_plus = subst (NonNegative binary64) (sym (term_is (weight t level) c z)) (term_nonneg binary64 (weight t level) c (limits.weights level below) centre z child_integer)

      -- one whose sum is within a radius that stands then
      pub child_prefix : (S' : Float) → UpTo R S' → T (le (add binary64 p (term (weight t level) c z)) S') → Prefix level (z ∷ zs) (add binary64 p (term (weight t level) c z))
      child_prefix S' u l =
          let sum = (add_nonneg binary64 p (term (weight t level) c z) at.sum.plus term_plus).sum in
          record {
            levels = omega (arith, at.levels);
            all = all_i64_intro z zs child_integer at.all;
            sum = record { plus = sum; within = float_le_trans binary64 sum.num u.plus.num (number finite) l u.within };
          }

  leaf_vector : (zs : List ℤ) (p : Float) → Prefix 0 zs p → T (is_vector t zs)
  leaf_vector zs p at = vector_intro t zs (omega (arith, at.levels)) at.all

  -- ---- what is kept has P, and the radius that stands is from 0 to R, if each leaf leaves it so
  module _ {K : Type 0} (leaf : Leaf K) (outcome : Outcome K) (leaf_is : LeafOf leaf outcome) (P : K → Float → Type 0)
      (keeps : (zs : List ℤ) (d : Float) → T (is_vector t zs) → UpTo R d → (k : K) (S : Float) → UpTo R S → P k S → UpTo R (outcome zs d k S).1 × P (outcome zs d k S).0 (outcome zs d k S).1) where
    record Goes (b : Beside K) (S : Float) : Type 0 where
      steady : Steady t b.running
      radius : UpTo R S
      held : P b.kept S

    abbrev Told : K → Float → Type 0
    Told k S = UpTo R S × P k S

    leaf_goes : (zs : List ℤ) (p : Float) → Prefix 0 zs p → (b : Beside K) (S : Float) → Goes b S → Goes (beside_outcome outcome zs p b S).0 (beside_outcome outcome zs p b S).1
    leaf_goes zs p at b S g = let (u, h) = keeps zs p (leaf_vector zs p at) at.sum b.kept S g.radius g.held in record { steady = g.steady; radius = u; held = h }

    pub running_stands : (k₀ : K) → P k₀ R → (budget : ℕ) → Stands Told (running_walk leaf t target k₀ R budget)
    running_stands k₀ h budget =
        subst (Stands Told) (sym (running_walk_is t target leaf k₀ R budget))
        (go (walk (leaf_beside leaf) (running_centers t) t budget (dimension t) [] plus_zero (ended (beside k₀ (initialize_centers t target)) R 0)) (walk_stands (leaf_beside leaf) (beside_outcome outcome) (beside_leaf leaf outcome leaf_is) (running_centers t) t budget Goes Prefix
        (λ level zs p at b S g z child b' S' g' l. child_prefix level zs p at b.running g.steady S g.radius z child S' g'.radius l)
        (λ level zs p at b S g z child b' S' g'.
        record {
          steady = steady_update t target limits level (below level zs p at b.running g.steady S g.radius) z (child_integer level zs p at b.running g.steady S g.radius z child) b'.running g'.steady;
          radius = g'.radius;
          held = g'.held;
        })
        leaf_goes (dimension t) [] plus_zero no_prefix (ended (beside k₀ (initialize_centers t target)) R 0) (record { steady = steady_start t target limits; radius = up_to_R; held = h })))
      where
        go : (w : Walked (Beside K)) → Stands Goes w → Stands Told (only_kept w)
        go (ended b S m) g = (g.radius, g.held)
        go (exhausted m S) (b, g) = (b.kept, (g.radius, g.held))
