-- The widened radius has the sign plus and is the same for both zeros, and with a candidate within the radius the search at it never ends with no best. The point of `nearest_plane` is such a candidate for its own distance. Assumes nothing.
use mathlib.Core.Path.{◌≡◌, refl, sym, ap, ◌∙◌, subst}
use mathlib.Core.Logic.{◌⊎◌, inl, inr}
use Prim.Native.Nat.{ℕ, zero, suc, ◌+◌, ◌≤◌, ◌<◌}
use native.Mathlib.Nat.{eq-zero-or-pos, zero-add, add-zero, suc-add, add-suc, suc-ne-zero}
use mathlib.Core.Bool.{not}
use mathlib.Core.List.{List, [], ◌∷◌}
use lib.Dec.{T}
use lib.ListN.{length}
use lib.IntN.{ℤ}
use lib.Ieee.{Float, binary64, lt, fits}
use lib.Ieee.Scale.{finite}
use lib.Ieee.Fits.{and_i}
use Rattle.rounding.specs.Integers.{round_away}
use Rattle.rounding.specs.Kinds.{Finite, NonNegative}
use Rattle.rounding.proofs.Interface.{number, float_le_refl, float_le_lt_trans, not_lt→le, le→not_lt, nonneg_not_lt, round_away_is_i64, widened as widened_by, widening_fits, widening_lt, widening_nonneg, widening_same}
use Rattle.definitions.specs.Table.{Table, dimension, coordinate}
use Rattle.definitions.specs.Distance.{distance}
use Rattle.definitions.specs.Admitted.{all_i64, is_vector, passes, admitted}
use Rattle.definitions.specs.Walk.{ended}
use Rattle.definitions.specs.Nearest.{no_best, nearest_walk}
use Rattle.definitions.specs.Seeds.{sum_from, Plane, plane_level, plane_levels, nearest_plane, widened}
use Rattle.definitions.specs.Checks.{handed_on}
use Rattle.definitions.specs.Calls.{ml_radius}
use Rattle.definitions.proofs.Admissions.{all_i64_nil, all_i64_intro, vector_length, vector_intro, passes_nil, admitted_is}
use Rattle.definitions.proofs.Leaves.{plane_point, plane_zero, plane_suc, plane_is}
use Rattle.theorems.proofs.Booleans.{of_true}
use Rattle.theorems.proofs.Limits.{Limits}
use Rattle.theorems.proofs.Sums.{distance_nonneg, below_admitted}
use Rattle.theorems.proofs.Least.{outside_exactly}

-- ---- the widened radius
widened_is : (n : ℕ) (R : Float) → widened n R ≡ widened_by n R
unfolding widened
widened_is n R = refl

-- that of the radius handed on is that of the radius
pub widened_same : (n : ℕ) (R : Float) → n ≤ 64 → T (fits binary64 R) → widened n R ≡ widened n (handed_on R)
widened_same n R few d = widened_is n R ∙ widening_same n R few d ∙ sym (widened_is n (handed_on R))

-- it is a double, whatever the radius
pub widened_double : (n : ℕ) (R : Float) → T (fits binary64 (widened n R))
widened_double n R = subst (λ (x : Float). T (fits binary64 x)) (sym (widened_is n R)) (widening_fits n R)

module _ (t : Table) (target : List Float) (limits : Limits t target) (R : Float) (fin : Finite binary64 R) (nonneg : NonNegative binary64 R) (wide : Finite binary64 (widened (dimension t) R)) where
  -- it is above the radius, if n is not 0
  above : 0 < dimension t → T (lt R (widened (dimension t) R))
  above h = subst (λ (x : Float). T (lt R x)) (sym (widened_is (dimension t) R)) (widening_lt (dimension t) R limits.small fin (nonneg_not_lt nonneg) h)

  -- it has the sign plus
  pub widened_nonneg : NonNegative binary64 (widened (dimension t) R)
  widened_nonneg = subst (NonNegative binary64) (sym (widened_is (dimension t) R)) (widening_nonneg (dimension t) R limits.small fin (nonneg_not_lt nonneg) nonneg)

  module _ (z : List ℤ) (v : T (is_vector t z)) (h : T (not (lt R (distance t target z)))) where
    -- the widened radius is strictly above the distance of a candidate within the radius
    pub candidate_below : 0 < dimension t → T (lt (distance t target z) (widened (dimension t) R))
    candidate_below p =
        let n = (distance_nonneg t target limits z v).num in
        float_le_lt_trans binary64 n (number fin) (number wide) (not_lt→le binary64 (number fin) n h) (above p)

    -- so such a candidate is admitted at the widened radius; of no numbers, it passes every test
    pub candidate_admitted : T (admitted t target (widened (dimension t) R) z)
    candidate_admitted = go (eq-zero-or-pos (dimension t)) z v candidate_below
      where
        go : (dimension t ≡ 0) ⊎ (0 < dimension t) → (y : List ℤ) → T (is_vector t y) → (0 < dimension t → T (lt (distance t target y) (widened (dimension t) R))) → T (admitted t target (widened (dimension t) R) y)
        go (inr p) y v b = below_admitted t target limits (widened (dimension t) R) wide y v (b p)
        go (inl e) [] v b = rw (admitted_is t target (widened (dimension t) R) []) (and_i (is_vector t []) (passes t target (widened (dimension t) R) []) v (of_true (passes_nil t target (widened (dimension t) R))))
        go (inl e) (x ∷ y) v b = absurd (suc-ne-zero (length y) (vector_length t (x ∷ y) v ∙ e))

    -- so the search never ends with no best
    pub seeded_finds : (budget : ℕ) (S : Float) (m : ℕ) → nearest_walk t target (widened (dimension t) R) budget ≡ ended no_best S m → ⊥
    seeded_finds budget S m e = ((outside_exactly t target limits (widened (dimension t) R) wide (nonneg_not_lt widened_nonneg) budget).0 (S, m, e)).0 z candidate_admitted

-- ---- the point of `nearest_plane`
plane_vector : (t : Table) (coefficients : List Float) (d : ℕ) (s : Plane) → T (all_i64 s.point) → length s.point + d ≡ dimension t → T (is_vector t (plane_levels t coefficients d s).point)
plane_vector t coefficients zero s a e = subst (λ (q : Plane). T (is_vector t q.point)) (sym (plane_zero t coefficients s)) (vector_intro t s.point (sym (add-zero (length s.point)) ∙ e) a)
plane_vector t coefficients (suc i) s a e =
    subst (λ (q : Plane). T (is_vector t q.point)) (sym (plane_suc t coefficients i s))
    (plane_vector t coefficients i (plane_level t coefficients i s)
    (subst (λ (l : List ℤ). T (all_i64 l)) (sym (plane_point t coefficients i s)) (all_i64_intro rounded s.point (round_away_is_i64 (sum_from (dimension t) t.mu i (suc i) s.left (coordinate coefficients i))) a))
    (ap (λ (l : List ℤ). length l + i) (plane_point t coefficients i s) ∙ suc-add (length s.point) i ∙ sym (add-suc (length s.point) i) ∙ e))
  where
    rounded : ℤ
    rounded = round_away (sum_from (dimension t) t.mu i (suc i) s.left (coordinate coefficients i))

-- it is a vector of n signed 64-bit integers, whatever the coefficients
pub nearest_plane_vector : (t : Table) (coefficients : List Float) → T (is_vector t (nearest_plane t coefficients).point)
nearest_plane_vector t coefficients = subst (λ (q : Plane). T (is_vector t q.point)) (sym (plane_is t coefficients)) (plane_vector t coefficients (dimension t) (record { point = []; left = [] }) all_i64_nil (zero-add (dimension t)))

-- ---- ml: that point and its own distance
ml_radius_is : (t : Table) (target : List Float) → ml_radius t target ≡ distance t target (nearest_plane t target).point
unfolding ml_radius
ml_radius_is t target = refl

module _ (t : Table) (target : List Float) (limits : Limits t target) (has : T (finite (ml_radius t target))) where
  pub ml_radius_nonneg : NonNegative binary64 (ml_radius t target)
  ml_radius_nonneg = subst (NonNegative binary64) (sym (ml_radius_is t target)) (distance_nonneg t target limits (nearest_plane t target).point (nearest_plane_vector t target))

  pub ml_radius_finite : Finite binary64 (ml_radius t target)
  ml_radius_finite = record { fit = ml_radius_nonneg.num.fit; fin = has }

  -- the point is within that radius
  pub ml_radius_within : T (not (lt (ml_radius t target) (distance t target (nearest_plane t target).point)))
  ml_radius_within =
      let n = ml_radius_nonneg.num in
      subst (λ (x : Float). T (not (lt (ml_radius t target) x))) (ml_radius_is t target) (le→not_lt binary64 n n (float_le_refl binary64 n))
