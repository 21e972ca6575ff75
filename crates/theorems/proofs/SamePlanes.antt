-- Tables with the same entries that are read give the same `nearest_plane` point, the same coefficients and the same ml radius. Assumes nothing.
use mathlib.Core.Path.{◌≡◌, refl, ap, ◌∙◌}
use mathlib.Core.List.{List, [], ◌∷◌}
use Prim.Native.Nat.{ℕ, zero, suc, ◌+◌, ◌≤◌, ◌<◌}
use native.Mathlib.Omega.{arith}
use lib.ListN.{length}
use lib.Ieee.{Float, binary64, add, sub, mul}
use Rattle.rounding.specs.Integers.{to_double, round_away}
use Rattle.definitions.specs.Table.{Table, table, dimension, entry, coordinate}
use Rattle.definitions.specs.Distance.{distance}
use Rattle.definitions.specs.Seeds.{sum_from, Plane, plane_level, plane_levels, nearest_plane}
use Rattle.definitions.specs.Calls.{ml_radius}
use Rattle.theorems.specs.SameRead.{SameRead}
use Rattle.theorems.proofs.SameDistances.{same_partial}

-- a level more is a coordinate more
plane_length : (t : Table) (coefficients : List Float) (i : ℕ) (s : Plane) → length (plane_levels t coefficients i s).point ≡ i + length s.point
unfolding plane_levels
plane_length t coefficients zero s = let e : length s.point ≡ 0 + length s.point = omega arith in e
plane_length t coefficients (suc i) s = let e = plane_length t coefficients i (plane_level t coefficients i s) in omega (arith, e)

module _ (t : Table) (mu' : List Float) (same : SameRead t (table t.weights mu')) (coefficients : List Float) where
  abbrev t' : Table
  t' = table t.weights mu'

  abbrev n : ℕ
  n = dimension t

  same_along : (i j : ℕ) (xs : List Float) (a : Float) → i < j → j + length xs ≤ n → sum_from n t.mu i j xs a ≡ sum_from n mu' i j xs a
  unfolding sum_from
  same_along i j [] a above fits = refl
  same_along i j (x ∷ xs) a above fits =
      let added : Float → Float = λ e. add binary64 a (mul binary64 x e) in
      ap (λ (e : Float). sum_from n t.mu i (suc j) xs (added e)) (same.entries j i above (omega arith))
      ∙ same_along i (suc j) xs (added (entry n mu' j i)) (omega arith) (omega arith)

  same_plane_levels : (i : ℕ) (s : Plane) → i + length s.left ≡ n → plane_levels t coefficients i s ≡ plane_levels t' coefficients i s
  unfolding plane_levels
  same_plane_levels zero s e = refl
  same_plane_levels (suc i) s e =
      ap
      (λ (a : Float). plane_levels t coefficients i (record { point = round_away a ∷ s.point; left = sub binary64 (coordinate coefficients i) (to_double (round_away a)) ∷ s.left }))
      (same_along i (suc i) s.left (coordinate coefficients i) (omega arith) (omega arith))
      ∙ same_plane_levels i (plane_level t' coefficients i s) (omega arith)

  pub same_plane : nearest_plane t coefficients ≡ nearest_plane t' coefficients
  unfolding nearest_plane
  same_plane = same_plane_levels n (record { point = []; left = [] }) (omega arith)

  pub same_ml_radius : ml_radius t coefficients ≡ ml_radius t' coefficients
  unfolding ml_radius
  same_ml_radius =
      same_partial t mu' same coefficients (nearest_plane t coefficients).point (omega (arith, plane_length t coefficients n (record { point = []; left = [] })))
      ∙ ap (λ (s : Plane). distance t' coefficients s.point) same_plane
