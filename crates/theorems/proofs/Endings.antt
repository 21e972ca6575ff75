-- What the answer of a nearest search says of its walk, for any radius. Assumes nothing.
use mathlib.Core.Path.{◌≡◌, refl, sym, ap, ◌∙◌}
use Prim.Native.Nat.{ℕ, ◌<◌}
use native.Mathlib.Omega.{arith}
use lib.Ieee.{Float}
use mathlib.Core.List.{[], ◌∷◌}
use Rattle.definitions.specs.Walk.{Walked, ended, exhausted}
use Rattle.definitions.specs.Nearest.{Best, no_best, best}
use Rattle.definitions.specs.Refusals.{Refusal, whole, real, budget_exhausted}
use Rattle.definitions.specs.Calls.{Answer, found, refused, NearestPoint, end_of_nearest}
use Rattle.definitions.proofs.Answers.{found≢refused, refused_same, end_exhausted, end_nothing, end_point}

-- two refusals by 15 that are the same
pub exhausted_same : {A K : Type 0} (k : ℕ) (R : Float) (m : ℕ) (S : Float) → ◌≡◌ {A = Answer A} (refused (budget_exhausted k R)) (refused (budget_exhausted m S)) → ◌≡◌ {A = Walked K} (exhausted k R) (exhausted m S)
exhausted_same k R m S p =
    let v : (whole k ∷ real R ∷ []) ≡ (whole m ∷ real S ∷ []) = ap (λ (r : Refusal). r.values) (refused_same p) in
    let a : k ≡ m = cc in
    let b : R ≡ S = cc in
    ap (λ (i : ℕ). exhausted i R) a ∙ ap (exhausted m) b

module _ (R : Float) where
  -- a point found is the best with which the walk ended, and its distance the radius that stood
  pub point_walked : (w : Walked Best) (a : NearestPoint) → end_of_nearest R w ≡ found a → w ≡ ended (best a.point) a.distance a.nodes
  point_walked (exhausted m S) a e = absurd (found≢refused (sym e ∙ end_exhausted R m S))
  point_walked (ended no_best S m) a e = absurd (found≢refused (sym e ∙ end_nothing R S m))
  point_walked (ended (best zs) S m) a e =
      let q : found (record { nodes = m; distance = S; point = zs }) ≡ found a = sym (end_point R zs S m) ∙ e in
      let r : record { nodes = m; distance = S; point = zs } ≡ a = cc in
      ap (λ (b : NearestPoint). ended (best b.point) b.distance b.nodes) r

  number_same : {d e : Refusal} → d ≡ e → d.number ≡ e.number
  number_same p = ap (λ (r : Refusal). r.number) p

  -- a refusal under a number above 15 comes of a walk that ended with nothing
  pub refused_nothing : (w : Walked Best) (e : Refusal) → 15 < e.number → end_of_nearest R w ≡ refused e → (S : Float) × (m : ℕ) × (w ≡ ended no_best S m)
  refused_nothing (exhausted m S) e late q = absurd (omega (arith, late, number_same (refused_same (sym (end_exhausted R m S) ∙ q))))
  refused_nothing (ended no_best S m) e late q = (S, m, refl)
  refused_nothing (ended (best zs) S m) e late q = absurd (found≢refused (sym (end_point R zs S m) ∙ q))

  -- an answer with 15 comes of a walk that was exhausted so
  pub refused_exhausted : (w : Walked Best) (m : ℕ) (S : Float) → end_of_nearest R w ≡ refused (budget_exhausted m S) → w ≡ exhausted m S
  refused_exhausted (exhausted k U) m S e = exhausted_same k U m S (sym (end_exhausted R k U) ∙ e)
  refused_exhausted (ended no_best U k) m S e = absurd (omega (arith, number_same (refused_same (sym (end_nothing R U k) ∙ e))))
  refused_exhausted (ended (best zs) U k) m S e = absurd (found≢refused (sym (end_point R zs U k) ∙ e))
