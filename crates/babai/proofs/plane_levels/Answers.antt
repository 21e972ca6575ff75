-- `plane_levels`: the arrays hold the levels done, and the coefficients below are untouched. Assumes nothing.
use mathlib.Core.Path.{◌≡◌, refl, ap, ◌∙◌}
use Prim.Native.Nat.{◌-◌, ◌+◌}
use native.Mathlib.Omega.{arith}
use lib.ListN.{get_or}
use lib.Seq.{get_or-set_other}
use lib.Ieee.{nan}
use mir.Syntax.{w64}
use mir.Val.{to_z, of_z}
use mir.ValLaws.{to_z-of_z}
use Rattle.definitions.specs.Table.{table}
use Rattle.definitions.specs.Seeds.{Plane}
use Rattle.babai.proofs.Planes.{plane_start, plane_turn, plane_end}
use Rattle.babai.proofs.plane_levels.Goals as goal

pub loop-i-init : goal.loop-i-init
loop-i-init c =
    (λ k h. refl, plane_start (table c.args.weights.now c.args.mu.now) c.args.coefficients.now c.args.out.now c.args.coefficients.now (omega arith) (omega arith))

pub loop-i-preserved : goal.loop-i-preserved
loop-i-preserved c =
    let t = table c.args.weights.now c.args.mu.now in
    let xs = c.args.coefficients.now in
    let l = c.loop-i in
    let i = l.i - 1 in
    let deep : l.i ≡ i + 1 = omega arith in (
      λ k h. get_or-set_other l.coefficients i k _ nan (λ e. omega (arith, e)) ∙ l.invariant.0 k (omega arith),
      plane_turn t xs l.out l.coefficients (omega arith) (omega arith) l.i i deep (omega arith) (get_or l.coefficients i nan) (l.invariant.0 i (omega arith)) c.center-sum.result c.center-sum.ensures (to_z w64 (of_z w64 c.round_away-chosen.result)) (to_z-of_z w64 _ (record { sfits = c.round_away-chosen.type_inv }) ∙ c.round_away-chosen.ensures) c.to_double.result c.to_double.ensures l.invariant.1,
    )

pub returns : goal.returns
returns c =
    let t = table c.args.weights.now c.args.mu.now in
    let l = c.loop-i in
    let e = plane_end t c.args.coefficients.now l.out l.coefficients l.i (omega arith) (omega arith) (omega arith) l.invariant.1 in
    record { point = ap (λ (s : Plane). s.point) e; left = ap (λ (s : Plane). s.left) e }
