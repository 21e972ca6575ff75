-- `total` sums the terms downward: the invariant holds the residuals above the level beside the partial sum there. Assumes nothing.
use mathlib.Core.Path.{◌≡◌, refl, ap, ◌∙◌}
use Prim.Native.Nat.{◌-◌, ◌+◌}
use native.Mathlib.Omega.{arith}
use lib.ListN.{get_or, length-set}
use lib.IntN.{pos}
use mir.Syntax.{w64}
use mir.ValLaws.{to_z-of_z}
use Rattle.definitions.specs.Table.{table}
use Rattle.rounding.specs.Integers.{to_double}
use Rattle.distance.proofs.Totals.{residuals_start, sum_start, residuals_turn, sum_turn}
use Rattle.distance.proofs.total.Goals as goal
use Rattle.distance.proofs.total.Goals.{At-loop-level}

pub loop-level-init : goal.loop-level-init
loop-level-init c =
    let t = table c.args.weights.now c.args.mu.now in
    (refl, residuals_start t c.args.target.now c.args.point.now (omega arith) _ (omega arith), sum_start t c.args.target.now c.args.point.now (omega arith))

pub loop-level-preserved : goal.loop-level-preserved
loop-level-preserved c =
    let l = (goal.at.loop-level-preserved c).At-loop-level in
    let t = table c.args.weights.now c.args.mu.now in
    let level = l.loop-level.level - 1 in
    let z = get_or c.args.point.now level (pos 0) in
    let deep : l.loop-level.level ≡ level + 1 = omega arith in
    let converted : c.to_double-z.result ≡ to_double z = c.to_double-z.ensures ∙ ap to_double (to_z-of_z w64 z (record { sfits = c.to_double-arg-1.given })) in (
      length-set l.loop-level.rest level _ ∙ l.loop-level.invariant.0,
      residuals_turn t c.args.target.now c.args.point.now (omega arith) l.loop-level.rest (omega arith) l.loop-level.level level deep (omega arith) l.loop-level.invariant.1 c.to_double-z.result converted,
      sum_turn t c.args.target.now c.args.point.now (omega arith) l.loop-level.rest (omega arith) l.loop-level.level level deep (omega arith) l.loop-level.invariant.1 c.to_double-z.result converted c.center-value.result c.center-value.ensures l.loop-level.sum c.term-sum.result l.loop-level.invariant.2 c.term-sum.ensures,
    )
