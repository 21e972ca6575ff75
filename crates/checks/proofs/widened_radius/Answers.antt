-- `widened_radius` meets its contract: the same operations in the same order. Assumes nothing.
use mathlib.Core.Path.{◌≡◌, refl, ap, sym, ◌∙◌}
use mathlib.Core.Bool.{false}
use Prim.Native.Nat.{ℕ, ◌*◌, ◌<◌, ◌^◌}
use native.Mathlib.Omega.{arith}
use lib.IntN.{pos, negsuc}
use lib.Ieee.{Float, fin, binary64, add, mul}
use mir.Syntax.{w64}
use mir.Facts.{to_z_pos}
use Rattle.rounding.specs.Integers.{to_double}
use Rattle.rounding.specs.Doubles.{larger}
use Rattle.rounding.proofs.Interface.{one_is, epsilon_is}
use Rattle.definitions.specs.Table.{one}
use Rattle.definitions.specs.Seeds.{widened}
use Rattle.checks.proofs.widened_radius.Goals as goal

-- the widened radius, operation by operation
widened_is : (n : ℕ) (R : Float) → widened n R ≡ add binary64 R (mul binary64 (mul binary64 (fin false 1 (negsuc 51)) (larger R one)) (to_double (pos (4 * n))))
unfolding widened
widened_is n R = refl

pub returns : goal.returns
returns c =
    let a = c.args in
    let top = c.max.ensures ∙ ap (larger a.radius) one_is in
    let small : 4 * a.n < 2 ^ 63 = omega arith in
    let levels = c.to_double-levels.ensures ∙ ap to_double (to_z_pos w64 small) in
    ap (λ (e : Float). add binary64 a.radius (mul binary64 (mul binary64 e c.max.result) c.to_double-levels.result)) epsilon_is
    ∙ ap (λ (m : Float). add binary64 a.radius (mul binary64 (mul binary64 (fin false 1 (negsuc 51)) m) c.to_double-levels.result)) top
    ∙ ap (λ (l : Float). add binary64 a.radius (mul binary64 (mul binary64 (fin false 1 (negsuc 51)) (larger a.radius one)) l)) levels
    ∙ sym (widened_is a.n a.radius)
