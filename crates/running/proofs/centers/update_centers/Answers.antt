-- `update_centers` leaves the centres that the definition says: its two exits are laws of `Updates`. Assumes nothing.
use mathlib.Core.Path.{◌≡◌, ap, sym, ◌∙◌}
use Prim.Native.Nat.{◌≤◌, ◌+◌, ◌*◌}
use native.Mathlib.Omega.{arith}
use mir.Syntax.{w64}
use mir.Val.{to_z, of_z, SFits}
use mir.ValLaws.{to_z-of_z}
use lib.IntN.{ℤ, pos}
use lib.ListN.{length, get_or}
use lib.Ieee.{Float, binary64, sub}
use Rattle.rounding.specs.Integers.{to_double}
use Rattle.running.proofs.Rows.{row_inside}
use Rattle.running.proofs.Updates.{stays, moves}
use Rattle.running.proofs.centers.update_centers.Goals as goal
use Rattle.running.proofs.centers.update_centers.Goals.{Else-old-z}

-- integers of the same bits are the same
same_bits : {a b : ℤ} → SFits w64 a → SFits w64 b → of_z w64 a ≡ of_z w64 b → a ≡ b
same_bits {a} {b} f g e = sym (to_z-of_z w64 a f) ∙ ap (to_z w64) e ∙ to_z-of_z w64 b g

pub returns-then-old-z : goal.returns-then-old-z
returns-then-old-z c =
    stays c.requires (same_bits (record { sfits = c.old-1.given }) c.ranges.z c.if-old-z.true)

-- the row lies in the table
inside : (m : Else-old-z) → let a = m.args in a.level * length a.weights.now + a.level ≤ length a.mu.now
inside m =
    omega (arith, row_inside (length m.args.weights.now) m.args.level m.requires.below, m.requires.square)

pub overflow_mul-start : goal.overflow_mul-start
overflow_mul-start c = omega (arith, inside c)

pub overflow_add-end : goal.overflow_add-end
overflow_add-end c = omega (arith, inside c)

pub offset_bounds-mu-start : goal.offset_bounds-mu-start
offset_bounds-mu-start c = omega (arith, inside c)

pub slice_bounds-add_row-end : goal.slice_bounds-add_row-end
slice_bounds-add_row-end c = omega (arith, inside c)

pub returns : goal.returns
returns c =
    let a = c.args in
    let old : SFits w64 (get_or a.point.now a.level (pos 0)) = record { sfits = c.old-1.given } in
    let double = c.to_double.ensures ∙ ap to_double (to_z-of_z w64 _ old) in
    moves c.requires (λ e. c.if-old-z.false (ap (of_z w64) e)) _ (to_z-of_z w64 a.z c.ranges.z) _ (ap (λ (x : Float). sub binary64 x a.value) double ∙ ap (sub binary64 (to_double (get_or a.point.now a.level (pos 0)))) c.requires.value_is) _ c.add_row.ensures
