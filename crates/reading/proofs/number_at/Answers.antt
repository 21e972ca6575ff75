-- `number_at`: the bytes passed, from the last, are a number. Assumes nothing.
use mathlib.Core.Path.{◌≡◌, ap, sym}
use Prim.Native.Nat.{ℕ, suc, ◌+◌, ◌-◌, ◌*◌, ◌^◌}
use native.Mathlib.Omega.{arith}
use lib.ListN.{get_or}
use Rattle.definitions.specs.JobLayout.{number_at}
use Rattle.reading.proofs.Numbers.{number_none, number_more, few_bytes, more_bound}
use Rattle.reading.proofs.number_at.Goals as goal

pub loop-left-init : goal.loop-left-init
loop-left-init c =
    let z : c.args.size - c.args.size ≡ 0 = omega arith in
    record { count = omega arith; value-so-far = sym (number_none c.args.input.now (c.args.offset + c.args.size) _ z); bound = omega (arith, ap (λ (k : ℕ). 2 ^ (8 * k)) z) }

pub overflow_mul-value : goal.overflow_mul-value
overflow_mul-value c =
    let l = c.loop-left in
    let small = few_bytes l.value (c.args.size - l.left) (omega arith) l.invariant.bound in
    omega (arith, small)

pub overflow_add-value-in-loop-left : goal.overflow_add-value-in-loop-left
overflow_add-value-in-loop-left c =
    let l = c.loop-left in
    let byte = (c.shared_slice_known-1.given (c.args.offset + (l.left - 1))).fits in
    let small = few_bytes l.value (c.args.size - l.left) (omega arith) l.invariant.bound in
    omega (arith, small, byte)

pub loop-left-preserved : goal.loop-left-preserved
loop-left-preserved c =
    let l = c.loop-left in
    let a = c.args in
    let o = a.offset + (l.left - 1) in
    let k = a.size - l.left in
    let byte = (c.shared_slice_known-1.given o).fits in
    let more : a.size - (l.left - 1) ≡ suc k = omega arith in
    let next : suc o ≡ a.offset + l.left = omega arith in
    let first = number_more a.input.now o k (omega arith) in
    let value : number_at a.input.now o (a.size - (l.left - 1)) ≡ get_or a.input.now o 0 + 256 * l.value = cc (more, first, next, l.invariant.value-so-far) in
    record { count = omega arith; value-so-far = omega (arith, value); bound = omega (arith, more_bound l.value (get_or a.input.now o 0) k l.invariant.bound byte, ap (λ (j : ℕ). 2 ^ (8 * j)) more) }
