-- `doubles_at`: the places passed are the first items' doubles. Assumes nothing.
use mathlib.Core.Path.{refl, sym, ◌∙◌}
use native.Mathlib.Omega.{arith}
use native.Mathlib.Numerals.{add-one}
use lib.ListN.{length-set}
use lib.Seq.{take-suc-set}
use Rattle.reading.proofs.Items.{no_doubles, more_doubles}
use Rattle.reading.proofs.doubles_at.Goals as goal

pub loop-i-init : goal.loop-i-init
loop-i-init c = let a = c.args in record { count = omega arith; size = refl; first = sym (no_doubles a.input.now a.offset) }

pub loop-i-preserved : goal.loop-i-preserved
loop-i-preserved c =
    let l = c.loop-i in
    let a = c.args in
    let one = take-suc-set l.out l.i c.from_bits.result (omega arith) in
    let more = more_doubles a.input.now a.offset l.i in
    record { count = omega arith; size = length-set l.out l.i c.from_bits.result ∙ l.invariant.size; first = cc (one, more, add-one l.i, c.from_bits.ensures, c.number_at.ensures.value, l.invariant.first) }
