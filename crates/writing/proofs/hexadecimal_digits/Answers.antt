-- `hexadecimal_digits`: the digits passed, from the last, are those of the text. Assumes nothing.
use Rattle.std.proofs.Common.{◌≡◌, ℕ, suc, ◌-◌, drop, sym, ap, ◌∙◌, arith, length-set}
use Rattle.definitions.specs.JobText.{hexadecimal_before}
use Rattle.writing.proofs.Digits.{drop_set}
use Rattle.writing.proofs.Hexadecimals.{no_digits, more_digits}
use Rattle.writing.proofs.hexadecimal_digits.Goals as goal

pub loop-place-preserved : goal.loop-place-preserved
loop-place-preserved c =
    let l = c.loop-place in
    let d = c.digit.result in
    let s = l.place - 1 in
    let one : suc s ≡ l.place = omega arith in
    let first = drop_set l.digits s d (omega arith) in
    let more = more_digits s l.left (drop (suc s) l.digits) in
    record { size = length-set l.digits s d ∙ l.invariant.size; text = cc (one, first, more, c.digit.ensures, l.invariant.text) }

pub returns : goal.returns
returns c =
    let l = c.loop-place in
    let none : 0 ≡ l.place = omega arith in
    sym (no_digits l.left l.digits) ∙ ap (λ (k : ℕ). hexadecimal_before k l.left (drop k l.digits)) none ∙ l.invariant.text
