-- `decimal_digits`: the digits passed, from the last, are those of the text. Assumes nothing.
use Rattle.std.proofs.Common.{◌≡◌, ℕ, suc, ◌+◌, ◌-◌, ◌%◌, ◌^◌, ◌<◌, ◌≤◌, length, drop, ap, ◌∙◌, le_of_eq, add-one, arith, length-set, drop_of_length-le}
use Rattle.writing.specs.Sizes.{decimal_size}
use Rattle.writing.proofs.Digits.{drop_set}
use Rattle.writing.proofs.Decimals.{before, decimal_before_lem, last_digit, more_digits, fewer}
use Rattle.writing.proofs.decimal_digits.Goals as goal

pub loop-place-init : goal.loop-place-init
loop-place-init c =
    let a = c.args in
    let whole : length a.digits.now ≡ decimal_size = omega arith in
    record { least = omega arith; size = whole; small = omega arith; text = ap (before a.n) (drop_of_length-le a.digits.now (le_of_eq whole)) ∙ decimal_before_lem a.n }

pub returns-then-left-lt10 : goal.returns-then-left-lt10
returns-then-left-lt10 c =
    let l = c.loop-place in
    let d = c.digit.result in
    let next : suc (l.place - 1) ≡ l.place = omega arith in
    let one = drop_set l.digits (l.place - 1) d (omega arith) in
    let last = last_digit l.left (drop l.place l.digits) c.if-left-lt10.true in
    let own : l.left % 10 ≡ l.left = omega arith in
    record { first = omega arith; size = length-set l.digits (l.place - 1) d ∙ l.invariant.size; text = cc (next, own, one, last, c.digit.ensures, l.invariant.text) }

pub loop-place-preserved : goal.loop-place-preserved
loop-place-preserved c =
    let l = c.loop-place in
    let d = c.digit.result in
    let ten : 10 ≤ l.left = omega arith in
    let next : suc (l.place - 1) ≡ l.place = omega arith in
    let small : l.left < 10 ^ (l.place - 1 + 1) = omega (arith, l.invariant.small, ap (λ (k : ℕ). 10 ^ k) (add-one (l.place - 1) ∙ next)) in
    let one = drop_set l.digits (l.place - 1) d (omega arith) in
    let more = more_digits l.left (drop l.place l.digits) ten in
    record {
      least = omega arith;
      size = length-set l.digits (l.place - 1) d ∙ l.invariant.size;
      small = fewer (l.place - 1) l.left small;
      text = cc (next, one, more, c.digit.ensures, l.invariant.text);
    }

pub returns : goal.returns
returns c =
    let l = c.loop-place in
    let d = c.digit-2.result in
    let end : l.place ≡ 1 = omega arith in
    let one = drop_set l.digits 0 d (omega arith) in
    let last = last_digit l.left (drop 1 l.digits) (omega (arith, l.invariant.small, ap (λ (k : ℕ). 10 ^ k) end)) in
    record { first = omega arith; size = length-set l.digits 0 d ∙ l.invariant.size; text = cc (end, one, last, c.digit-2.ensures, l.invariant.text) }
