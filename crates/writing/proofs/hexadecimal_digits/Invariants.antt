-- `hexadecimal_digits`: the digits passed, from the last, are those of the text. Assumes nothing.
use Rattle.std.proofs.Common.{◌≡◌, [], length, drop}
use Rattle.definitions.specs.JobText.{hexadecimal_before}
use Rattle.writing.specs.Sizes.{hexadecimal_size}
use Rattle.writing.proofs.hexadecimal_digits.Given as goal

abbrev pub invariant-loop-place : goal.invariant-loop-place
invariant-loop-place l =
    record { size : length l.digits ≡ hexadecimal_size; text : hexadecimal_before l.place l.left (drop l.place l.digits) ≡ hexadecimal_before hexadecimal_size l.n [] }
