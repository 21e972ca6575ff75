-- `decimal_digits`: the digits passed, from the last, are those of the text. Assumes nothing.
use Rattle.std.proofs.Common.{◌≡◌, ◌^◌, ◌<◌, ◌≤◌, length, drop}
use Rattle.definitions.specs.JobText.{decimal}
use Rattle.writing.specs.Sizes.{decimal_size}
use Rattle.writing.proofs.Decimals.{before}
use Rattle.writing.proofs.decimal_digits.Given as goal

abbrev pub invariant-loop-place : goal.invariant-loop-place
invariant-loop-place l =
    record { least : 1 ≤ l.place; size : length l.digits ≡ decimal_size; small : l.left < 10 ^ l.place; text : before l.left (drop l.place l.digits) ≡ decimal l.n }
