-- `hexadecimal`: the digits are those of the double's bits. Assumes nothing.
use Rattle.std.proofs.Common.{ℕ, [], length, ap, ◌∙◌, arith}
use Rattle.definitions.specs.JobText.{hexadecimal_before}
use Rattle.writing.specs.Sizes.{hexadecimal_size}
use Rattle.writing.proofs.Texts.{written_as}
use Rattle.writing.proofs.Hexadecimals.{double_digits, digits_length}
use Rattle.writing.proofs.hexadecimal.Goals as goal

pub returns : goal.returns
returns c =
    let text = c.hexadecimal_digits.ensures ∙ ap (λ (n : ℕ). hexadecimal_before hexadecimal_size n []) c.to_bits.ensures ∙ double_digits _ in
    written_as c.put.ensures text (omega (arith, ap length c.hexadecimal_digits.ensures, digits_length c.to_bits.result))
