-- `printing::bits` is proved: the bits are asked only of a number that equals itself. Assumes nothing.
use Rattle.std.proofs.Common.{sym, ◌∙◌}
use Rattle.rounding.proofs.Interface.{failed, differs}
use Rattle.printing.proofs.bits.Goals as goal

pub float_to_bits-x : goal.float_to_bits-x
float_to_bits-x c = failed (sym (differs c.args.x) ∙ c.if-x.false)
