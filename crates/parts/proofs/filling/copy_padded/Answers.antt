-- `copy_padded`: a copy over zeros. Assumes nothing.
use mathlib.Core.Path.{◌≡◌, ap, ◌∙◌}
use native.Mathlib.Omega.{arith}
use lib.ListN.{length, take}
use lib.Seq.{length-take-le}
use Rattle.lists.proofs.Parts.{padded_copy}
use lib.ListN.{replicate}
use Rattle.rounding.proofs.Interface.{zero_is}
use Rattle.definitions.specs.Table.{plus_zero}
use Rattle.parts.proofs.filling.copy_padded.Goals as goal
use Rattle.parts.proofs.filling.copy_padded.Goals.{After-copy-arg-1}

-- the part that is lent has room for the copy, and no more
fits : (c : After-copy-arg-1) →
    let from = c.args.from.now in
    length (take (length from) c.fill.new.self) ≡ length from
fits c =
    length-take-le (length c.args.from.now) c.fill.new.self (omega (arith, c.fill.ensures.len, c.requires))

pub returns : goal.returns
returns c =
    padded_copy plus_zero (length c.args.to.now) c.args.from.now c.fill.new.self c.copy.new.to (c.fill.ensures.after (λ y h. h) ∙ ap (replicate _) zero_is) c.requires c.copy.ensures
