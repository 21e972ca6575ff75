-- `refusal_line`: the parts stand one after the other. Assumes nothing.
use Rattle.std.proofs.Common.{refl, arith}
use Rattle.definitions.specs.JobText.{text, refusal_line}
use Rattle.writing.proofs.Texts.{written_then, written_as}
use Rattle.writing.proofs.refusal_line.Goals as goal

pub returns : goal.returns
unfolding text refusal_line
returns c =
    let two = written_then c.put-after_word.ensures c.put-after_verb.ensures in
    let four = written_then (written_then two c.decimal-after_number.ensures) c.put-after_blank.ensures in
    written_as (written_then (written_then four c.group-after_group.ensures) c.put.ensures) refl (omega arith)
