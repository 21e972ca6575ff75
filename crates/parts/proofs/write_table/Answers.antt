-- `write_table`: four parts, one behind the other. Assumes nothing.
use Rattle.parts.proofs.Tables.{table_written}
use Rattle.parts.proofs.write_table.Goals as goal

pub returns : goal.returns
returns c =
    table_written c.requires c.copy_padded.new.to c.copy_padded.ensures c.copy_padded-2.new.to c.copy_padded-2.ensures c.copy_padded-3.new.to c.copy_padded-3.ensures c.args.radius
