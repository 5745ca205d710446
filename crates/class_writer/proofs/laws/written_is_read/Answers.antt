-- Bytes are one class file.
use Rattle.class_writer.proofs.OneRecord.{one_record}
use Rattle.class_writer.proofs.laws.written_is_read.Goals as goal

pub returns-clause-only : goal.returns-clause-only
returns-clause-only c = one_record
