-- `records::writer::write_record`.
use Rattle.records.proofs.RecordLaws.{record_written}
use Rattle.records.proofs.writer.write_record.Goals as goal

pub returns : goal.returns
returns c = record_written _ _ _ _ _ _ _ c.write_public.ensures c.write_sealed.ensures
