-- `records::writer::write_sealed`.
use Rattle.records.proofs.RecordLaws.{sealed_written}
use Rattle.records.proofs.writer.write_sealed.Goals as goal

pub returns : goal.returns
returns c = sealed_written _ _ _ _ _ _ _ _ c.put_u64.ensures c.put_f64.ensures c.put_f64-2.ensures c.put_f64-3.ensures c.put_u64-2.ensures c.put_u64-3.ensures
