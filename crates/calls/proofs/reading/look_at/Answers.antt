-- `calls::reading::look_at`.
use Rattle.calls.proofs.ReadLaws.{look_read}
use Rattle.calls.proofs.reading.look_at.Goals as goal

pub returns : goal.returns
returns c = look_read _ _ _ c.get_u64-queue.ensures
