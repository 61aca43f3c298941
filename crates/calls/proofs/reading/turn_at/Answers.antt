-- `calls::reading::turn_at`.
use Rattle.calls.proofs.ReadLaws.{turn_long, turn_read}
use Rattle.calls.proofs.reading.turn_at.Goals as goal

pub returns-then-length-gt256 : goal.returns-then-length-gt256
returns-then-length-gt256 c = turn_long _ _ _ c.get_u64-length.ensures c.if-length-gt256.true

pub returns : goal.returns
returns c = turn_read _ _ _ c.get_u64-length.ensures c.if-length-gt256.false
