-- `replay::making::make_call`.
use Rattle.buf.specs.Bytes.{zeros}
use Rattle.replay.proofs.CallLaws.{call_made}
use Rattle.replay.proofs.making.make_call.Goals as goal

pub returns : goal.returns
unfolding zeros
returns c = call_made _ _ _ _ _ _ _ _ _ c.requires.1 c.tell_call-told.ensures c.put_answer.ensures
