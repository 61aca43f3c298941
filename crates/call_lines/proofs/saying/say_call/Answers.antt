-- `call_lines::saying::say_call`.
use Rattle.buf.specs.Bytes.{zeros}
use Rattle.call_lines.proofs.SayLaws.{call_said}
use Rattle.call_lines.proofs.saying.say_call.Goals as goal

pub returns : goal.returns
unfolding zeros
returns c = call_said _ _ _ _ _ _ _ _ _ c.requires.1 c.tell_call-told.ensures c.put_told.ensures
