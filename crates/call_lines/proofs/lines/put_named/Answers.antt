-- `call_lines::lines::put_named`.
use Rattle.call_lines.proofs.TextLaws.{named_put}
use Rattle.call_lines.proofs.lines.put_named.Goals as goal

pub returns : goal.returns
returns c = named_put _ _ _ _ _ _ c.put_part.ensures c.requires.1 c.put_number.ensures
