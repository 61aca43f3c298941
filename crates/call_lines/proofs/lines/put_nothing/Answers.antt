-- `call_lines::lines::put_nothing`.
use Rattle.call_lines.specs.Lines.{nothing_line}
use Rattle.call_lines.proofs.TextLaws.{nothing_put}
use Rattle.call_lines.proofs.lines.put_nothing.Goals as goal

pub returns : goal.returns
unfolding nothing_line
returns c = nothing_put _ _ c.put_part.ensures
