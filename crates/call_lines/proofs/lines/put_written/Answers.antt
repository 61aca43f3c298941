-- `call_lines::lines::put_written`.
use Rattle.call_lines.specs.Lines.{written_word}
use Rattle.call_lines.proofs.TextLaws.{written_put}
use Rattle.call_lines.proofs.lines.put_written.Goals as goal

pub returns : goal.returns
unfolding written_word
returns c = written_put _ _ _ _ _ _ _ _ _ _ _ _ c.get_u64-ticket.ensures c.get_num-kind.ensures c.get_num-queue.ensures c.put_part.ensures c.put_number-a.ensures c.put_number-b.ensures c.put_number.ensures
