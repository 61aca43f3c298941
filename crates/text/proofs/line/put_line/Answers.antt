-- `text::line::put_line`.
use native.Mathlib.Omega.{arith}
use Rattle.text.proofs.LineLaws.{line_put}
use Rattle.text.proofs.line.put_line.Goals as goal

pub put_number-requires : goal.put_number-requires
put_number-requires c = omega (arith, c.put_number-a.ensures.2, c.put_number-a.auto.out, c.put_number-b.ensures.2, c.put_number-b.auto.out, c.put_word-c.ensures.1, c.put_word-c.auto.out, c.put_word-d.ensures.1, c.put_word-d.auto.out, c.put_word-e.ensures.1, c.put_word-e.auto.out, c.requires.0)

pub returns : goal.returns
returns c = line_put _ _ _ _ _ _ _ _ _ _ _ _ _ _ _ _ _ _ _ _ c.get_u64-status.ensures c.get_u64-first.ensures c.get_u64-second.ensures c.get_u64-third.ensures c.get_u64-evaluations.ensures c.put_number-a.ensures c.put_number-b.ensures c.put_word-c.ensures c.put_word-d.ensures c.put_word-e.ensures c.put_number.ensures
