-- `text::line::put_number`.
use Rattle.text.proofs.LineLaws.{number_put}
use Rattle.text.proofs.line.put_number.Goals as goal

pub returns : goal.returns
returns c = number_put _ _ _ _ _ _ c.width-count.ensures.0 c.width-count.ensures.1 c.put_digits.ensures
