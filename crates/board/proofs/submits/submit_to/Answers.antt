-- `board::submits::submit_to`.
use Rattle.board.proofs.CallLaws.{submit_back}
use Rattle.board.proofs.submits.submit_to.Goals as goal

pub returns : goal.returns
returns c = submit_back _ _ _ c.requires.0 c.requires.1 c.submit_part.auto.part _ _ _ _ c.submit_part.ensures.0 c.submit_part.ensures.1
