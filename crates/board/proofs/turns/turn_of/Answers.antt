-- `board::turns::turn_of`.
use Rattle.board.proofs.CallLaws.{turn_back}
use Rattle.board.proofs.turns.turn_of.Goals as goal

pub returns : goal.returns
returns c = turn_back _ _ _ c.requires.0 c.requires.1 c.turn_part.auto.part _ _ _ c.turn_part.ensures.0 c.turn_part.ensures.1 c.turn_part.ensures.2
