-- `quarter::turns::kept_state`.
use Rattle.quarter.proofs.QuarterLaws.{stepped_still}
use Rattle.quarter.proofs.turns.kept_state.Goals as goal

pub returns-then-finished : goal.returns-then-finished
returns-then-finished c = stepped_still _ c.finished.result _ c.finished.ensures c.if-finished.true c.load_state.ensures
