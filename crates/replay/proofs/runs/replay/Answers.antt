-- `replay::runs::replay`.
use Rattle.replay.proofs.RunLaws.{replay_bad, replay_made}
use Rattle.replay.proofs.runs.replay.Goals as goal

pub returns-then-board-ne24584 : goal.returns-then-board-ne24584
returns-then-board-ne24584 c = replay_bad _ _ _ c.if-board-ne24584.true

pub returns : goal.returns
returns c = replay_made _ _ _ _ _ _ _ c.if-board-ne24584.false c.clear.ensures c.make_calls.ensures
