-- `linear::systems::pivot_row`.
use Rattle.linear.proofs.Rows3.{third_above_second, second_largest, third_above_first, first_largest}
use Rattle.linear.proofs.systems.pivot_row.Goals as goal

pub returns-then-second-third-clause-row : goal.returns-then-second-third-clause-row
returns-then-second-third-clause-row c = third_above_second _ _ _ _ c.abs-first.ensures c.abs-second.ensures c.abs-third.ensures c.if-first-second.true c.if-second-third.true

pub returns-then-first-second-clause-row : goal.returns-then-first-second-clause-row
returns-then-first-second-clause-row c = second_largest _ _ _ _ c.abs-first.ensures c.abs-second.ensures c.abs-third.ensures c.if-first-second.true c.if-second-third.false

pub returns-then-first-third-clause-row : goal.returns-then-first-third-clause-row
returns-then-first-third-clause-row c = third_above_first _ _ _ _ c.abs-first.ensures c.abs-second.ensures c.abs-third.ensures c.if-first-second.false c.if-first-third.true

pub returns-clause-row : goal.returns-clause-row
returns-clause-row c = first_largest _ _ _ _ c.abs-first.ensures c.abs-second.ensures c.abs-third.ensures c.if-first-second.false c.if-first-third.false
