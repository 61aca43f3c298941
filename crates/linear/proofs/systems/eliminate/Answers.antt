-- `linear::systems::eliminate`.
use Rattle.linear.specs.Linear.{eliminated}
use Rattle.linear.proofs.systems.eliminate.Goals as goal

pub returns-then-a : goal.returns-then-a
unfolding eliminated
returns-then-a c = rw c.if-a.true

pub returns-then-pivot : goal.returns-then-pivot
unfolding eliminated
returns-then-pivot c = rw (c.if-a.false, c.if-pivot.true)

pub returns : goal.returns
unfolding eliminated
returns c = rw (c.if-a.false, c.if-pivot.false)
