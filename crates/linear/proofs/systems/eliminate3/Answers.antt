-- `linear::systems::eliminate3`.
use Rattle.std.proofs.lemmas.Result.{err_from_is_err_and}
use Rattle.linear.specs.Linear.{eliminated3, with_first}
use Rattle.linear.proofs.systems.eliminate3.Goals as goal

pub returns-then-m : goal.returns-then-m
unfolding eliminated3
returns-then-m c = rw c.if-m.true

pub returns-in_err-y : goal.returns-in_err-y
unfolding eliminated3 with_first
returns-in_err-y c =
    let p = err_from_is_err_and c.from_residual.result c.from_residual.ensures.1 in
    rw (c.if-m.false, ← c.lower-second_right.ensures.row, ← c.lower-third_right.ensures.row, ← c.lower-second_right.ensures.right, ← c.lower-third_right.ensures.right, ← c.in_err-y.ensures, p.1, p.2)

pub returns : goal.returns
unfolding eliminated3 with_first
returns c = rw (c.if-m.false, ← c.lower-second_right.ensures.row, ← c.lower-third_right.ensures.row, ← c.lower-second_right.ensures.right, ← c.lower-third_right.ensures.right, ← c.in_ok-y.ensures)
