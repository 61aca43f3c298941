-- `solver_critical::critical::stepped_round`.
use borrow.Author.Tests.{not-false, not-true}
use Rattle.solver_critical.specs.Rounds.{stepped_round}
use Rattle.solver_critical.proofs.critical.stepped_round.Goals as goal

pub returns-then-not-all_finite : goal.returns-then-not-all_finite
unfolding stepped_round
returns-then-not-all_finite c = rw (← c.all_finite.ensures, not-true c.all_finite.result c.if-not-all_finite.true-raw)

pub returns-then-ended : goal.returns-then-ended
unfolding stepped_round
returns-then-ended c = rw (← c.all_finite.ensures, not-false c.all_finite.result c.if-not-all_finite.false-raw, c.if-ended.true, ← c.critical_answer.ensures)

pub returns : goal.returns
unfolding stepped_round
returns c = rw (← c.all_finite.ensures, not-false c.all_finite.result c.if-not-all_finite.false-raw, c.if-ended.false)
