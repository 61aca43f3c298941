-- `solver_binary::temperature::stepped_t`.
use borrow.Author.Tests.{not-false, not-true}
use Rattle.solver_binary.specs.Rounds.{stepped_t}
use Rattle.solver_binary.proofs.temperature.stepped_t.Goals as goal

pub returns-then-not-all_finite : goal.returns-then-not-all_finite
unfolding stepped_t
returns-then-not-all_finite c = rw (← c.all_finite.ensures, not-true c.all_finite.result c.if-not-all_finite.true-raw)

pub returns-then-ended : goal.returns-then-ended
unfolding stepped_t
returns-then-ended c = rw (← c.all_finite.ensures, not-false c.all_finite.result c.if-not-all_finite.false-raw, c.if-ended.true, ← c.answer_t.ensures)

pub returns : goal.returns
unfolding stepped_t
returns c = rw (← c.all_finite.ensures, not-false c.all_finite.result c.if-not-all_finite.false-raw, c.if-ended.false)
