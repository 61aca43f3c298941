-- `solver_critical::spinodals::stability_round`.
use borrow.Author.Tests.{not-false, not-true}
use Rattle.solver_critical.specs.Rounds.{stability_round}
use Rattle.solver_critical.proofs.spinodals.stability_round.Goals as goal

pub returns-then-not-all_finite : goal.returns-then-not-all_finite
unfolding stability_round
returns-then-not-all_finite c = rw (← c.all_finite.ensures, not-true c.all_finite.result c.if-not-all_finite.true-raw)

pub returns-then-not-is_finite : goal.returns-then-not-is_finite
unfolding stability_round
returns-then-not-is_finite c = rw (← c.all_finite.ensures, not-false c.all_finite.result c.if-not-all_finite.false-raw, ← c.stability_step-next.ensures, ← c.is_finite.ensures, not-true c.is_finite.result c.if-not-is_finite.true-raw)

pub returns-then-abs : goal.returns-then-abs
unfolding stability_round
returns-then-abs c = rw (← c.all_finite.ensures, not-false c.all_finite.result c.if-not-all_finite.false-raw, ← c.stability_step-next.ensures, ← c.is_finite.ensures, not-false c.is_finite.result c.if-not-is_finite.false-raw, ← c.abs.ensures, c.if-abs.true, ← c.spinodal_answer.ensures)

pub returns : goal.returns
unfolding stability_round
returns c = rw (← c.all_finite.ensures, not-false c.all_finite.result c.if-not-all_finite.false-raw, ← c.stability_step-next.ensures, ← c.is_finite.ensures, not-false c.is_finite.result c.if-not-is_finite.false-raw, ← c.abs.ensures, c.if-abs.false)
