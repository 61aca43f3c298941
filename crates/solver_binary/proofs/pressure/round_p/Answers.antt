-- `solver_binary::pressure::round_p`.
use borrow.Author.Tests.{not-false, not-true}
use Rattle.solver_binary.specs.Rounds.{round_p, solved_round_p}
use Rattle.solver_binary.proofs.pressure.round_p.Goals as goal

pub returns-then-not-all_finite : goal.returns-then-not-all_finite
unfolding round_p solved_round_p
returns-then-not-all_finite c = rw (← c.all_finite.ensures, not-true c.all_finite.result c.if-not-all_finite.true-raw)

pub returns-in_default : goal.returns-in_default
unfolding round_p solved_round_p
returns-in_default c = rw (← c.all_finite.ensures, not-false c.all_finite.result c.if-not-all_finite.false-raw, ← c.solved_p.ensures, c.in_default.is)

pub returns : goal.returns
unfolding round_p solved_round_p
returns c = rw (← c.all_finite.ensures, not-false c.all_finite.result c.if-not-all_finite.false-raw, ← c.solved_p.ensures, c.in-Ok.is, ← c.has_converged.ensures, ← c.step_p.ensures, ← c.stepped_p.ensures)
