-- `solver_binary::temperature::round_t`.
use mathlib.Core.Path.{◌≡◌, ap, ◌∙◌}
use borrow.Author.Tests.{not-false, not-true}
use Rattle.solver_critical.specs.CriticalPoint.{entries}
use Rattle.solver_critical.specs.Rounds.{all_finite}
use Rattle.solver_binary.specs.Rounds.{round_t, solved_round_t}
use Rattle.solver_binary.proofs.temperature.round_t.Goals as goal

pub returns-then-not-all_finite : goal.returns-then-not-all_finite
unfolding round_t solved_round_t
returns-then-not-all_finite c =
    let e : c.all_finite.result ≡ all_finite (entries c.args.y) = c.all_finite.ensures ∙ ap all_finite c.entries.ensures in
    rw (← e, not-true c.all_finite.result c.if-not-all_finite.true-raw)

pub returns-in_default : goal.returns-in_default
unfolding round_t solved_round_t
returns-in_default c =
    let e : c.all_finite.result ≡ all_finite (entries c.args.y) = c.all_finite.ensures ∙ ap all_finite c.entries.ensures in
    rw (← e, not-false c.all_finite.result c.if-not-all_finite.false-raw, ← c.solved.ensures, c.in_default.is)

pub returns : goal.returns
unfolding round_t solved_round_t
returns c =
    let e : c.all_finite.result ≡ all_finite (entries c.args.y) = c.all_finite.ensures ∙ ap all_finite c.entries.ensures in
    rw (← e, not-false c.all_finite.result c.if-not-all_finite.false-raw, ← c.solved.ensures, c.in-Ok.is, ← c.has_converged.ensures, ← c.step_t.ensures, ← c.stepped_t.ensures)
