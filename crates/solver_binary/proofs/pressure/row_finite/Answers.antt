-- `solver_binary::pressure::row_finite`.
use mathlib.Core.Path.{ap, ◌∙◌}
use Rattle.solver_critical.specs.Rounds.{all_finite}
use Rattle.solver_binary.proofs.pressure.row_finite.Goals as goal

pub returns : goal.returns
returns c = c.all_finite.ensures ∙ ap all_finite c.row.ensures
