-- `linear::systems::lower`.
use mathlib.Core.Path.{refl}
use Rattle.linear.specs.Linear.{factor_of, lower_right, lower_row}
use Rattle.linear.proofs.systems.lower.Goals as goal

pub returns-clause-row : goal.returns-clause-row
unfolding factor_of lower_row
returns-clause-row c = refl

pub returns-clause-right : goal.returns-clause-right
unfolding factor_of lower_right
returns-clause-right c = refl
