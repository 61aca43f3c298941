-- `solver_critical::critical::trial_temperature`.
use native.Mathlib.Omega.{arith}
use Rattle.float.specs.Ops.{f0}
use Rattle.solver_critical.specs.CriticalPoint.{trial_temperature, trial_temperatures}
use Rattle.solver_critical.proofs.critical.trial_temperature.Goals as goal

pub returns : goal.returns
unfolding trial_temperature trial_temperatures
returns c = rw (c.unwrap_or.ensures, c.copied.ensures) (c.get.ensures.lookup.4 (omega arith) f0)
