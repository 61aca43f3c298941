-- `solver_critical::spinodals::spinodal_start`.
use Rattle.solver_critical.specs.Spinodal.{spinodal_start}
use Rattle.solver_critical.proofs.spinodals.spinodal_start.Goals as goal

pub returns-in-Vapor : goal.returns-in-Vapor
unfolding spinodal_start
returns-in-Vapor c = rw c.in-Vapor.is

pub returns-in-Liquid : goal.returns-in-Liquid
unfolding spinodal_start
returns-in-Liquid c = rw c.in-Liquid.is

pub returns-in-InitialDensity : goal.returns-in-InitialDensity
unfolding spinodal_start
returns-in-InitialDensity c = rw c.in-InitialDensity.is
