-- `solver_density::stable::potentials`.
use Rattle.std.proofs.Common.{rules}
use Rattle.solver_density.proofs.Runs.{liquid_infinite, potentials_found, vapor_infinite}
use Rattle.solver_density.proofs.stable.potentials.Goals as goal

pub returns-then-not-is_finite : goal.returns-then-not-is_finite
returns-then-not-is_finite c = liquid_infinite _ _ _ _ _ c.chemical_potential-of_liquid.ensures (search rules)

pub returns-then-not-is_finite-2 : goal.returns-then-not-is_finite-2
returns-then-not-is_finite-2 c = vapor_infinite _ _ _ _ _ c.chemical_potential-of_liquid.ensures (search rules) _ c.chemical_potential-of_vapor.ensures (search rules)

pub returns : goal.returns
returns c = potentials_found _ _ _ _ _ c.chemical_potential-of_liquid.ensures (search rules) _ c.chemical_potential-of_vapor.ensures _ (search rules) c.lower_potential.ensures
