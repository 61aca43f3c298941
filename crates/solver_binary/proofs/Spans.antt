-- The longest runs of kinds 8 and 9, whatever the evaluations yield. Assumes nothing.
use Prim.Native.Nat.{ℕ}
use mathlib.Core.List.{[], ◌∷◌}
use lib.Ieee.{Float}
use Rattle.evaluations.specs.declared.types.Condition.{Condition}
use Rattle.evaluations.specs.declared.types.Criticality.{Criticality}
use Rattle.evaluations.specs.declared.types.PressureCriticality.{PressureCriticality}
use Rattle.std.specs.Prelude.{Ok, Err}
use Rattle.linear.specs.Linear.{Solved}
use Rattle.solver.specs.Search.{Search, Within}
use Rattle.solver.proofs.Spans.{within_cond}
use Rattle.std.specs.declared.option.Option.{Option}
use Rattle.solver_critical.specs.CriticalPoint.{converged, entries, solved}
use Rattle.solver_critical.proofs.Spans.{within_each}
use Rattle.solver_binary.specs.declared.types.Densities.{Densities}
use Rattle.solver_binary.specs.declared.types.Unknowns.{Unknowns}
use Rattle.solver_binary.specs.CriticalPointBinary.{step_t, step_p, query_t, after_solve_t, after_conditions_t, critical_point_binary_t, query_p, solved_p, converged_p, row_of, residuals, tested12, after_solve_p, after_conditions_p, critical_point_binary_p}
use Rattle.solver_binary.proofs.Newton.{within_rounds}

-- ---- kind 8
module _ (maxdensity : Float) where
  within_solve_t : (n : ℕ) (p : Densities) (y : Criticality) (s : Solved) (again : Densities → Search) → ((p : Densities) → Within n (again p)) → Within n (after_solve_t maxdensity p y s again)
  unfolding after_solve_t
  within_solve_t n p y (Ok δ) again h = let p' = step_t maxdensity p δ in within_each (p'.rho0 ∷ p'.rho1 ∷ []) (within_cond (converged y) Within.ended (h p'))
  within_solve_t n p y (Err e) again h = Within.ended

  within_conditions_t : (n : ℕ) (p : Densities) (y : Criticality) (again : Densities → Search) → ((p : Densities) → Within n (again p)) → Within n (after_conditions_t maxdensity p y again)
  unfolding after_conditions_t
  within_conditions_t n p y again h = within_each (entries y) (within_solve_t n p y (solved y) again h)

  pub temperature_200 : (z0 z1 t : Float) (density : Option Float) → Within 200 (critical_point_binary_t maxdensity z0 z1 t density)
  unfolding critical_point_binary_t
  temperature_200 z0 z1 t density = within_rounds (query_t t) (after_conditions_t maxdensity) within_conditions_t 200 _

-- ---- kind 9
within_tested12 : {n : ℕ} {s : Search} (y : PressureCriticality) → Within n s → Within n (tested12 y s)
within_tested12 y w = within_each (residuals y) (within_each (row_of y.l) (within_each (row_of y.c2) (within_each (row_of y.p) w)))

module _ (maxdensity : Float) where
  within_solve_p : (n : ℕ) (p : Unknowns) (y : PressureCriticality) (s : Solved) (again : Unknowns → Search) → ((p : Unknowns) → Within n (again p)) → Within n (after_solve_p maxdensity p y s again)
  unfolding after_solve_p
  within_solve_p n p y (Ok δ) again h = let p' = step_p maxdensity p δ in within_each (p'.t ∷ p'.rho0 ∷ p'.rho1 ∷ []) (within_cond (converged_p y) Within.ended (h p'))
  within_solve_p n p y (Err e) again h = Within.ended

  within_conditions_p : (n : ℕ) (p : Unknowns) (y : PressureCriticality) (again : Unknowns → Search) → ((p : Unknowns) → Within n (again p)) → Within n (after_conditions_p maxdensity p y again)
  unfolding after_conditions_p
  within_conditions_p n p y again h = within_tested12 y (within_solve_p n p y (solved_p y) again h)

  pub pressure_200 : (z0 z1 p : Float) (temperature density : Option Float) → Within 200 (critical_point_binary_p maxdensity z0 z1 p temperature density)
  unfolding critical_point_binary_p
  pressure_200 z0 z1 p temperature density = within_rounds (query_p p) (after_conditions_p maxdensity) within_conditions_p 200 _
