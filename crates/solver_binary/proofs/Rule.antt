-- Kinds 8 and 9 answer 27 exactly where a number tested along the run is not finite. Assumes nothing.
use mathlib.Core.Path.{◌≡◌, refl}
use mathlib.Core.Bool.{not}
use mathlib.Core.List.{[], ◌∷◌}
use lib.Ieee.{Float}
use Rattle.evaluations.specs.declared.types.Condition.{Condition}
use Rattle.evaluations.specs.declared.types.Criticality.{Criticality}
use Rattle.evaluations.specs.declared.types.PressureCriticality.{PressureCriticality}
use Rattle.std.specs.Prelude.{Ok, Err}
use Rattle.linear.specs.Linear.{Solved}
use Rattle.solver.specs.Answer.{number_of, status_of, is27}
use Rattle.solver.specs.Search.{Evaluator, Search, clean, answer_of, Ruled}
use Rattle.solver.proofs.Rule.{exactly_27, ruled_done, ruled_cond}
use Rattle.std.specs.declared.option.Option.{Option}
use Rattle.solver_critical.specs.CriticalPoint.{converged, entries, solved}
use Rattle.solver_critical.proofs.Rule.{ruled_each}
use Rattle.solver_binary.specs.declared.types.Densities.{Densities}
use Rattle.solver_binary.specs.declared.types.Unknowns.{Unknowns}
use Rattle.solver_binary.specs.CriticalPointBinary.{answer_t, step_t, step_p, query_t, after_solve_t, after_conditions_t, critical_point_binary_t, answer_p, query_p, solved_p, converged_p, row_of, residuals, tested12, after_solve_p, after_conditions_p, critical_point_binary_p}
use Rattle.solver_binary.proofs.Newton.{ruled_rounds}

-- ---- kind 8
module _ (maxdensity : Float) where
  ruled_solve_t : (p : Densities) (y : Criticality) (s : Solved) (again : Densities → Search) → ((p : Densities) → Ruled (again p)) → Ruled (after_solve_t maxdensity p y s again)
  unfolding after_solve_t answer_t is27 status_of number_of
  ruled_solve_t p y (Ok δ) again h = let p' = step_t maxdensity p δ in ruled_each (p'.rho0 ∷ p'.rho1 ∷ []) (ruled_cond (converged y) (ruled_done refl) (h p'))
  ruled_solve_t p y (Err e) again h = ruled_done refl

  ruled_conditions_t : (p : Densities) (y : Criticality) (again : Densities → Search) → ((p : Densities) → Ruled (again p)) → Ruled (after_conditions_t maxdensity p y again)
  unfolding after_conditions_t
  ruled_conditions_t p y again h = ruled_each (entries y) (ruled_solve_t p y (solved y) again h)

  pub temperature_27 : (ev : Evaluator) (z0 z1 t : Float) (density : Option Float)
      → is27 (answer_of ev (critical_point_binary_t maxdensity z0 z1 t density)) ≡ not (clean ev (critical_point_binary_t maxdensity z0 z1 t density))
  unfolding critical_point_binary_t
  temperature_27 ev z0 z1 t density = exactly_27 ev 0 (ruled_rounds (query_t t) (after_conditions_t maxdensity) ruled_conditions_t 200 _)

-- ---- kind 9
ruled_tested12 : {s : Search} (y : PressureCriticality) → Ruled s → Ruled (tested12 y s)
ruled_tested12 y r = ruled_each (residuals y) (ruled_each (row_of y.l) (ruled_each (row_of y.c2) (ruled_each (row_of y.p) r)))

module _ (maxdensity : Float) where
  ruled_solve_p : (p : Unknowns) (y : PressureCriticality) (s : Solved) (again : Unknowns → Search) → ((p : Unknowns) → Ruled (again p)) → Ruled (after_solve_p maxdensity p y s again)
  unfolding after_solve_p answer_p is27 status_of number_of
  ruled_solve_p p y (Ok δ) again h = let p' = step_p maxdensity p δ in ruled_each (p'.t ∷ p'.rho0 ∷ p'.rho1 ∷ []) (ruled_cond (converged_p y) (ruled_done refl) (h p'))
  ruled_solve_p p y (Err e) again h = ruled_done refl

  ruled_conditions_p : (p : Unknowns) (y : PressureCriticality) (again : Unknowns → Search) → ((p : Unknowns) → Ruled (again p)) → Ruled (after_conditions_p maxdensity p y again)
  unfolding after_conditions_p
  ruled_conditions_p p y again h = ruled_tested12 y (ruled_solve_p p y (solved_p y) again h)

  pub pressure_27 : (ev : Evaluator) (z0 z1 p : Float) (temperature density : Option Float)
      → is27 (answer_of ev (critical_point_binary_p maxdensity z0 z1 p temperature density)) ≡ not (clean ev (critical_point_binary_p maxdensity z0 z1 p temperature density))
  unfolding critical_point_binary_p
  pressure_27 ev z0 z1 p temperature density = exactly_27 ev 0 (ruled_rounds (query_p p) (after_conditions_p maxdensity) ruled_conditions_p 200 _)
