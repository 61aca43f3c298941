-- The rounds of kinds 8 and 9 with their tests for 27, each as one value: what the code of a run and of a step works out. Definitions only.
use Rattle.std.specs.Prelude.{Bool, cond, ◌&&◌, [], ◌∷◌, Float}
use Rattle.evaluations.specs.declared.types.Condition.{Condition}
use Rattle.evaluations.specs.declared.types.Criticality.{Criticality}
use Rattle.evaluations.specs.declared.types.PressureCriticality.{PressureCriticality}
use Rattle.linear.specs.Linear.{Solved}
use Rattle.solver.specs.declared.types.Refusal.TheVariants.{IterationFailed, NotFinite}
use Rattle.std.specs.Prelude.{Ok, Err}
use Rattle.solver_critical.specs.CriticalPoint.{entries, solved, converged}
use Rattle.solver_critical.specs.Rounds.{all_finite}
use Rattle.solver_binary.specs.declared.types.Densities.{Densities}
use Rattle.solver_binary.specs.declared.types.Unknowns.{Unknowns}
use Rattle.solver.specs.Answer.{Progress}
use Rattle.std.specs.declared.ops.ControlFlow.TheVariants.{Break, Continue}
use Rattle.solver_binary.specs.CriticalPointBinary.{answer_t, step_t, answer_p, step_p, row_of, residuals, solved_p, converged_p}

-- ---- kind 8

-- p is where the step leads
unfoldable pub stepped_t : (ended : Bool) → Densities → Progress Densities
stepped_t ended p = cond (all_finite (p.rho0 ∷ p.rho1 ∷ [])) (cond ended (Break (answer_t p)) (Continue p)) (Break (Err NotFinite))

unfoldable pub solved_round_t : (maxdensity : Float) → Densities → Criticality → Solved → Progress Densities
solved_round_t maxdensity p y (Ok δ) = stepped_t (converged y) (step_t maxdensity p δ)
solved_round_t maxdensity p y (Err e) = Break (Err IterationFailed)

unfoldable pub round_t : (maxdensity : Float) → Densities → Criticality → Progress Densities
round_t maxdensity p y = cond (all_finite (entries y)) (solved_round_t maxdensity p y (solved y)) (Break (Err NotFinite))

-- ---- kind 9
abbrev pub row_finite : Condition → Bool
row_finite c = all_finite (row_of c)

unfoldable pub finite12 : PressureCriticality → Bool
finite12 y = all_finite (residuals y) && (row_finite y.l && (row_finite y.c2 && row_finite y.p))

-- p is where the step leads
unfoldable pub stepped_p : (ended : Bool) → Unknowns → Progress Unknowns
stepped_p ended p = cond (all_finite (p.t ∷ p.rho0 ∷ p.rho1 ∷ [])) (cond ended (Break (answer_p p)) (Continue p)) (Break (Err NotFinite))

unfoldable pub solved_round_p : (maxdensity : Float) → Unknowns → PressureCriticality → Solved → Progress Unknowns
solved_round_p maxdensity p y (Ok δ) = stepped_p (converged_p y) (step_p maxdensity p δ)
solved_round_p maxdensity p y (Err e) = Break (Err IterationFailed)

unfoldable pub round_p : (maxdensity : Float) → Unknowns → PressureCriticality → Progress Unknowns
round_p maxdensity p y = cond (finite12 y) (solved_round_p maxdensity p y (solved_p y)) (Break (Err NotFinite))
