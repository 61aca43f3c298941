-- The rounds of the searches with their tests for 27, each as one value: what the code of a run and of a step works out. Definitions only.
use Rattle.std.specs.Prelude.{Bool, cond, List, [], ◌∷◌, Float}
use Rattle.std.specs.List.{list_all}
use Rattle.std.specs.Float.Ieee.{lt}
use Rattle.float.specs.Sign.{abs_of, finite_of}
use Rattle.evaluations.specs.declared.types.Criticality.{Criticality}
use Rattle.evaluations.specs.declared.types.Stability.{Stability}
use Rattle.linear.specs.Linear.{Solved}
use Rattle.solver.specs.Decimals.{d1e_8}
use Rattle.solver.specs.declared.types.Refusal.TheVariants.{IterationFailed, NotFinite}
use Rattle.std.specs.Prelude.{Ok, Err}
use Rattle.solver_critical.specs.declared.types.Point.{Point}
use Rattle.solver.specs.Answer.{Progress}
use Rattle.std.specs.declared.ops.ControlFlow.TheVariants.{Break, Continue}
use Rattle.solver_critical.specs.CriticalPoint.{critical_answer, newton_step, entries, solved, converged}
use Rattle.solver_critical.specs.Spinodal.{spinodal_answer, stability_step}

abbrev pub all_finite : List Float → Bool
all_finite = list_all finite_of

-- p is where the step leads
unfoldable pub stepped_round : (ended : Bool) → Point → Progress Point
stepped_round ended p = cond (all_finite (p.t ∷ p.rho ∷ [])) (cond ended (Break (critical_answer p)) (Continue p)) (Break (Err NotFinite))

unfoldable pub solved_round : (maxdensity : Float) → Point → Criticality → Solved → Progress Point
solved_round maxdensity p y (Ok δ) = stepped_round (converged y) (newton_step maxdensity p δ)
solved_round maxdensity p y (Err e) = Break (Err IterationFailed)

unfoldable pub critical_round : (maxdensity : Float) → Point → Criticality → Progress Point
critical_round maxdensity p y = cond (all_finite (entries y)) (solved_round maxdensity p y (solved y)) (Break (Err NotFinite))

unfoldable pub stability_round : (maxdensity ρ : Float) → Stability → Progress Float
stability_round maxdensity ρ y =
    cond (all_finite (y.f ∷ y.df ∷ []))
    (let ρ' = stability_step maxdensity ρ y in
    cond (finite_of ρ') (cond (lt (abs_of y.f) d1e_8) (Break (spinodal_answer ρ')) (Continue ρ')) (Break (Err NotFinite)))
    (Break (Err NotFinite))
