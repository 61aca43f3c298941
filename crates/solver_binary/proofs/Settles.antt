-- A round's value stands for the tests and the search that follow it. Assumes nothing.
use mathlib.Core.Path.{◌≡◌, refl, ap, ◌∙◌}
use mathlib.Core.Bool.{Bool, true, false, cond, ◌&&◌}
use mathlib.Core.List.{List, [], ◌∷◌}
use lib.Ieee.{Float}
use Rattle.evaluations.specs.declared.types.Criticality.{Criticality}
use Rattle.evaluations.specs.declared.types.PressureCriticality.{PressureCriticality}
use Rattle.linear.specs.Linear.{Solved}
use Rattle.std.specs.Prelude.{Ok, Err}
use Rattle.std.specs.declared.ops.ControlFlow.TheVariants.{Break, Continue}
use Rattle.solver.specs.declared.types.Refusal.TheVariants.{NotFinite}
use Rattle.solver.specs.Answer.{Answer, Progress}
use Rattle.solver.specs.Search.{Search, done, refuse, settle}
use Rattle.solver.proofs.Steps.{settled, cond_both}
use Rattle.solver.proofs.Turns.{led}
use Rattle.solver_critical.specs.CriticalPoint.{converged, entries, solved, tested_each}
use Rattle.solver_critical.specs.Rounds.{all_finite}
use Rattle.solver_critical.proofs.Settles.{tests}
use Rattle.solver_binary.specs.declared.types.Densities.{Densities}
use Rattle.solver_binary.specs.declared.types.Unknowns.{Unknowns}
use Rattle.solver_binary.specs.CriticalPointBinary.{answer_t, step_t, after_solve_t, after_conditions_t, answer_p, step_p, row_of, residuals, solved_p, converged_p, tested12, after_solve_p, after_conditions_p}
use Rattle.solver_binary.specs.Rounds.{stepped_t, solved_round_t, round_t, row_finite, finite12, stepped_p, solved_round_p, round_p}

-- ---- what both have
module _ {P : Type 0} (again : P → Search) where
  abbrev leads : Progress P → Search
  leads o = settled (led o again)

  cond_led : (b : Bool) (o : Progress P) → cond b (leads o) (refuse NotFinite) ≡ leads (cond b o (Break (Err NotFinite)))
  unfolding led settle
  cond_led true o = refl
  cond_led false o = refl

  -- the floats of p are tested before it is handed out or gone on from
  stepped_led : (floats : List Float) (answer : Answer) (e : Bool) (p : P) → settled (tested_each floats (cond e (done answer) (again p))) ≡ leads (cond (all_finite floats) (cond e (Break answer) (Continue p)) (Break (Err NotFinite)))
  unfolding led settle
  stepped_led floats answer e p =
      tests floats _
      ∙ ap (λ (s : Search). cond (all_finite floats) s (refuse NotFinite)) (by e)
      ∙ cond_led (all_finite floats) (cond e (Break answer) (Continue p))
    where
      by : (e : Bool) → settled (cond e (done answer) (again p)) ≡ leads (cond e (Break answer) (Continue p))
      by true = refl
      by false = refl

-- tests before others
tests_more : (xs : List Float) (s : Search) (b : Bool) (t : Search) → settled s ≡ cond b t (refuse NotFinite) → settled (tested_each xs s) ≡ cond (all_finite xs && b) t (refuse NotFinite)
tests_more xs s b t e = tests xs s ∙ rw e (cond_both (all_finite xs) b t (refuse NotFinite))

-- ---- kind 8
solved_led_t : (maxdensity : Float) (again : Densities → Search) (p : Densities) (y : Criticality) (s : Solved) → settled (after_solve_t maxdensity p y s again) ≡ settled (led (solved_round_t maxdensity p y s) again)
unfolding after_solve_t solved_round_t stepped_t led settle
solved_led_t maxdensity again p y (Ok δ) = let p' = step_t maxdensity p δ in stepped_led again (p'.rho0 ∷ p'.rho1 ∷ []) (answer_t p') (converged y) p'
solved_led_t maxdensity again p y (Err e) = refl

pub round_led_t : (maxdensity : Float) (p : Densities) (y : Criticality) (again : Densities → Search) → settled (after_conditions_t maxdensity p y again) ≡ settled (led (round_t maxdensity p y) again)
unfolding after_conditions_t round_t
round_led_t maxdensity p y again =
    tests (entries y) (after_solve_t maxdensity p y (solved y) again)
    ∙ ap (λ (s : Search). cond (all_finite (entries y)) s (refuse NotFinite)) (solved_led_t maxdensity again p y (solved y))
    ∙ cond_led again (all_finite (entries y)) (solved_round_t maxdensity p y (solved y))

-- ---- kind 9
tests12 : (y : PressureCriticality) (s : Search) → settled (tested12 y s) ≡ cond (finite12 y) (settled s) (refuse NotFinite)
unfolding finite12
tests12 y s = tests_more (residuals y) _ _ _ (tests_more (row_of y.l) _ _ _ (tests_more (row_of y.c2) _ _ _ (tests (row_of y.p) s)))

solved_led_p : (maxdensity : Float) (again : Unknowns → Search) (p : Unknowns) (y : PressureCriticality) (s : Solved) → settled (after_solve_p maxdensity p y s again) ≡ settled (led (solved_round_p maxdensity p y s) again)
unfolding after_solve_p solved_round_p stepped_p led settle
solved_led_p maxdensity again p y (Ok δ) = let p' = step_p maxdensity p δ in stepped_led again (p'.t ∷ p'.rho0 ∷ p'.rho1 ∷ []) (answer_p p') (converged_p y) p'
solved_led_p maxdensity again p y (Err e) = refl

pub round_led_p : (maxdensity : Float) (p : Unknowns) (y : PressureCriticality) (again : Unknowns → Search) → settled (after_conditions_p maxdensity p y again) ≡ settled (led (round_p maxdensity p y) again)
unfolding after_conditions_p round_p
round_led_p maxdensity p y again =
    tests12 y (after_solve_p maxdensity p y (solved_p y) again)
    ∙ ap (λ (s : Search). cond (finite12 y) s (refuse NotFinite)) (solved_led_p maxdensity again p y (solved_p y))
    ∙ cond_led again (finite12 y) (solved_round_p maxdensity p y (solved_p y))
