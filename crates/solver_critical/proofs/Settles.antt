-- A round's value stands for the tests and the search that follow it. Assumes nothing.
use mathlib.Core.Path.{◌≡◌, refl, ap, ◌∙◌}
use mathlib.Core.Bool.{Bool, true, false, cond, ◌&&◌}
use mathlib.Core.List.{List, [], ◌∷◌}
use lib.Ieee.{Float, lt}
use Rattle.float.specs.Sign.{finite_of, abs_of}
use Rattle.evaluations.specs.declared.types.Criticality.{Criticality}
use Rattle.evaluations.specs.declared.types.Stability.{Stability}
use Rattle.linear.specs.Linear.{Solved}
use Rattle.solver.specs.Decimals.{d1e_8}
use Rattle.solver.specs.declared.types.Refusal.TheVariants.{NotFinite}
use Rattle.solver.specs.Answer.{Answer}
use Rattle.std.specs.Prelude.{Ok, Err}
use Rattle.solver.specs.Search.{Search, done, refuse, tested, settle}
use Rattle.solver.proofs.Steps.{settle_tested, settled, cond_both}
use Rattle.solver.proofs.Turns.{led}
use Rattle.solver_critical.specs.declared.types.Point.{Point}
use Rattle.solver.specs.Answer.{Progress}
use Rattle.std.specs.declared.ops.ControlFlow.TheVariants.{Break, Continue}
use Rattle.solver_critical.specs.CriticalPoint.{critical_answer, tested_each, entries, converged, solved, newton_step, after_solve, after_conditions}
use Rattle.solver_critical.specs.Spinodal.{spinodal_answer, stability_step, after_stability}
use Rattle.solver_critical.specs.Rounds.{all_finite, stepped_round, solved_round, critical_round, stability_round}

-- tests made one after another are one test
pub tests : (xs : List Float) (s : Search) → settled (tested_each xs s) ≡ cond (all_finite xs) (settled s) (refuse NotFinite)
tests [] s = refl
tests (x ∷ xs) s = settle_tested finite_of x (tested_each xs s) ∙ rw (tests xs s) (cond_both (finite_of x) (all_finite xs) (settled s) (refuse NotFinite))

-- ---- a round of a critical point search
module _ (maxdensity : Float) (again : Point → Search) where
  abbrev leads : Progress Point → Search
  leads o = settled (led o again)

  cond_led : (b : Bool) (o : Progress Point) → cond b (leads o) (refuse NotFinite) ≡ leads (cond b o (Break (Err NotFinite)))
  unfolding led settle
  cond_led true o = refl
  cond_led false o = refl

  stepped_led : (e : Bool) (p : Point) → settled (tested p.t (tested p.rho (cond e (done (critical_answer p)) (again p)))) ≡ leads (stepped_round e p)
  unfolding stepped_round led settle
  stepped_led e p =
      tests (p.t ∷ p.rho ∷ []) _
      ∙ ap (λ (s : Search). cond (all_finite (p.t ∷ p.rho ∷ [])) s (refuse NotFinite)) (by e)
      ∙ cond_led (all_finite (p.t ∷ p.rho ∷ [])) (cond e (Break (critical_answer p)) (Continue p))
    where
      by : (e : Bool) → settled (cond e (done (critical_answer p)) (again p)) ≡ leads (cond e (Break (critical_answer p)) (Continue p))
      by true = refl
      by false = refl

  solved_led : (p : Point) (y : Criticality) (s : Solved) → settled (after_solve maxdensity p y s again) ≡ leads (solved_round maxdensity p y s)
  unfolding after_solve solved_round led settle
  solved_led p y (Ok δ) = stepped_led (converged y) (newton_step maxdensity p δ)
  solved_led p y (Err e) = refl

  pub round_led : (p : Point) (y : Criticality) → settled (after_conditions maxdensity p y again) ≡ leads (critical_round maxdensity p y)
  unfolding after_conditions critical_round
  round_led p y =
      tests (entries y) (after_solve maxdensity p y (solved y) again)
      ∙ ap (λ (s : Search). cond (all_finite (entries y)) s (refuse NotFinite)) (solved_led p y (solved y))
      ∙ cond_led (all_finite (entries y)) (solved_round maxdensity p y (solved y))

-- ---- a round of a spinodal search
module _ (maxdensity ρ : Float) (y : Stability) (again : Float → Search) where
  abbrev ρ' : Float
  ρ' = stability_step maxdensity ρ y

  pub stability_led_lem : settled (after_stability maxdensity ρ y again) ≡ settled (led (stability_round maxdensity ρ y) again)
  unfolding after_stability stability_round led settle
  stability_led_lem =
      tests (y.f ∷ y.df ∷ []) _
      ∙ ap (λ (s : Search). cond (all_finite (y.f ∷ y.df ∷ [])) s (refuse NotFinite)) (settle_tested finite_of ρ' _)
      ∙ by (all_finite (y.f ∷ y.df ∷ [])) (finite_of ρ') (lt (abs_of y.f) d1e_8)
    where
      by : (a b e : Bool) → cond a (cond b (settled (cond e (done (spinodal_answer ρ')) (again ρ'))) (refuse NotFinite)) (refuse NotFinite)
          ≡ settled (led (cond a (cond b (cond e (Break (spinodal_answer ρ')) (Continue ρ')) (Break (Err NotFinite))) (Break (Err NotFinite))) again)
      by true true true = refl
      by true true false = refl
      by true false e = refl
      by false b e = refl
