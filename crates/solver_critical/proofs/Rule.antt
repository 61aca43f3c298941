-- Kinds 5 to 7 answer 27 exactly where specs/NotFinite.antt says. Assumes nothing.
use mathlib.Core.Path.{◌≡◌, refl, ap, ◌∙◌}
use Prim.Native.Nat.{ℕ, zero, suc}
use mathlib.Core.Bool.{false, not}
use mathlib.Core.List.{List, [], ◌∷◌}
use lib.Ieee.{Float, lt}
use Rattle.float.specs.Sign.{abs_of}
use Rattle.evaluations.specs.declared.types.Criticality.{Criticality}
use Rattle.evaluations.specs.declared.types.Stability.{Stability}
use Rattle.linear.specs.Linear.{Solved}
use Rattle.solver.specs.Decimals.{d1e_8}
use Rattle.solver.specs.declared.types.DensityInitialization.{DensityInitialization}
use Rattle.solver.specs.declared.types.DensityInitialization.TheVariants.{Vapor, InitialDensity}
use Rattle.solver.specs.declared.types.Values.{Values}
use Rattle.solver.specs.Answer.{Answer}
use Rattle.std.specs.Prelude.{Ok, Err}
use Rattle.solver.specs.Answer.{number_of, status_of, is27}
use Rattle.solver.specs.Search.{Evaluator, Search, run, clean, answer_of, Ruled}
use Rattle.solver.proofs.Rule.{exactly_27, answer_bind, then_told, then_never, ruled_done, ruled_asks, ruled_tested, ruled_cond}
use Rattle.std.specs.declared.option.Option.{Option}
use Rattle.std.specs.declared.option.Option.TheVariants.{None, Some}
use Rattle.solver_critical.specs.declared.types.Point.{Point}
use Rattle.solver_critical.specs.CriticalPoint.{critical_answer, solved, converged, tested_each, entries, after_solve, after_conditions, or_else, trial_temperatures, start_density, hkm_from, critical_point_hkm, trials, from_temperature, critical_point}
use Rattle.solver_critical.specs.Spinodal.{spinodal_answer, both_answer, liquid_start, stability_step, after_stability, spinodal_from, calculate_spinodal, after_liquid, after_vapor, after_critical, spinodal}
use Rattle.solver_critical.specs.NotFinite.{critical_not_finite, spinodals_not_finite}

-- ---- a trial, and the search of a spinodal
pub ruled_each : {t : Search} (xs : List Float) → Ruled t → Ruled (tested_each xs t)
ruled_each [] r = r
ruled_each (x ∷ xs) r = ruled_tested x (ruled_each xs r)

ruled_solve : (maxdensity : Float) (p : Point) (y : Criticality) (s : Solved) (again : Point → Search) → ((p : Point) → Ruled (again p)) → Ruled (after_solve maxdensity p y s again)
unfolding after_solve critical_answer is27 status_of number_of
ruled_solve maxdensity p y (Ok δ) again h = ruled_tested _ (ruled_tested _ (ruled_cond (converged y) (ruled_done refl) (h _)))
ruled_solve maxdensity p y (Err e) again h = ruled_done refl

ruled_hkm : (maxdensity : Float) (n : ℕ) (p : Point) → Ruled (hkm_from maxdensity n p)
unfolding hkm_from after_conditions is27 status_of number_of
ruled_hkm maxdensity zero p = ruled_done refl
ruled_hkm maxdensity (suc n) p = ruled_asks (λ (y : Criticality). ruled_each (entries y) (ruled_solve maxdensity p y (solved y) (hkm_from maxdensity n) (ruled_hkm maxdensity n)))

ruled_spinodal : (maxdensity t : Float) (n : ℕ) (ρ : Float) → Ruled (spinodal_from maxdensity t n ρ)
unfolding spinodal_from after_stability spinodal_answer is27 status_of number_of
ruled_spinodal maxdensity t zero ρ = ruled_done refl
ruled_spinodal maxdensity t (suc n) ρ =
    ruled_asks
    (λ (y : Stability). ruled_tested y.f (ruled_tested y.df (ruled_tested _ (ruled_cond (lt (abs_of y.f) d1e_8) (ruled_done refl) (ruled_spinodal maxdensity t n (stability_step maxdensity ρ y))))))

module _ (ev : Evaluator) (maxdensity : Float) where
  trial_27 : (t ρ : Float) → is27 (answer_of ev (critical_point_hkm maxdensity t ρ)) ≡ not (clean ev (critical_point_hkm maxdensity t ρ))
  unfolding critical_point_hkm
  trial_27 t ρ = exactly_27 ev 0 (ruled_hkm maxdensity 50 (record { t = t; rho = ρ }))

  search_27 : (t : Float) (initial : DensityInitialization) → is27 (answer_of ev (calculate_spinodal maxdensity t initial)) ≡ not (clean ev (calculate_spinodal maxdensity t initial))
  unfolding calculate_spinodal
  search_27 t initial = exactly_27 ev 0 (ruled_spinodal maxdensity t 50 _)

  -- a trial that failed is not seen, whatever it failed of
  trials_27 : (ρ : Float) (ts : List Float) → is27 (answer_of ev (trials maxdensity ρ ts)) ≡ false
  unfolding trials or_else run is27 status_of number_of
  trials_27 ρ [] = refl
  trials_27 ρ (t ∷ ts) =
      ap is27 (answer_bind ev (critical_point_hkm maxdensity t ρ) (or_else (trials maxdensity ρ ts))) ∙ go (answer_of ev (critical_point_hkm maxdensity t ρ)) (trials_27 ρ ts)
    where
      go : (a : Answer) → is27 (answer_of ev (trials maxdensity ρ ts)) ≡ false → is27 (answer_of ev (or_else (trials maxdensity ρ ts) a)) ≡ false
      go (Ok v) h = refl
      go (Err r) h = h

  -- ---- the theorems
  pub critical_27 : (temperature density : Option Float) → is27 (answer_of ev (critical_point maxdensity temperature density)) ≡ critical_not_finite ev maxdensity temperature density
  unfolding critical_point from_temperature critical_not_finite
  critical_27 None density = trials_27 (start_density maxdensity density) trial_temperatures
  critical_27 (Some t) density = trial_27 t (start_density maxdensity density)

  module _ (t : Float) where
    after_vapor_lem : (critical vapor : Values) → is27 (answer_of ev (after_vapor maxdensity t critical.second vapor))
        ≡ not (clean ev (calculate_spinodal maxdensity t (InitialDensity (liquid_start critical.second vapor.first))))
    unfolding after_vapor after_liquid both_answer run is27 status_of
    after_vapor_lem critical vapor = then_never ev _ (after_liquid maxdensity t vapor.first) (λ (v : Values). refl) ∙ search_27 t (InitialDensity (liquid_start critical.second vapor.first))

    pub spinodals_27 : is27 (answer_of ev (spinodal maxdensity t)) ≡ spinodals_not_finite ev maxdensity t
    unfolding spinodal after_critical spinodals_not_finite critical_not_finite
    spinodals_27 =
        then_told ev (critical_point maxdensity None None) (after_critical maxdensity t) false _ (critical_27 None None)
        (λ critical. then_told ev (calculate_spinodal maxdensity t Vapor) (after_vapor maxdensity t critical.second) _ _ (search_27 t Vapor) (after_vapor_lem critical))
