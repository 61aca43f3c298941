-- The longest runs of kinds 5 to 7, whatever the evaluations yield. Assumes nothing.
use Prim.Native.Nat.{ℕ, zero, suc, ◌+◌, ◌*◌}
use native.Mathlib.Omega.{arith}
use mathlib.Core.Path.{◌≡◌}
use mathlib.Core.List.{List, [], ◌∷◌}
use lib.ListN.{length}
use lib.Ieee.{Float, lt}
use Rattle.float.specs.Sign.{abs_of}
use Rattle.evaluations.specs.declared.types.Criticality.{Criticality}
use Rattle.evaluations.specs.declared.types.Stability.{Stability}
use Rattle.linear.specs.Linear.{Solved}
use Rattle.solver.specs.Decimals.{d1e_8}
use Rattle.solver.specs.declared.types.DensityInitialization.{DensityInitialization}
use Rattle.solver.specs.declared.types.Values.{Values}
use Rattle.solver.specs.Answer.{Answer}
use Rattle.std.specs.Prelude.{Ok, Err}
use Rattle.solver.specs.Search.{Search, Within}
use Rattle.solver.proofs.Spans.{asked, within_more, within_bind, within_then, within_tested, within_cond}
use Rattle.std.specs.declared.option.Option.{Option}
use Rattle.std.specs.declared.option.Option.TheVariants.{None, Some}
use Rattle.solver_critical.specs.declared.types.Point.{Point}
use Rattle.solver_critical.specs.CriticalPoint.{tested_each, entries, converged, solved, after_solve, after_conditions, or_else, trial_temperatures, start_density, hkm_from, critical_point_hkm, trials, from_temperature, critical_point}
use Rattle.solver_critical.specs.Spinodal.{after_stability, spinodal_from, calculate_spinodal, after_liquid, after_vapor, after_critical, spinodal}

-- ---- kinds 5 and 7
pub within_each : {n : ℕ} {s : Search} (xs : List Float) → Within n s → Within n (tested_each xs s)
within_each [] w = w
within_each (x ∷ xs) w = within_tested x (within_each xs w)

pub within_else : {n : ℕ} {s : Search} (a : Answer) → Within n s → Within n (or_else s a)
unfolding or_else
within_else (Ok v) w = Within.ended
within_else (Err r) w = w

module _ (maxdensity : Float) where
  within_solve : {n : ℕ} (p : Point) (y : Criticality) (s : Solved) (again : Point → Search) → ((p : Point) → Within n (again p)) → Within n (after_solve maxdensity p y s again)
  unfolding after_solve
  within_solve p y (Ok δ) again h = within_tested _ (within_tested _ (within_cond (converged y) Within.ended (h _)))
  within_solve p y (Err e) again h = Within.ended

  pub within_hkm : (n : ℕ) (p : Point) → Within n (hkm_from maxdensity n p)
  unfolding hkm_from after_conditions
  within_hkm zero p = Within.ended
  within_hkm (suc n) p = asked n (suc n) (omega arith) (λ y. within_each (entries y) (within_solve p y (solved y) (hkm_from maxdensity n) (within_hkm n)))

  pub hkm_50 : (t ρ : Float) → Within 50 (critical_point_hkm maxdensity t ρ)
  unfolding critical_point_hkm
  hkm_50 t ρ = within_hkm 50 _

  within_trials : (ρ : Float) (ts : List Float) → Within (50 * length ts) (trials maxdensity ρ ts)
  unfolding trials
  within_trials ρ [] = Within.ended
  within_trials ρ (t ∷ ts) =
      let q : 50 + 50 * length ts ≡ 50 * suc (length ts) = omega arith in
      rw q at (within_bind (50 * length ts) (or_else (trials maxdensity ρ ts)) (hkm_50 t ρ) (λ a. within_else a (within_trials ρ ts)))

  pub trials_150 : (ρ : Float) → Within 150 (trials maxdensity ρ trial_temperatures)
  unfolding trial_temperatures
  trials_150 ρ = within_trials ρ trial_temperatures

  pub critical_150 : (temperature density : Option Float) → Within 150 (critical_point maxdensity temperature density)
  unfolding critical_point from_temperature
  critical_150 None density = trials_150 (start_density maxdensity density)
  critical_150 (Some t) density = within_more (hkm_50 t _) (omega arith)

-- ---- kind 6
module _ (maxdensity t : Float) where
  within_stability : {n : ℕ} (ρ : Float) (y : Stability) (again : Float → Search) → ((ρ : Float) → Within n (again ρ)) → Within n (after_stability maxdensity ρ y again)
  unfolding after_stability
  within_stability ρ y again h = within_tested y.f (within_tested y.df (within_tested _ (within_cond (lt (abs_of y.f) d1e_8) Within.ended (h _))))

  pub within_spinodal : (n : ℕ) (ρ : Float) → Within n (spinodal_from maxdensity t n ρ)
  unfolding spinodal_from
  within_spinodal zero ρ = Within.ended
  within_spinodal (suc n) ρ = asked n (suc n) (omega arith) (λ y. within_stability ρ y (spinodal_from maxdensity t n) (within_spinodal n))

  pub calculate_50 : (initial : DensityInitialization) → Within 50 (calculate_spinodal maxdensity t initial)
  unfolding calculate_spinodal
  calculate_50 initial = within_spinodal 50 _

  pub vapor_50 : (critical : Float) (v : Values) → Within 50 (after_vapor maxdensity t critical v)
  unfolding after_vapor after_liquid
  vapor_50 critical v = within_then 0 _ (calculate_50 _) (λ l. Within.ended)

  pub after_critical_100 : (c : Values) → Within 100 (after_critical maxdensity t c)
  unfolding after_critical
  after_critical_100 c = within_then 50 _ (calculate_50 _) (λ v. vapor_50 c.second v)

  pub spinodal_250 : Within 250 (spinodal maxdensity t)
  unfolding spinodal
  spinodal_250 = within_then 100 _ (critical_150 maxdensity None None) after_critical_100
