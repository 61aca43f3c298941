-- What a round of a run leaves to run. Assumes nothing.
use mathlib.Core.Path.{◌≡◌, refl, sym, ◌∙◌}
use Prim.Native.Nat.{ℕ, zero, suc, ◌+◌, ◌-◌, ◌≤◌, ◌<◌}
use native.Mathlib.Omega.{arith}
use native.Mathlib.Numerals.{add-one}
use mathlib.Core.List.{List}
use lib.ListN.{length, drop, get_or, drop_of_length-le}
use lib.Seq.{drop-cons}
use lib.Ieee.{Float}
use Rattle.float.specs.Ops.{f0}
use Rattle.eos.specs.declared.types.Blend.{Blend}
use Rattle.evaluations.specs.declared.types.Criticality.{Criticality}
use Rattle.evaluations.specs.declared.types.Stability.{Stability}
use Rattle.evaluations.specs.Critical.{criticality_conditions, stability_condition}
use Rattle.solver.specs.declared.types.Values.{Values}
use Rattle.solver.specs.declared.types.Refusal.{Refusal}
use Rattle.solver.specs.declared.types.Refusal.TheVariants.{NotConverged, Supercritical}
use Rattle.solver.specs.Answer.{Answer}
use Rattle.std.specs.Prelude.{Ok, Err}
use Rattle.solver.specs.declared.types.Ran.{Ran}
use Rattle.solver.specs.Search.{Search, refuse, run}
use Rattle.solver.specs.Evaluated.{evaluated}
use Rattle.solver.proofs.Runs.{ran, same_run, part_bind}
use Rattle.solver.proofs.Turns.{led}
use Rattle.solver_critical.specs.declared.types.Point.{Point}
use Rattle.solver.specs.Answer.{Progress}
use Rattle.std.specs.declared.ops.ControlFlow.TheVariants.{Break, Continue}
use Rattle.solver_critical.specs.CriticalPoint.{or_else, trial_temperatures, trial_temperature, hkm_from, critical_point_hkm, trials}
use Rattle.solver_critical.specs.Spinodal.{spinodal_from}
use Rattle.solver_critical.specs.Rounds.{critical_round, stability_round}
use Rattle.solver_critical.proofs.Settles.{round_led, stability_led_lem}

-- ---- the trial temperatures

-- which default is given does not matter within a list
pub get_d_any : (l : List Float) (i : ℕ) (d e : Float) → i < length l → get_or l i d ≡ get_or l i e
get_d_any l i d e h = let p = drop-cons l i d h in let q = drop-cons l i e h in cc

-- ---- what a trial's answer leaves
pub trial_found : (b : Blend) (n : ℕ) (a : Answer) (v : Values) (s : Search) (w : Ran) → a ≡ Ok v → ran b n (or_else s a) ≡ w → record { answer = Ok v; evaluations = n } ≡ w
unfolding run or_else
trial_found b n a v s w ea e = rw ea at e

pub trial_fails : (b : Blend) (n : ℕ) (a : Answer) (r : Refusal) (s : Search) (w : Ran) → a ≡ Err r → ran b n (or_else s a) ≡ w → ran b n s ≡ w
unfolding or_else
trial_fails b n a r s w ea e = rw ea at e

-- ---- the loop of a critical point search
module _ (b : Blend) (maxdensity : Float) where
  pub hkm_turn : (m n : ℕ) (p : Point) (o : Progress Point) → o ≡ critical_round maxdensity p (criticality_conditions b p.t p.rho) → ran b m (hkm_from maxdensity (suc n) p) ≡ ran b (m + 1) (led o (hkm_from maxdensity n))
  unfolding run hkm_from evaluated
  hkm_turn m n p o eo = rw eo (same_run b (m + 1) _ _ (round_led maxdensity (hkm_from maxdensity n) p (criticality_conditions b p.t p.rho)))

  pub hkm_ends : (p : Point) → hkm_from maxdensity zero p ≡ refuse NotConverged
  unfolding hkm_from
  hkm_ends p = refl

  -- ---- the loop of the trials

  pub trial_turn : (ρ t : Float) (i n : ℕ) (s w : Ran) → i < 3 → t ≡ get_or trial_temperatures i f0 → s ≡ ran b 0 (critical_point_hkm maxdensity t ρ)
      → ran b n (trials maxdensity ρ (drop i trial_temperatures)) ≡ w → ran b (n + s.evaluations) (or_else (trials maxdensity ρ (drop (i + 1) trial_temperatures)) s.answer) ≡ w
  unfolding trials trial_temperatures
  trial_turn ρ t i n s w h et es e =
      part_bind b n (critical_point_hkm maxdensity t ρ) (or_else (trials maxdensity ρ (drop (i + 1) trial_temperatures))) s es ∙ rw (et, add-one) (rw (drop-cons trial_temperatures i f0 h) at e)

  pub trials_over : (ρ : Float) (i n : ℕ) (w : Ran) → 3 ≤ i → ran b n (trials maxdensity ρ (drop i trial_temperatures)) ≡ w → record { answer = Err NotConverged; evaluations = n } ≡ w
  unfolding run trials trial_temperatures
  trials_over ρ i n w h e = rw (drop_of_length-le trial_temperatures h) at e

-- ---- the loop of a spinodal search
module _ (b : Blend) (maxdensity t : Float) where
  pub stability_turn : (m n : ℕ) (ρ : Float) (o : Progress Float) → o ≡ stability_round maxdensity ρ (stability_condition b t ρ) → ran b m (spinodal_from maxdensity t (suc n) ρ) ≡ ran b (m + 1) (led o (spinodal_from maxdensity t n))
  unfolding run spinodal_from evaluated
  stability_turn m n ρ o eo = rw eo (same_run b (m + 1) _ _ (stability_led_lem maxdensity ρ (stability_condition b t ρ) (spinodal_from maxdensity t n)))

  pub stability_ends : (ρ : Float) → spinodal_from maxdensity t zero ρ ≡ refuse Supercritical
  unfolding spinodal_from
  stability_ends ρ = refl
