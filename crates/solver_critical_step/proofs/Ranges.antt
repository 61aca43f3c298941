-- A step from counters within their ranges leads to counters within their ranges. Assumes nothing.
use Rattle.std.specs.declared.option.Option.TheVariants.{None, Some}
use mathlib.Core.Path.{◌≡◌, refl}
use Prim.Native.Nat.{ℕ, zero, suc, ◌<◌}
use native.Mathlib.Omega.{arith}
use mathlib.Core.Bool.{Bool, true, false, cond}
use borrow.Author.Tests.{ltb-true}
use lib.Dec.{ltb}
use lib.Ieee.{Float}
use Rattle.solver.specs.declared.types.Refusal.TheVariants.{NotConverged}
use Rattle.solver.specs.Answer.{Answer}
use Rattle.std.specs.Prelude.{Ok, Err}
use Rattle.solver.specs.Stored.{status_fits}
use Rattle.solver.specs.Search.{Evaluator}
use Rattle.solver.proofs.Ranges.{Fits, below, fits, ended_fits}
use Rattle.std.specs.declared.option.Option.{Option}
use Rattle.solver.specs.Answer.{Progress}
use Rattle.solver_critical.specs.declared.types.Point.{Point}
use Rattle.std.specs.declared.ops.ControlFlow.TheVariants.{Break, Continue}
use Rattle.solver_critical.specs.CriticalPoint.{trial_temperatures, trial_temperature}
use Rattle.solver.specs.Rounds.{onward}
use Rattle.solver_critical_step.specs.declared.types.CriticalSpot.{CriticalSpot}
use Rattle.solver_critical_step.specs.declared.types.CriticalSpot.TheVariants.{Given, Trial}
use Rattle.solver_critical_step.specs.declared.types.SpinodalsSpot.{SpinodalsSpot}
use Rattle.solver_critical_step.specs.declared.types.SpinodalsSpot.TheVariants.{CriticalSearch, VaporSpinodal, LiquidSpinodal}
use Rattle.solver_critical_step.specs.CriticalStep.{HkmSpot, hkm_on, hkm_start, hkm_next, given_on, trial_at, trial_on, critical_begin, critical_next}
use Rattle.solver_critical_step.specs.SpinodalsStep.{stability_on, stability_start, stability_next, liquid_on, vapor_on, critical_on, spinodals_begin, spinodals_next}
use Rattle.solver_critical_step.specs.Stored.{spot_numbers, critical_spot_numbers, critical_numbers, spinodals_numbers}

-- the counters of a place that asks
pub asks_fits : (stage tag way rounds : ℕ) (x y : Float) → stage < 5 → tag < 7 → way < 4 → rounds < 50 → Fits (spot_numbers stage tag way rounds x y)
unfolding spot_numbers status_fits
asks_fits stage tag way rounds x y s t w r = fits 50 _ (record { stage = s; tag = t; status = refl; left = omega arith; way = w; rounds = r })

-- ---- kinds 5 and 7
data Few : Progress CriticalSpot → Type 0 where
  ended : {a : Answer} → Few (Break a)
  given : {s : HkmSpot} → s.rounds < 50 → Few (Continue (Given s))
  trial : {i : ℕ} {s : HkmSpot} → i < 4 → s.rounds < 50 → Few (Continue (Trial i s))

spot_few : (stage : ℕ) (s : CriticalSpot) → Fits (critical_spot_numbers stage s) → Few (Continue s)
unfolding critical_spot_numbers spot_numbers
spot_few stage (Given s) e = given (below 50 _ e).rounds
spot_few stage (Trial i s) e = trial (below 50 _ e).way (below 50 _ e).rounds

spot_fits : (stage : ℕ) → stage < 5 → (s : CriticalSpot) → Few (Continue s) → Fits (critical_spot_numbers stage s)
unfolding critical_spot_numbers
spot_fits stage h (Given s) (given r) = asks_fits stage 1 0 s.rounds _ _ h (omega arith) (omega arith) r
spot_fits stage h (Trial i s) (trial w r) = asks_fits stage 2 i s.rounds _ _ h (omega arith) w r

place_fits : (x : Progress CriticalSpot) → Few x → Fits (critical_numbers x)
unfolding critical_numbers
place_fits (Break a) b = ended_fits a
place_fits (Continue s) b = spot_fits 0 (omega arith) s b

given_few : (n : ℕ) (o : Progress Point) → n < 50 → Few (given_on (hkm_on n o))
unfolding given_on onward
given_few n (Break a) h = ended
given_few zero (Continue p) h = ended
given_few (suc n) (Continue p) h = let l : n < 50 = omega arith in given l

trial_at_few : (ρ : Float) (i : ℕ) → Few (trial_at ρ i)
unfolding trial_at trial_temperatures hkm_start
trial_at_few ρ i = by (ltb i 3) (λ e. ltb-true i 3 e)
  where
    by : (b : Bool) → (b ≡ true → i < 3) → Few (cond b (Continue (Trial i (hkm_start (trial_temperature i) ρ))) (Break (Err NotConverged)))
    by true h =
        let l = h refl in
        let w : i < 4 = omega arith in
        let r : 49 < 50 = omega arith in
        trial w r
    by false h = ended

trial_few : (ρ : Float) (i n : ℕ) (o : Progress Point) → i < 4 → n < 50 → Few (trial_on ρ i (hkm_on n o))
unfolding trial_on onward
trial_few ρ i n (Break (Ok v)) g h = ended
trial_few ρ i n (Break (Err r)) g h = trial_at_few ρ (suc i)
trial_few ρ i zero (Continue p) g h = trial_at_few ρ (suc i)
trial_few ρ i (suc n) (Continue p) g h = let l : n < 50 = omega arith in trial g l

next_few : (maxdensity ρ : Float) (ev : Evaluator) (s : CriticalSpot) → Few (Continue s) → Few (critical_next maxdensity ρ ev s)
unfolding critical_next hkm_next
next_few maxdensity ρ ev (Given s) (given r) = given_few s.rounds _ r
next_few maxdensity ρ ev (Trial i s) (trial w r) = trial_few ρ i s.rounds _ w r

begin_few : (ρ : Float) (temperature : Option Float) → Few (critical_begin ρ temperature)
unfolding critical_begin hkm_start
begin_few ρ None = trial_at_few ρ 0
begin_few ρ (Some t) = let l : 49 < 50 = omega arith in given l

pub critical_kept : (maxdensity ρ : Float) (ev : Evaluator) (s : CriticalSpot) → Fits (critical_numbers (Continue s)) → Fits (critical_numbers (critical_next maxdensity ρ ev s))
unfolding critical_numbers
critical_kept maxdensity ρ ev s e = place_fits _ (next_few maxdensity ρ ev s (spot_few 0 s e))

pub critical_begin_fits : (ρ : Float) (temperature : Option Float) → Fits (critical_numbers (critical_begin ρ temperature))
critical_begin_fits ρ temperature = place_fits _ (begin_few ρ temperature)

-- ---- kind 6
liquid_fits : (vapor : Float) (n : ℕ) (o : Progress Float) → n < 50 → Fits (spinodals_numbers (liquid_on vapor (stability_on n o)))
unfolding liquid_on onward spinodals_numbers
liquid_fits vapor n (Break (Ok l)) h = ended_fits _
liquid_fits vapor n (Break (Err r)) h = ended_fits _
liquid_fits vapor zero (Continue ρ) h = ended_fits _
liquid_fits vapor (suc n) (Continue ρ) h = asks_fits 3 0 0 n _ _ (omega arith) (omega arith) (omega arith) (omega arith)

vapor_fits : (critical : Float) (n : ℕ) (o : Progress Float) → n < 50 → Fits (spinodals_numbers (vapor_on critical (stability_on n o)))
unfolding vapor_on onward stability_start spinodals_numbers
vapor_fits critical n (Break (Ok v)) h = asks_fits 3 0 0 49 _ _ (omega arith) (omega arith) (omega arith) (omega arith)
vapor_fits critical n (Break (Err r)) h = ended_fits _
vapor_fits critical zero (Continue ρ) h = ended_fits _
vapor_fits critical (suc n) (Continue ρ) h = asks_fits 2 0 0 n _ _ (omega arith) (omega arith) (omega arith) (omega arith)

critical_on_fits : (maxdensity : Float) (x : Progress CriticalSpot) → Few x → Fits (spinodals_numbers (critical_on maxdensity x))
unfolding critical_on stability_start spinodals_numbers
critical_on_fits maxdensity (Break (Ok c)) b = asks_fits 2 0 0 49 _ _ (omega arith) (omega arith) (omega arith) (omega arith)
critical_on_fits maxdensity (Break (Err r)) b = ended_fits _
critical_on_fits maxdensity (Continue s) b = spot_fits 1 (omega arith) s b

pub spinodals_kept : (maxdensity t : Float) (ev : Evaluator) (s : SpinodalsSpot) → Fits (spinodals_numbers (Continue s)) → Fits (spinodals_numbers (spinodals_next maxdensity t ev s))
unfolding spinodals_next stability_next spinodals_numbers spot_numbers
spinodals_kept maxdensity t ev (CriticalSearch s) e = critical_on_fits maxdensity _ (next_few maxdensity _ ev s (spot_few 1 s e))
spinodals_kept maxdensity t ev (VaporSpinodal critical s) e = vapor_fits critical s.rounds _ (below 50 _ e).rounds
spinodals_kept maxdensity t ev (LiquidSpinodal vapor s) e = liquid_fits vapor s.rounds _ (below 50 _ e).rounds

pub spinodals_begin_fits : (maxdensity : Float) → Fits (spinodals_numbers (spinodals_begin maxdensity))
unfolding spinodals_begin
spinodals_begin_fits maxdensity = critical_on_fits maxdensity _ (begin_few _ _)
