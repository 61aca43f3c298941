-- Kinds 5 to 7: the floats of a search's first state and of each later one are values of binary64. What an evaluation yields need not be one, since
-- each float that is stored is an operation's result, the larger of two, or was stored before. Assumes nothing.
use Rattle.std.proofs.Common.{ℕ, zero, suc, ◌||◌, eqb, ltb, List, [], ◌∷◌, length}
use lib.Ieee.{Float, binary64, is_nan, lt}
use lib.Ieee.Bits.{of_bits-fits}
use lib.Ieee.Fits.{cond-fits, sub-fits, mul-fits}
use Rattle.float.specs.Ops.{◌⊗◌, f0}
use Rattle.float.specs.Sign.{max_of, abs_of, finite_of}
use Rattle.evaluations.specs.declared.types.Criticality.{Criticality}
use Rattle.evaluations.specs.declared.types.Stability.{Stability}
use Rattle.linear.specs.Linear.{Solved}
use Rattle.solver.specs.Decimals.{d1e_4, d1e_5, d1e_8}
use Rattle.solver.specs.Answer.{Answer}
use Rattle.std.specs.Prelude.{Ok, Err}
use Rattle.solver.specs.declared.types.Numbers.{Numbers}
use Rattle.solver.specs.Answer.{values_of}
use Rattle.solver.specs.Stored.{ended_numbers}
use Rattle.solver.specs.Search.{Evaluator}
use Rattle.std.specs.declared.option.Option.{Option}
use Rattle.std.specs.declared.option.Option.TheVariants.{None, Some}
use Rattle.solver_critical.specs.declared.types.Point.{Point}
use Rattle.solver.specs.Answer.{Progress}
use Rattle.std.specs.declared.ops.ControlFlow.TheVariants.{Break, Continue}
use Rattle.solver_critical.specs.CriticalPoint.{critical_answer, floored, part, newton_step, reduced_step, entries, solved, converged, trial_temperatures, trial_temperature, start_density}
use Rattle.solver_critical.specs.Spinodal.{spinodal_answer, both_answer, spinodal_start, liquid_start, stability_step}
use Rattle.solver_critical.specs.Rounds.{all_finite, stepped_round, solved_round, critical_round, stability_round}
use Rattle.solver_critical_step.specs.declared.types.CriticalSpot.{CriticalSpot}
use Rattle.solver_critical_step.specs.declared.types.CriticalSpot.TheVariants.{Given, Trial}
use Rattle.solver_critical_step.specs.declared.types.SpinodalsSpot.{SpinodalsSpot}
use Rattle.solver.specs.Rounds.{onward}
use Rattle.solver_critical_step.specs.CriticalStep.{hkm_on, hkm_start, hkm_next, critical_at, given_on, trial_at, trial_on, critical_begin, critical_next}
use Rattle.solver_critical_step.specs.SpinodalsStep.{stability_on, stability_start, stability_next, spinodals_at, liquid_on, vapor_on, critical_on, spinodals_begin, spinodals_next}
use Rattle.solver_critical_step.specs.Stored.{spot_numbers, critical_spot_numbers, critical_numbers, hkm_spot_by, critical_spot_by, critical_place_by, spinodals_numbers, stability_spot_by, spinodals_spot_by, spinodals_place_by}
use Rattle.solver_state.specs.declared.types.State.{State}
use Rattle.solver_state.specs.declared.types.Job.TheVariants.{CriticalPoint, StabilitySpinodals}
use Rattle.solver_state.specs.State.{begin_of, start_of, critical_step, spinodals_step, step_of}
use Rattle.stepping.specs.Storable.{ValuesStorable, FloatsStorable}
use Rattle.stepping.proofs.FloatLaws.{Fit, zero_fits, cond_keeps}

-- a start that is given fits
abbrev pub StartFits : Option Float → Type 0
StartFits None = Unit {0}
StartFits (Some x) = Fit x

max_held : (x y : Float) → Fit x → Fit y → Fit (max_of x y)
unfolding max_of
max_held x y a b = cond-fits binary64 (is_nan x || lt x y) y x b a

-- the three floats of a place or an answer that has two
abbrev pub Two : (x y : Float) → Type 0
Two x y = ValuesStorable (record { first = x; second = y; third = f0 })

pub two : {x y : Float} → Fit x → Fit y → Two x y
two a b = record { first = a; second = b; third = zero_fits }

pub none : Two f0 f0
none = two zero_fits zero_fits

abbrev pub AnswerHeld : Answer → Type 0
AnswerHeld a = ValuesStorable (values_of a)

-- ---- the rounds
pub floored_held : (maxdensity ρ : Float) → Fit ρ → Fit (floored maxdensity ρ)
unfolding floored
floored_held maxdensity ρ h = max_held ρ (d1e_4 ⊗ maxdensity) h (mul-fits binary64 d1e_4 maxdensity)

-- the point after a Newton step: a difference, and a difference with its floor
newton_held : (maxdensity : Float) (p : Point) (δ : List Float) → Two (newton_step maxdensity p δ).t (newton_step maxdensity p δ).rho
unfolding newton_step
newton_held maxdensity p δ =
    let δ' = reduced_step maxdensity p.t δ in
    two (sub-fits binary64 p.t (part δ' 0)) (floored_held maxdensity _ (sub-fits binary64 p.rho (part δ' 1)))

stability_step_held : (maxdensity ρ : Float) (y : Stability) → Fit (stability_step maxdensity ρ y)
unfolding stability_step
stability_step_held maxdensity ρ y = floored_held maxdensity _ (sub-fits binary64 ρ _)

abbrev RoundHeld : Progress Point → Type 0
RoundHeld (Break a) = AnswerHeld a
RoundHeld (Continue p) = Two p.t p.rho

abbrev StableHeld : Progress Float → Type 0
StableHeld (Break a) = AnswerHeld a
StableHeld (Continue ρ) = Fit ρ

solved_held : (maxdensity : Float) (p : Point) (y : Criticality) (s : Solved) → RoundHeld (solved_round maxdensity p y s)
unfolding solved_round stepped_round critical_answer values_of
solved_held maxdensity p y (Ok δ) =
    let p' = newton_step maxdensity p δ in
    let h = newton_held maxdensity p δ in
    cond_keeps RoundHeld (all_finite (p'.t ∷ p'.rho ∷ [])) _ _ (cond_keeps RoundHeld (converged y) _ _ h h) none
solved_held maxdensity p y (Err e) = none

round_held : (maxdensity : Float) (p : Point) (y : Criticality) → RoundHeld (critical_round maxdensity p y)
unfolding critical_round values_of
round_held maxdensity p y = cond_keeps RoundHeld (all_finite (entries y)) _ _ (solved_held maxdensity p y (solved y)) none

stable_held : (maxdensity ρ : Float) (y : Stability) → StableHeld (stability_round maxdensity ρ y)
unfolding stability_round spinodal_answer values_of
stable_held maxdensity ρ y =
    let ρ' = stability_step maxdensity ρ y in
    let h = stability_step_held maxdensity ρ y in
    cond_keeps StableHeld (all_finite (y.f ∷ y.df ∷ [])) _ _ (cond_keeps StableHeld (finite_of ρ') _ _ (cond_keeps StableHeld (lt (abs_of y.f) d1e_8) _ _ (two h zero_fits) h) none) none

-- ---- kinds 5 and 7
abbrev CriticalHeld : Progress CriticalSpot → Type 0
CriticalHeld x = ValuesStorable (critical_numbers x).values

given_held : (n : ℕ) (o : Progress Point) → RoundHeld o → CriticalHeld (given_on (hkm_on n o))
unfolding given_on onward critical_numbers critical_spot_numbers spot_numbers ended_numbers values_of
given_held n (Break a) h = h
given_held zero (Continue p) h = none
given_held (suc n) (Continue p) h = h

temperature_held : (i : ℕ) → Fit (trial_temperature i)
unfolding trial_temperature trial_temperatures
temperature_held zero = of_bits-fits binary64 0x4072_c000_0000_0000
temperature_held (suc zero) = of_bits-fits binary64 0x4085_e000_0000_0000
temperature_held (suc (suc zero)) = of_bits-fits binary64 0x407f_4000_0000_0000
temperature_held (suc (suc (suc i))) = zero_fits

module _ (ρ : Float) (h : Fit ρ) where
  trial_at_held : (i : ℕ) → CriticalHeld (trial_at ρ i)
  unfolding trial_at hkm_start critical_numbers critical_spot_numbers spot_numbers ended_numbers values_of
  trial_at_held i = cond_keeps CriticalHeld (ltb i (length trial_temperatures)) _ _ (two (temperature_held i) h) none

  trial_held : (i n : ℕ) (o : Progress Point) → RoundHeld o → CriticalHeld (trial_on ρ i (hkm_on n o))
  unfolding trial_on onward critical_numbers critical_spot_numbers spot_numbers ended_numbers values_of
  trial_held i n (Break (Ok v)) g = g
  trial_held i n (Break (Err r)) g = trial_at_held (suc i)
  trial_held i zero (Continue p) g = trial_at_held (suc i)
  trial_held i (suc n) (Continue p) g = g

  next_held : (maxdensity : Float) (ev : Evaluator) (s : CriticalSpot) → CriticalHeld (critical_next maxdensity ρ ev s)
  unfolding critical_next hkm_next
  next_held maxdensity ev (Given s) = given_held s.rounds _ (round_held maxdensity s.at _)
  next_held maxdensity ev (Trial i s) = trial_held i s.rounds _ (round_held maxdensity s.at _)

  begin_held : (temperature : Option Float) → StartFits temperature → CriticalHeld (critical_begin ρ temperature)
  unfolding critical_begin hkm_start critical_numbers critical_spot_numbers spot_numbers
  begin_held None g = trial_at_held 0
  begin_held (Some t) g = two g h

start_held : (maxdensity : Float) (density : Option Float) → StartFits density → Fit (start_density maxdensity density)
unfolding start_density
start_held maxdensity None h = mul-fits binary64 _ maxdensity
start_held maxdensity (Some ρ) h = h

-- the density of the evaluation at a spot that is read
spot_at_held : (n : Numbers) → ValuesStorable n.values → Fit (critical_at (critical_spot_by n))
unfolding critical_spot_by critical_at hkm_spot_by
spot_at_held n h = cond_keeps (λ (s : CriticalSpot). Fit (critical_at s)) (eqb n.counters.tag 1) _ _ h.second h.second

pub critical_begin_lem : (maxdensity : Float) (temperature density : Option Float)
    → StartFits temperature → StartFits density → FloatsStorable (start_of (CriticalPoint maxdensity temperature density))
unfolding start_of begin_of
critical_begin_lem maxdensity temperature density g h = record { values = begin_held _ (start_held maxdensity density h) temperature g; latest = zero_fits }

pub critical_steps : (maxdensity : Float) (temperature density : Option Float) (ev : Evaluator) (s : State)
    → StartFits density → FloatsStorable s → FloatsStorable (step_of (CriticalPoint maxdensity temperature density) ev s)
unfolding step_of critical_step critical_place_by
critical_steps maxdensity temperature density ev s h k =
    let n = s.numbers in
    let ρ = start_density maxdensity density in
    cond_keeps (λ (p : Progress CriticalSpot). FloatsStorable (critical_step maxdensity ρ ev p s)) (eqb n.counters.tag 0) _ _ k
    (record { values = next_held ρ (start_held maxdensity density h) maxdensity ev (critical_spot_by n); latest = spot_at_held n k.values })

-- ---- kind 6
abbrev SpinodalsHeld : Progress SpinodalsSpot → Type 0
SpinodalsHeld x = ValuesStorable (spinodals_numbers x).values

liquid_held : (vapor : Float) → Fit vapor → (n : ℕ) (o : Progress Float) → StableHeld o → SpinodalsHeld (liquid_on vapor (stability_on n o))
unfolding liquid_on onward spinodals_numbers spot_numbers ended_numbers both_answer values_of
liquid_held vapor h n (Break (Ok l)) g = two h g.first
liquid_held vapor h n (Break (Err r)) g = none
liquid_held vapor h zero (Continue ρ) g = none
liquid_held vapor h (suc n) (Continue ρ) g = two g h

vapor_held : (critical : Float) → Fit critical → (n : ℕ) (o : Progress Float) → StableHeld o → SpinodalsHeld (vapor_on critical (stability_on n o))
unfolding vapor_on onward stability_start liquid_start spinodals_numbers spot_numbers ended_numbers values_of
vapor_held critical h n (Break (Ok v)) g = two (sub-fits binary64 _ v.first) g.first
vapor_held critical h n (Break (Err r)) g = none
vapor_held critical h zero (Continue ρ) g = none
vapor_held critical h (suc n) (Continue ρ) g = two g h

critical_on_held : (maxdensity : Float) (x : Progress CriticalSpot) → CriticalHeld x → SpinodalsHeld (critical_on maxdensity x)
unfolding critical_on stability_start spinodal_start spinodals_numbers critical_numbers critical_spot_numbers spot_numbers ended_numbers values_of
critical_on_held maxdensity (Break (Ok c)) h = two (mul-fits binary64 d1e_5 maxdensity) h.second
critical_on_held maxdensity (Break (Err r)) h = none
critical_on_held maxdensity (Continue (Given s)) h = h
critical_on_held maxdensity (Continue (Trial i s)) h = h

pub spinodals_begin_lem : (maxdensity t : Float) → FloatsStorable (start_of (StabilitySpinodals maxdensity t))
unfolding start_of begin_of spinodals_begin
spinodals_begin_lem maxdensity t =
    let ρ = start_density maxdensity None in
    record { values = critical_on_held maxdensity _ (begin_held ρ (start_held maxdensity None tt) None tt); latest = zero_fits }

pub spinodals_steps : (maxdensity t : Float) (ev : Evaluator) (s : State) → FloatsStorable s → FloatsStorable (step_of (StabilitySpinodals maxdensity t) ev s)
unfolding step_of spinodals_step spinodals_place_by spinodals_spot_by spinodals_next spinodals_at stability_next stability_spot_by
spinodals_steps maxdensity t ev s k =
    let n = s.numbers in
    let ρ = start_density maxdensity None in
    cond_keeps (λ (p : Progress SpinodalsSpot). FloatsStorable (spinodals_step maxdensity t ev p s)) (eqb n.counters.stage 0) _ _ k
    (cond_keeps at (eqb n.counters.stage 1) _ _
    (record {
      values = critical_on_held maxdensity _ (next_held ρ (start_held maxdensity None tt) maxdensity ev (critical_spot_by n));
      latest = spot_at_held n k.values;
    })
    (cond_keeps at (eqb n.counters.stage 2) _ _
    (record { values = vapor_held _ k.values.second n.counters.rounds _ (stable_held maxdensity _ _); latest = k.values.first })
    (record { values = liquid_held _ k.values.second n.counters.rounds _ (stable_held maxdensity _ _); latest = k.values.first })))
  where
    at : SpinodalsSpot → Type 0
    at x = FloatsStorable (spinodals_step maxdensity t ev (Continue x) s)
