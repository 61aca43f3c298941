-- Kinds 8 and 9: the floats of a search's first state and of each later one are values of binary64, as in kinds 5 to 7. Assumes nothing.
use Rattle.std.proofs.Common.{ℕ, zero, suc, eqb, List, [], ◌∷◌}
use lib.Ieee.{Float, binary64}
use lib.Ieee.Bits.{of_bits-fits}
use lib.Ieee.Fits.{add-fits, sub-fits, mul-fits}
use Rattle.evaluations.specs.declared.types.Criticality.{Criticality}
use Rattle.evaluations.specs.declared.types.PressureCriticality.{PressureCriticality}
use Rattle.std.specs.Prelude.{Ok, Err}
use Rattle.linear.specs.Linear.{Solved}
use Rattle.solver.specs.Answer.{values_of}
use Rattle.solver.specs.Stored.{ended_numbers}
use Rattle.solver.specs.Search.{Evaluator}
use Rattle.std.specs.declared.option.Option.{Option}
use Rattle.std.specs.declared.option.Option.TheVariants.{None, Some}
use Rattle.solver_critical.specs.CriticalPoint.{part, entries, solved, converged}
use Rattle.solver_critical.specs.Rounds.{all_finite}
use Rattle.solver_binary.specs.declared.types.Densities.{Densities}
use Rattle.solver_binary.specs.declared.types.Unknowns.{Unknowns}
use Rattle.solver.specs.Answer.{Progress}
use Rattle.std.specs.declared.ops.ControlFlow.TheVariants.{Break, Continue}
use Rattle.solver_binary.specs.CriticalPointBinary.{start_densities, answer_t, reduced_t, step_t, start_temperature, start_unknowns, answer_p, reduced_p, step_p, solved_p, converged_p}
use Rattle.solver_binary.specs.Rounds.{stepped_t, solved_round_t, round_t, finite12, stepped_p, solved_round_p, round_p}
use Rattle.solver.specs.Rounds.{onward}
use Rattle.solver_binary_step.specs.BinaryStep.{TemperatureSpot, PressureSpot, temperature_on, temperature_begin, temperature_at, temperature_next, pressure_on, pressure_begin, pressure_at, pressure_next}
use Rattle.solver_binary_step.specs.Stored.{spot_numbers, temperature_numbers, temperature_place_by, pressure_numbers, pressure_place_by}
use Rattle.solver_state.specs.declared.types.State.{State}
use Rattle.solver_state.specs.declared.types.Job.TheVariants.{CriticalPointBinaryT, CriticalPointBinaryP}
use Rattle.solver_state.specs.State.{begin_of, start_of, temperature_step, pressure_step, step_of}
use Rattle.stepping.specs.Storable.{ValuesStorable, FloatsStorable}
use Rattle.stepping.proofs.FloatLaws.{Fit, zero_fits, cond_keeps}
use Rattle.stepping.proofs.CriticalFloats.{StartFits, Two, two, none, AnswerHeld, floored_held}

-- ---- kind 8
abbrev HeldT : Progress Densities → Type 0
HeldT (Break a) = AnswerHeld a
HeldT (Continue p) = Two p.rho0 p.rho1

step_held_t : (maxdensity : Float) (p : Densities) (δ : List Float) → Two (step_t maxdensity p δ).rho0 (step_t maxdensity p δ).rho1
unfolding step_t
step_held_t maxdensity p δ =
    let δ' = reduced_t maxdensity δ in
    two (floored_held maxdensity _ (sub-fits binary64 p.rho0 (part δ' 0))) (floored_held maxdensity _ (sub-fits binary64 p.rho1 (part δ' 1)))

solved_held_t : (maxdensity : Float) (p : Densities) (y : Criticality) (s : Solved) → HeldT (solved_round_t maxdensity p y s)
unfolding solved_round_t stepped_t answer_t values_of
solved_held_t maxdensity p y (Ok δ) =
    let p' = step_t maxdensity p δ in
    let h = step_held_t maxdensity p δ in
    cond_keeps HeldT (all_finite (p'.rho0 ∷ p'.rho1 ∷ [])) _ _ (cond_keeps HeldT (converged y) _ _ h h) none
solved_held_t maxdensity p y (Err e) = none

round_held_t : (maxdensity : Float) (p : Densities) (y : Criticality) → HeldT (round_t maxdensity p y)
unfolding round_t values_of
round_held_t maxdensity p y = cond_keeps HeldT (all_finite (entries y)) _ _ (solved_held_t maxdensity p y (solved y)) none

on_held_t : (n : ℕ) (o : Progress Densities) → HeldT o → ValuesStorable (temperature_numbers (temperature_on n o)).values
unfolding onward temperature_numbers spot_numbers ended_numbers values_of
on_held_t n (Break a) h = h
on_held_t zero (Continue p) h = none
on_held_t (suc n) (Continue p) h = h

pub temperature_begin_lem : (maxdensity z0 z1 t : Float) (density : Option Float) → FloatsStorable (start_of (CriticalPointBinaryT maxdensity z0 z1 t density))
unfolding start_of begin_of temperature_begin temperature_numbers spot_numbers start_densities
temperature_begin_lem maxdensity z0 z1 t density = record { values = two (mul-fits binary64 z0 _) (mul-fits binary64 z1 _); latest = zero_fits }

pub temperature_steps : (maxdensity z0 z1 t : Float) (density : Option Float) (ev : Evaluator) (s : State)
    → FloatsStorable s → FloatsStorable (step_of (CriticalPointBinaryT maxdensity z0 z1 t density) ev s)
unfolding step_of temperature_step temperature_place_by temperature_next temperature_at
temperature_steps maxdensity z0 z1 t density ev s k =
    cond_keeps (λ (p : Progress TemperatureSpot). FloatsStorable (temperature_step maxdensity t ev p s)) (eqb s.numbers.counters.tag 0) _ _ k
    (record { values = on_held_t _ _ (round_held_t maxdensity _ _); latest = add-fits binary64 _ _ })

-- ---- kind 9

-- the three floats of a place or an answer
abbrev ThreeFit : (x y z : Float) → Type 0
ThreeFit x y z = ValuesStorable (record { first = x; second = y; third = z })

three : {x y z : Float} → Fit x → Fit y → Fit z → ThreeFit x y z
three a b c = record { first = a; second = b; third = c }

abbrev HeldP : Progress Unknowns → Type 0
HeldP (Break a) = AnswerHeld a
HeldP (Continue p) = ThreeFit p.t p.rho0 p.rho1

step_held_p : (maxdensity : Float) (p : Unknowns) (δ : List Float) → ThreeFit (step_p maxdensity p δ).t (step_p maxdensity p δ).rho0 (step_p maxdensity p δ).rho1
unfolding step_p
step_held_p maxdensity p δ =
    let δ' = reduced_p maxdensity p.t δ in
    three (sub-fits binary64 p.t (part δ' 0)) (floored_held maxdensity _ (sub-fits binary64 p.rho0 (part δ' 1))) (floored_held maxdensity _ (sub-fits binary64 p.rho1 (part δ' 2)))

solved_held_p : (maxdensity : Float) (p : Unknowns) (y : PressureCriticality) (s : Solved) → HeldP (solved_round_p maxdensity p y s)
unfolding solved_round_p stepped_p answer_p values_of
solved_held_p maxdensity p y (Ok δ) =
    let p' = step_p maxdensity p δ in
    let h = step_held_p maxdensity p δ in
    cond_keeps HeldP (all_finite (p'.t ∷ p'.rho0 ∷ p'.rho1 ∷ [])) _ _ (cond_keeps HeldP (converged_p y) _ _ h h) none
solved_held_p maxdensity p y (Err e) = none

round_held_p : (maxdensity : Float) (p : Unknowns) (y : PressureCriticality) → HeldP (round_p maxdensity p y)
unfolding round_p values_of
round_held_p maxdensity p y = cond_keeps HeldP (finite12 y) _ _ (solved_held_p maxdensity p y (solved_p y)) none

on_held_p : (n : ℕ) (o : Progress Unknowns) → HeldP o → ValuesStorable (pressure_numbers (pressure_on n o)).values
unfolding onward pressure_numbers spot_numbers ended_numbers values_of
on_held_p n (Break a) h = h
on_held_p zero (Continue p) h = none
on_held_p (suc n) (Continue p) h = h

start_temperature_held : (temperature : Option Float) → StartFits temperature → Fit (start_temperature temperature)
unfolding start_temperature
start_temperature_held None h = of_bits-fits binary64 0x4072_c000_0000_0000
start_temperature_held (Some t) h = h

pub pressure_begin_lem : (maxdensity z0 z1 p : Float) (temperature density : Option Float) → StartFits temperature → FloatsStorable (start_of (CriticalPointBinaryP maxdensity z0 z1 p temperature density))
unfolding start_of begin_of pressure_begin pressure_numbers spot_numbers start_unknowns start_densities
pressure_begin_lem maxdensity z0 z1 p temperature density h = record { values = three (start_temperature_held temperature h) (mul-fits binary64 z0 _) (mul-fits binary64 z1 _); latest = zero_fits }

pub pressure_steps : (maxdensity z0 z1 p : Float) (temperature density : Option Float) (ev : Evaluator) (s : State)
    → FloatsStorable s → FloatsStorable (step_of (CriticalPointBinaryP maxdensity z0 z1 p temperature density) ev s)
unfolding step_of pressure_step pressure_place_by pressure_next pressure_at
pressure_steps maxdensity z0 z1 p temperature density ev s k =
    cond_keeps (λ (x : Progress PressureSpot). FloatsStorable (pressure_step maxdensity p ev x s)) (eqb s.numbers.counters.tag 0) _ _ k
    (record { values = on_held_p _ _ (round_held_p maxdensity _ _); latest = add-fits binary64 _ _ })
