-- A step from counters within their ranges leads to counters within their ranges. Assumes nothing.
use mathlib.Core.Path.{refl}
use Prim.Native.Nat.{ℕ, zero, suc, ◌<◌}
use native.Mathlib.Omega.{arith}
use lib.Ieee.{Float}
use Rattle.solver.specs.Stored.{status_fits}
use Rattle.solver.specs.Search.{Evaluator}
use Rattle.solver.proofs.Ranges.{FitsBelow, below, fits, ended_below}
use Rattle.std.specs.declared.option.Option.{Option}
use Rattle.solver.specs.Answer.{Progress}
use Rattle.solver_binary.specs.declared.types.Densities.{Densities}
use Rattle.std.specs.declared.ops.ControlFlow.TheVariants.{Break, Continue}
use Rattle.solver_binary.specs.declared.types.Unknowns.{Unknowns}
use Rattle.solver.specs.Rounds.{onward}
use Rattle.solver_binary_step.specs.BinaryStep.{TemperatureSpot, PressureSpot, temperature_on, temperature_begin, temperature_next, pressure_on, pressure_begin, pressure_next}
use Rattle.solver_binary_step.specs.Stored.{spot_numbers, temperature_numbers, pressure_numbers}

-- the counters of a place that asks
pub asks_fits : (rounds : ℕ) (x y z : Float) → rounds < 200 → FitsBelow 200 (spot_numbers rounds x y z)
unfolding spot_numbers status_fits
asks_fits rounds x y z h = fits 200 _ (record { stage = omega arith; tag = omega arith; status = refl; left = omega arith; way = omega arith; rounds = h })

-- ---- kind 8
temperature_on_fits : (n : ℕ) (o : Progress Densities) → n < 200 → FitsBelow 200 (temperature_numbers (temperature_on n o))
unfolding temperature_numbers onward
temperature_on_fits n (Break a) h = ended_below 200 a (omega arith)
temperature_on_fits zero (Continue p) h = ended_below 200 _ (omega arith)
temperature_on_fits (suc n) (Continue p) h = asks_fits n _ _ _ (omega arith)

pub temperature_kept : (maxdensity t : Float) (ev : Evaluator) (s : TemperatureSpot) → FitsBelow 200 (temperature_numbers (Continue s)) → FitsBelow 200 (temperature_numbers (temperature_next maxdensity t ev s))
unfolding temperature_next
temperature_kept maxdensity t ev s e = temperature_on_fits s.rounds _ (unfold temperature_numbers spot_numbers in (below 200 _ e).rounds)

pub temperature_begin_fits : (maxdensity : Float) (z0 z1 : Float) (density : Option Float) → FitsBelow 200 (temperature_numbers (temperature_begin maxdensity z0 z1 density))
unfolding temperature_numbers temperature_begin
temperature_begin_fits maxdensity z0 z1 density = asks_fits 199 _ _ _ (omega arith)

-- ---- kind 9
pressure_on_fits : (n : ℕ) (o : Progress Unknowns) → n < 200 → FitsBelow 200 (pressure_numbers (pressure_on n o))
unfolding pressure_numbers onward
pressure_on_fits n (Break a) h = ended_below 200 a (omega arith)
pressure_on_fits zero (Continue p) h = ended_below 200 _ (omega arith)
pressure_on_fits (suc n) (Continue p) h = asks_fits n _ _ _ (omega arith)

pub pressure_kept : (maxdensity pressure : Float) (ev : Evaluator) (s : PressureSpot) → FitsBelow 200 (pressure_numbers (Continue s)) → FitsBelow 200 (pressure_numbers (pressure_next maxdensity pressure ev s))
unfolding pressure_next
pressure_kept maxdensity pressure ev s e = pressure_on_fits s.rounds _ (unfold pressure_numbers spot_numbers in (below 200 _ e).rounds)

pub pressure_begin_fits : (maxdensity : Float) (z0 z1 : Float) (temperature density : Option Float) → FitsBelow 200 (pressure_numbers (pressure_begin maxdensity z0 z1 temperature density))
unfolding pressure_numbers pressure_begin
pressure_begin_fits maxdensity z0 z1 temperature density = asks_fits 199 _ _ _ (omega arith)
