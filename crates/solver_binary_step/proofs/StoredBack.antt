-- A place that is stored is read back. Assumes nothing.
use mathlib.Core.Path.{◌≡◌, refl, ap}
use Rattle.solver.specs.Stored.{ended_numbers}
use Rattle.solver.proofs.StoredBack.{answer_back}
use Rattle.solver.specs.Answer.{Progress}
use Rattle.solver_binary_step.specs.BinaryStep.{TemperatureSpot, PressureSpot}
use Rattle.std.specs.declared.ops.ControlFlow.TheVariants.{Break, Continue}
use Rattle.solver_binary_step.specs.Stored.{spot_numbers, temperature_numbers, temperature_spot_by, temperature_place_by, pressure_numbers, pressure_spot_by, pressure_place_by}

pub temperature_back : (x : Progress TemperatureSpot) → temperature_place_by (temperature_numbers x) ≡ x
unfolding temperature_place_by temperature_spot_by temperature_numbers spot_numbers ended_numbers
temperature_back (Break a) = ap Break (answer_back a)
temperature_back (Continue s) = refl

pub pressure_back : (x : Progress PressureSpot) → pressure_place_by (pressure_numbers x) ≡ x
unfolding pressure_place_by pressure_spot_by pressure_numbers spot_numbers ended_numbers
pressure_back (Break a) = ap Break (answer_back a)
pressure_back (Continue s) = refl
