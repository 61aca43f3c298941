-- The places of kinds 8 and 9 as numbers and back: tag 0 is the end, any other a round, whose values are where it is. Every number is read as some place. Definitions only.
use Rattle.std.specs.Prelude.{ℕ, cond, eqb, Float}
use Rattle.float.specs.Ops.{f0}
use Rattle.solver.specs.declared.types.Numbers.{Numbers}
use Rattle.solver.specs.Stored.{answer_by, ended_numbers}
use Rattle.solver_binary_step.specs.BinaryStep.{TemperatureSpot, PressureSpot}
use Rattle.solver.specs.Answer.{Progress}
use Rattle.std.specs.declared.ops.ControlFlow.TheVariants.{Break, Continue}

-- a place that asks
unfoldable pub spot_numbers : (rounds : ℕ) (x y z : Float) → Numbers
spot_numbers rounds x y z =
    record {
      counters = record { stage = 0; tag = 1; status = 0; left = 0; way = 0; rounds = rounds };
      values = record { first = x; second = y; third = z };
    }

-- ---- kind 8
unfoldable pub temperature_numbers : Progress TemperatureSpot → Numbers
temperature_numbers (Break a) = ended_numbers a
temperature_numbers (Continue s) = spot_numbers s.rounds s.at.rho0 s.at.rho1 f0

unfoldable pub temperature_spot_by : Numbers → TemperatureSpot
temperature_spot_by n = record { rounds = n.counters.rounds; at = record { rho0 = n.values.first; rho1 = n.values.second } }

unfoldable pub temperature_place_by : Numbers → Progress TemperatureSpot
temperature_place_by n = cond (eqb n.counters.tag 0) (Break (answer_by n.counters.status n.values)) (Continue (temperature_spot_by n))

-- ---- kind 9
unfoldable pub pressure_numbers : Progress PressureSpot → Numbers
pressure_numbers (Break a) = ended_numbers a
pressure_numbers (Continue s) = spot_numbers s.rounds s.at.t s.at.rho0 s.at.rho1

unfoldable pub pressure_spot_by : Numbers → PressureSpot
pressure_spot_by n = record { rounds = n.counters.rounds; at = record { t = n.values.first; rho0 = n.values.second; rho1 = n.values.third } }

unfoldable pub pressure_place_by : Numbers → Progress PressureSpot
pressure_place_by n = cond (eqb n.counters.tag 0) (Break (answer_by n.counters.status n.values)) (Continue (pressure_spot_by n))
