-- Kinds 8 and 9 one evaluation at a time: what is left at a spot, and where its evaluation leads. Definitions only.
use Rattle.std.specs.Prelude.{ℕ, suc, Float}
use Rattle.float.specs.Ops.{◌⊕◌}
use Rattle.solver.specs.declared.types.Refusal.TheVariants.{NotConverged}
use Rattle.solver.specs.Search.{Evaluator, Search, done}
use Rattle.std.specs.declared.option.Option.{Option}
use Rattle.solver.specs.Answer.{Progress}
use Rattle.solver_binary.specs.declared.types.Densities.{Densities}
use Rattle.std.specs.declared.ops.ControlFlow.TheVariants.{Break, Continue}
use Rattle.solver_binary.specs.declared.types.Unknowns.{Unknowns}
use Rattle.solver_binary.specs.CriticalPointBinary.{start_densities, query_t, search_t, start_unknowns, query_p, search_p}
use Rattle.solver_binary.specs.Rounds.{round_t, round_p}
use Rattle.solver.specs.declared.types.Spot.{Spot}
use Rattle.solver.specs.Rounds.{onward}

-- ---- kind 8: critical_point_binary_t

-- the rounds left after this one, and the partial densities
abbrev pub TemperatureSpot : Type 0
TemperatureSpot = Spot Densities

-- with n rounds left, where a round leads
abbrev pub temperature_on : ℕ → Progress Densities → Progress TemperatureSpot
temperature_on n o = onward n NotConverged o

-- where a search begins
unfoldable pub temperature_begin : (maxdensity z0 z1 : Float) → Option Float → Progress TemperatureSpot
temperature_begin maxdensity z0 z1 density = Continue (record { rounds = 199; at = start_densities maxdensity z0 z1 density })

-- the density that a look shows of the spot's evaluation
unfoldable pub temperature_at : TemperatureSpot → Float
temperature_at s = s.at.rho0 ⊕ s.at.rho1

module _ (maxdensity t : Float) where
  -- the search that is left
  unfoldable pub temperature_left : Progress TemperatureSpot → Search
  temperature_left (Break a) = done a
  temperature_left (Continue s) = search_t maxdensity t (suc s.rounds) s.at

  -- the one evaluation, and where it leads
  unfoldable pub temperature_next : Evaluator → TemperatureSpot → Progress TemperatureSpot
  temperature_next ev s = temperature_on s.rounds (round_t maxdensity s.at (ev (query_t t s.at)))

-- ---- kind 9: critical_point_binary_p

-- the rounds left after this one, and the temperature and partial densities
abbrev pub PressureSpot : Type 0
PressureSpot = Spot Unknowns

-- with n rounds left, where a round leads
abbrev pub pressure_on : ℕ → Progress Unknowns → Progress PressureSpot
pressure_on n o = onward n NotConverged o

-- where a search begins
unfoldable pub pressure_begin : (maxdensity z0 z1 : Float) → (temperature density : Option Float) → Progress PressureSpot
pressure_begin maxdensity z0 z1 temperature density = Continue (record { rounds = 199; at = start_unknowns maxdensity z0 z1 temperature density })

-- the density that a look shows of the spot's evaluation
unfoldable pub pressure_at : PressureSpot → Float
pressure_at s = s.at.rho0 ⊕ s.at.rho1

module _ (maxdensity pressure : Float) where
  -- the search that is left
  unfoldable pub pressure_left : Progress PressureSpot → Search
  pressure_left (Break a) = done a
  pressure_left (Continue s) = search_p maxdensity pressure (suc s.rounds) s.at

  -- the one evaluation, and where it leads
  unfoldable pub pressure_next : Evaluator → PressureSpot → Progress PressureSpot
  pressure_next ev s = pressure_on s.rounds (round_p maxdensity s.at (ev (query_p pressure s.at)))
