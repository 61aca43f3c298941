-- Kinds 8 and 9: a spot's evaluation is the one that the search left there makes. Assumes nothing.
use mathlib.Core.Path.{◌≡◌, refl, sym, ap, ◌∙◌}
use Prim.Native.Nat.{ℕ, zero, suc}
use lib.Ieee.{Float}
use Rattle.float.specs.Sign.{finite_of}
use Rattle.solver.specs.Search.{Evaluator, settle, next_of}
use Rattle.solver.proofs.Steps.{moved, settled}
use Rattle.std.specs.declared.option.Option.{Option}
use Rattle.solver.specs.Answer.{Progress}
use Rattle.solver_binary.specs.declared.types.Densities.{Densities}
use Rattle.std.specs.declared.ops.ControlFlow.TheVariants.{Break, Continue}
use Rattle.solver_binary.specs.declared.types.Unknowns.{Unknowns}
use Rattle.solver_binary.specs.CriticalPointBinary.{rounds, query_t, after_conditions_t, search_t, critical_point_binary_t, query_p, after_conditions_p, search_p, critical_point_binary_p}
use Rattle.solver_binary.specs.Rounds.{round_t, round_p}
use Rattle.solver_binary.proofs.Newton.{rounds_next}
use Rattle.solver.proofs.Turns.{led}
use Rattle.solver_binary.proofs.Settles.{round_led_t, round_led_p}
use Rattle.solver.specs.Rounds.{onward}
use Rattle.solver_binary_step.specs.BinaryStep.{TemperatureSpot, PressureSpot, temperature_on, temperature_begin, temperature_at, temperature_left, temperature_next, pressure_on, pressure_begin, pressure_at, pressure_left, pressure_next}

-- ---- kind 8
module _ (maxdensity t : Float) where
  temperature_on_lem : (n : ℕ) (o : Progress Densities) → temperature_left maxdensity t (temperature_on n o) ≡ settled (led o (search_t maxdensity t n))
  unfolding temperature_left onward settle led rounds
  temperature_on_lem n (Break a) = refl
  temperature_on_lem zero (Continue p) = refl
  temperature_on_lem (suc n) (Continue p) = refl

  pub temperature_law : (ev : Evaluator) (s : TemperatureSpot) (n : ℕ) (d : Float)
      → next_of finite_of ev (temperature_left maxdensity t (Continue s)) n d ≡ moved n (temperature_at s) (temperature_left maxdensity t (temperature_next maxdensity t ev s))
  unfolding temperature_left temperature_at temperature_next
  temperature_law ev s n d =
      rounds_next (query_t t) (after_conditions_t maxdensity) (round_t maxdensity) (round_led_t maxdensity) ev s.at s.rounds n d
      ∙ ap (moved n (temperature_at s)) (sym (temperature_on_lem s.rounds _))

  pub temperature_begins : (z0 z1 : Float) (density : Option Float)
      → temperature_left maxdensity t (temperature_begin maxdensity z0 z1 density) ≡ settled (critical_point_binary_t maxdensity z0 z1 t density)
  unfolding temperature_left temperature_begin critical_point_binary_t settle rounds
  temperature_begins z0 z1 density = refl

-- ---- kind 9
module _ (maxdensity pressure : Float) where
  pressure_on_lem : (n : ℕ) (o : Progress Unknowns) → pressure_left maxdensity pressure (pressure_on n o) ≡ settled (led o (search_p maxdensity pressure n))
  unfolding pressure_left onward settle led rounds
  pressure_on_lem n (Break a) = refl
  pressure_on_lem zero (Continue p) = refl
  pressure_on_lem (suc n) (Continue p) = refl

  pub pressure_law : (ev : Evaluator) (s : PressureSpot) (n : ℕ) (d : Float)
      → next_of finite_of ev (pressure_left maxdensity pressure (Continue s)) n d ≡ moved n (pressure_at s) (pressure_left maxdensity pressure (pressure_next maxdensity pressure ev s))
  unfolding pressure_left pressure_at pressure_next
  pressure_law ev s n d =
      rounds_next (query_p pressure) (after_conditions_p maxdensity) (round_p maxdensity) (round_led_p maxdensity) ev s.at s.rounds n d
      ∙ ap (moved n (pressure_at s)) (sym (pressure_on_lem s.rounds _))

  pub pressure_begins : (z0 z1 : Float) (temperature density : Option Float)
      → pressure_left maxdensity pressure (pressure_begin maxdensity z0 z1 temperature density) ≡ settled (critical_point_binary_p maxdensity z0 z1 pressure temperature density)
  unfolding pressure_left pressure_begin critical_point_binary_p settle rounds
  pressure_begins z0 z1 temperature density = refl
