-- `calculate_spinodal` and `spinodal` of critical_point.rs, for one component. Definitions only.
use Rattle.std.specs.Prelude.{ℕ, zero, suc, cond, Float}
use Rattle.std.specs.Float.Ieee.{lt}
use Rattle.float.specs.Ops.{◌⊖◌, ◌⊗◌, ◌⊘◌, f0, f2}
use Rattle.float.specs.Sign.{abs_of}
use Rattle.evaluations.specs.declared.types.Stability.{Stability}
use Rattle.solver.specs.Decimals.{d0·03, d1e_5, d1e_8}
use Rattle.solver.specs.declared.types.DensityInitialization.{DensityInitialization}
use Rattle.solver.specs.declared.types.DensityInitialization.TheVariants.{Vapor, Liquid, InitialDensity}
use Rattle.solver.specs.declared.types.Values.{Values}
use Rattle.solver.specs.declared.types.Refusal.TheVariants.{Supercritical}
use Rattle.solver.specs.Answer.{Answer}
use Rattle.std.specs.Prelude.{Ok, Err}
use Rattle.solver.specs.Search.{Search, done, ask, refuse, tested, and_then, stability}
use Rattle.std.specs.declared.option.Option.TheVariants.{None, Some}
use Rattle.solver_critical.specs.CriticalPoint.{floored, critical_point}

-- one spinodal's density
unfoldable pub spinodal_answer : (ρ : Float) → Answer
spinodal_answer ρ = Ok (record { first = ρ; second = f0; third = f0 })

-- the two densities that kind 6 hands out
unfoldable pub both_answer : (vapor liquid : Float) → Answer
both_answer vapor liquid = Ok (record { first = vapor; second = liquid; third = f0 })

unfoldable pub spinodal_start : (maxdensity : Float) → DensityInitialization → Float
spinodal_start maxdensity Vapor = d1e_5 ⊗ maxdensity
spinodal_start maxdensity Liquid = maxdensity
spinodal_start maxdensity (InitialDensity ρ) = ρ

-- "Kind 6's liquid search starts at 2·critical less vapour density"
unfoldable pub liquid_start : (critical vapor : Float) → Float
liquid_start critical vapor = f2 ⊗ critical ⊖ vapor

-- "reduce step if necessary"
unfoldable pub reduced_delta : (most δ : Float) → Float
reduced_delta most δ = cond (lt most (abs_of δ)) (δ ⊗ (most ⊘ abs_of δ)) δ

-- rho after the Newton step, with its floor
unfoldable pub stability_step : (maxdensity ρ : Float) → Stability → Float
stability_step maxdensity ρ y = floored maxdensity (ρ ⊖ reduced_delta (d0·03 ⊗ maxdensity) (y.f ⊘ y.df))

-- what `stability_condition` at ρ leads to: the Newton step, and its end or another round
unfoldable pub after_stability : (maxdensity ρ : Float) → Stability → (Float → Search) → Search
after_stability maxdensity ρ y again =
    tested y.f
    (tested y.df
    (let ρ' = stability_step maxdensity ρ y in tested ρ' (cond (lt (abs_of y.f) d1e_8) (done (spinodal_answer ρ')) (again ρ'))))

module _ (maxdensity t : Float) where
  -- with n rounds left, at ρ
  unfoldable pub spinodal_from : ℕ → Float → Search
  spinodal_from zero ρ = refuse Supercritical
  spinodal_from (suc n) ρ = ask (stability t ρ) (λ y. after_stability maxdensity ρ y (spinodal_from n))

  unfoldable pub calculate_spinodal : DensityInitialization → Search
  calculate_spinodal initial = spinodal_from 50 (spinodal_start maxdensity initial)

  unfoldable pub after_liquid : (vapor : Float) → Values → Search
  after_liquid vapor liquid = done (both_answer vapor liquid.first)

  unfoldable pub after_vapor : (critical : Float) → Values → Search
  after_vapor critical vapor = and_then (calculate_spinodal (InitialDensity (liquid_start critical vapor.first))) (after_liquid vapor.first)

  unfoldable pub after_critical : Values → Search
  after_critical critical = and_then (calculate_spinodal Vapor) (after_vapor critical.second)

  -- kind 6
  unfoldable pub spinodal : Search
  spinodal = and_then (critical_point maxdensity None None) after_critical
