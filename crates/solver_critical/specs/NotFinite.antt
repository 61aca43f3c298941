-- When kinds 5 to 7 end with 27. Definitions only.
use Rattle.std.specs.Prelude.{Bool, false, not, ◌||◌, Float}
use Rattle.solver.specs.declared.types.DensityInitialization.TheVariants.{Vapor, InitialDensity}
use Rattle.solver.specs.declared.types.Values.{Values}
use Rattle.solver.specs.Search.{Evaluator, Search, clean, answer_of, found_and}
use Rattle.std.specs.declared.option.Option.{Option}
use Rattle.std.specs.declared.option.Option.TheVariants.{None, Some}
use Rattle.solver_critical.specs.CriticalPoint.{start_density, critical_point_hkm, critical_point}
use Rattle.solver_critical.specs.Spinodal.{liquid_start, calculate_spinodal}

-- "a trial of kinds 5 and 6 ended so counts as failed like any other", of kind 7 "as in kind 5"; "with a given temperature its refusal is final"
unfoldable pub critical_not_finite : Evaluator → (maxdensity : Float) → (temperature density : Option Float) → Bool
critical_not_finite ev maxdensity None density = false
critical_not_finite ev maxdensity (Some t) density = not (clean ev (critical_point_hkm maxdensity t (start_density maxdensity density)))

-- "a spinodal search ended so ends kind 6 with 27": the vapour's once the critical point is found, the liquid's once the vapour's is
unfoldable pub spinodals_not_finite : Evaluator → (maxdensity t : Float) → Bool
spinodals_not_finite ev maxdensity t =
    found_and (answer_of ev (critical_point maxdensity None None)) (λ critical. not (clean ev vapor) || found_and (answer_of ev vapor) (λ v. not (clean ev (liquid critical v))))
  where
    vapor : Search
    vapor = calculate_spinodal maxdensity t Vapor

    liquid : (critical vapor : Values) → Search
    liquid critical v = calculate_spinodal maxdensity t (InitialDensity (liquid_start critical.second v.first))
