-- `_density_iteration` of density_iteration.rs. Definitions only.
use Rattle.std.specs.Prelude.{ℕ, zero, suc, Bool, cond, not, ◌&&◌, Float, Ok, Err}
use Rattle.std.specs.Float.Ieee.{neg, lt, le}
use Rattle.float.specs.Ops.{◌⊕◌, ◌⊖◌, ◌⊗◌, ◌⊘◌, f0}
use Rattle.float.specs.Sign.{negative_of, abs_of, max_of, min_of}
use Rattle.evaluations.specs.declared.types.Pressure.{Pressure}
use Rattle.solver.specs.Decimals.{d0·05, d0·075, d0·95, d0·15, d0·8, d0·85, d0·98, d0·001, d1·1, d1e_12, d1e_14}
use Rattle.solver.specs.declared.types.DensityInitialization.{DensityInitialization}
use Rattle.solver.specs.declared.types.DensityInitialization.TheVariants.{Vapor, Liquid, InitialDensity}
use Rattle.solver.specs.declared.types.Values.{Values}
use Rattle.solver.specs.declared.types.Refusal.TheVariants.{StartNotPositive, NotConverged, IterationFailed}
use Rattle.solver.specs.Answer.{Answer}
use Rattle.solver.specs.Search.{Search, done, ask, refuse, tested, and_then, slope, curvature}
use Rattle.solver_density.specs.declared.types.Branch.TheVariants as Branch
use Rattle.solver_density.specs.declared.types.Conditions.{Conditions}
use Rattle.solver_density.specs.declared.types.Nearest.{Nearest}
use Rattle.solver_density.specs.declared.types.Nearest.TheVariants.{HighDensity, AboveConvex, BelowConcave}
use Rattle.solver_density.specs.declared.types.Both.{Both}
use Rattle.solver_density.specs.declared.types.Both.TheVariants.{BelowConvex, AboveConcave}
use Rattle.solver_density.specs.declared.types.Detour.{Detour}
use Rattle.solver_density.specs.declared.types.Detour.TheVariants.{ByNearest, ByBoth}
use Rattle.solver_density.specs.Spinodal.{capped, tested3, pressure_spinodal, pressure_spinodal_branch}

-- a density, handed out or to go on from
abbrev pub density : Float → Answer
density ρ = Ok (record { first = ρ; second = f0; third = f0 })

unfoldable pub start_of : (maxdensity t p : Float) → DensityInitialization → Float
start_of maxdensity t p Vapor = p ⊘ t
start_of maxdensity t p Liquid = maxdensity
start_of maxdensity t p (InitialDensity ρ) = ρ

unfoldable pub conditions_of : (maxdensity t p : Float) → DensityInitialization → Conditions
conditions_of maxdensity t p initial = record { maxdensity = maxdensity; temperature = t; pressure = p; start = start_of maxdensity t p initial }

-- which detour the Rust takes out of the unstable region at ρ. Its last `else` needs an error or a curvature with neither sign.
unfoldable pub detour_of : (maxdensity ρ error d2pdrho2 : Float) → Detour
detour_of maxdensity ρ error d2pdrho2 =
    cond (lt (d0·85 ⊗ maxdensity) ρ) (ByNearest HighDensity)
    (cond (negative_of error)
    (cond (negative_of d2pdrho2) (ByNearest BelowConcave) (ByBoth BelowConvex))
    (cond (negative_of d2pdrho2) (ByBoth AboveConcave) (ByNearest AboveConvex)))

unfoldable pub converged : (error ρ : Float) → Bool
converged error ρ = lt (abs_of error) (max_of d1e_12 (ρ ⊗ d1e_14))

module _ (c : Conditions) where
  -- "attempt to correct for poor initial density"
  unfoldable pub corrected : Float
  corrected = cond (le c.start (d0·15 ⊗ c.maxdensity)) (d0·05 ⊗ c.start) (min_of (d1·1 ⊗ c.start) c.maxdensity)

  -- rho after the Newton step, with its caps
  unfoldable pub newton : (ρ error dpdrho : Float) → Float
  newton ρ error dpdrho = ρ ⊕ max_of (capped (d0·075 ⊗ c.maxdensity) (neg error ⊘ dpdrho)) (neg d0·95 ⊗ ρ)

  -- to the vapour's side if the spinodal's pressure is above the one looked for, else beyond its density
  unfoldable pub beside_spinodal : Values → Float
  beside_spinodal sp = cond (negative_of (sp.first ⊖ c.pressure)) (min_of (sp.second ⊗ d1·1) c.maxdensity) (d0·001 ⊗ c.maxdensity)

  -- where the detours through the nearest spinodal lead; sp is its pressure and density
  unfoldable pub after_nearest : Nearest → Values → Answer
  after_nearest HighDensity sp =
      cond (lt (d0·85 ⊗ c.maxdensity) sp.second)
      (cond (negative_of (sp.first ⊖ c.pressure)) (Err IterationFailed) (density (sp.second ⊗ d0·98)))
      (density (beside_spinodal sp))
  after_nearest AboveConvex sp = density (beside_spinodal sp)
  after_nearest BelowConcave sp = density (cond (negative_of (sp.first ⊖ c.pressure)) (d0·8 ⊗ c.maxdensity) (sp.second ⊗ d0·8))

  -- where the detours through both spinodals lead; ρl is the liquid's density, v the vapour's pressure and density
  unfoldable pub after_both : Both → (ρl : Float) → Values → Float
  after_both BelowConvex ρl v =
      cond (not (negative_of (v.first ⊖ c.pressure)) && lt (abs_of (c.start ⊖ v.second)) (abs_of (c.start ⊖ ρl)))
      (d0·8 ⊗ v.second)
      (min_of (ρl ⊗ d1·1) c.maxdensity)
  after_both AboveConcave ρl v =
      cond (negative_of (v.first ⊖ c.pressure) && lt (abs_of (c.start ⊖ ρl)) (abs_of (c.start ⊖ v.second)))
      (min_of (ρl ⊗ d1·1) c.maxdensity)
      (d0·8 ⊗ v.second)

  unfoldable pub vapor : Both → (ρl : Float) → Search
  vapor way ρl = and_then (pressure_spinodal_branch c.maxdensity c.temperature Branch.Vapor) (λ v. done (density (after_both way ρl v)))

  -- a detour finds the density that the search goes on from
  unfoldable pub detour : Detour → Search
  detour (ByNearest way) = and_then (pressure_spinodal c.maxdensity c.temperature c.start) (λ sp. done (after_nearest way sp))
  detour (ByBoth way) = and_then (pressure_spinodal_branch c.maxdensity c.temperature Branch.Liquid) (λ l. vapor way l.second)

  -- "correction for instable region"
  unfoldable pub unstable : (ρ error : Float) → Search
  unstable ρ error = ask (curvature c.temperature ρ) (λ y. tested3 y (detour (detour_of c.maxdensity ρ error y.d2p_drho2)))

  -- what `p_dpdrho` at ρ leads to: the unstable region with the error, or the Newton step and its end or another round
  unfoldable pub after_slope : Float → Pressure → (Float → Search) → (Float → Search) → Search
  after_slope ρ y in_unstable again =
      tested y.p
      (tested y.dp_drho
      (let error = y.p ⊖ c.pressure in
      cond (negative_of y.dp_drho) (in_unstable error)
      (let ρ' = newton ρ error y.dp_drho in tested ρ' (cond (converged error ρ') (done (density ρ')) (again ρ')))))

  -- with n rounds left, at ρ
  unfoldable pub density_from : ℕ → Float → Search
  density_from zero ρ = refuse NotConverged
  density_from (suc n) ρ = ask (slope c.temperature ρ) (λ y. after_slope ρ y (λ error. and_then (unstable ρ error) (λ v. density_from n v.first)) (density_from n))

  -- the first round, n being left after it: once, a poor start is corrected and the round goes on from there
  unfoldable pub first_round : ℕ → Search
  first_round n = ask (slope c.temperature c.start) (λ y. after_slope c.start y (λ error. density_from (suc n) corrected) (density_from n))

  unfoldable pub density_search : Search
  density_search = cond (le c.start f0) (refuse StartNotPositive) (first_round 49)

-- kind 1
unfoldable pub density_iteration : (maxdensity t p : Float) → DensityInitialization → Search
density_iteration maxdensity t p initial = density_search (conditions_of maxdensity t p initial)
