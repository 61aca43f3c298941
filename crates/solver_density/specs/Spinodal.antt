-- `_pressure_spinodal` and `_pressure_spinodal_branch` of density_iteration.rs. Definitions only.
use Rattle.std.specs.Prelude.{ℕ, zero, suc, Bool, cond, Float, Ok, Err}
use Rattle.std.specs.Float.Ieee.{neg, lt, le}
use Rattle.float.specs.Ops.{◌⊕◌, ◌⊖◌, ◌⊗◌, ◌⊘◌, f0}
use Rattle.float.specs.Sign.{finite_of, abs_of, signum_of, max_of, min_of}
use Rattle.evaluations.specs.declared.types.Pressure.{Pressure}
use Rattle.solver.specs.Decimals.{d0·05, d0·95, d0·8, d0·001, d1e_8}
use Rattle.solver.specs.declared.types.Values.{Values}
use Rattle.solver.specs.declared.types.Refusal.TheVariants.{StartNotPositive, NotConverged, WrongBranch}
use Rattle.solver.specs.Answer.{Answer, Progress}
use Rattle.solver.specs.Search.{Search, done, ask, refuse, tested, and_then, curvature}
use Rattle.solver_density.specs.declared.types.Branch.{Branch}
use Rattle.solver_density.specs.declared.types.Branch.TheVariants.{Vapor, Liquid}
use Rattle.std.specs.declared.ops.ControlFlow.TheVariants.{Break, Continue}

-- delta_rho, kept within `most` in size
unfoldable pub capped : Float → Float → Float
capped most δ = cond (lt most (abs_of δ)) (most ⊗ signum_of δ) δ

-- rho after a step by delta_rho, with its caps
unfoldable pub spinodal_step : (maxdensity ρ δ : Float) → Float
spinodal_step maxdensity ρ δ = ρ ⊕ min_of (max_of (capped (d0·05 ⊗ maxdensity) δ) (neg ρ ⊗ d0·95)) (maxdensity ⊖ ρ)

-- a round at ρ: converged, failed since delta_rho is not finite, or on to the next density
unfoldable pub spinodal_outcome : (maxdensity ρ : Float) → Pressure → Progress Float
spinodal_outcome maxdensity ρ y =
    cond (lt (abs_of y.dp_drho) d1e_8)
    (Break (Ok (record { first = y.p; second = ρ; third = y.d2p_drho2 })))
    (let δ = neg y.dp_drho ⊘ y.d2p_drho2 in cond (finite_of δ) (Continue (spinodal_step maxdensity ρ δ)) (Break (Err NotConverged)))

-- what `p_dpdrho_d2pdrho2` yields is tested for 27
abbrev pub tested3 : Pressure → Search → Search
tested3 y t = tested y.p (tested y.dp_drho (tested y.d2p_drho2 t))

-- a density after a step is tested for 27
unfoldable pub continued : Progress Float → (Float → Search) → Search
continued (Break a) again = done a
continued (Continue ρ) again = tested ρ (again ρ)

module _ (maxdensity t : Float) where
  -- with n rounds left, at ρ
  unfoldable pub spinodal_from : ℕ → Float → Search
  spinodal_from zero ρ = refuse NotConverged
  spinodal_from (suc n) ρ = ask (curvature t ρ) (λ y. tested3 y (continued (spinodal_outcome maxdensity ρ y) (spinodal_from n)))

  -- kind 3
  unfoldable pub pressure_spinodal : Float → Search
  pressure_spinodal ρ = cond (le ρ f0) (refuse StartNotPositive) (spinodal_from 30 ρ)

unfoldable pub branch_start : Float → Branch → Float
branch_start maxdensity Liquid = d0·8 ⊗ maxdensity
branch_start maxdensity Vapor = d0·001 ⊗ maxdensity

unfoldable pub on_branch : Branch → Float → Bool
on_branch Liquid d2pdrho2 = lt f0 d2pdrho2
on_branch Vapor d2pdrho2 = lt d2pdrho2 f0

-- pressure and density are handed out if the branch is the one asked for
unfoldable pub branch_answer : Branch → Values → Answer
branch_answer branch v = cond (on_branch branch v.third) (Ok (record { first = v.first; second = v.second; third = f0 })) (Err WrongBranch)

-- kind 4
unfoldable pub pressure_spinodal_branch : (maxdensity t : Float) → Branch → Search
pressure_spinodal_branch maxdensity t branch = and_then (pressure_spinodal maxdensity t (branch_start maxdensity branch)) (λ v. done (branch_answer branch v))
