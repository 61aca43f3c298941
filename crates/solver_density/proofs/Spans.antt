-- The longest runs of kinds 1 to 4, whatever the evaluations yield. Assumes nothing.
use Prim.Native.Nat.{ℕ, zero, suc, ◌+◌, ◌*◌, ◌≤◌}
use native.Mathlib.Omega.{arith}
use lib.Ieee.{Float, lt, le}
use Rattle.float.specs.Ops.{◌⊗◌, f0}
use Rattle.float.specs.Sign.{negative_of}
use Rattle.evaluations.specs.declared.types.Pressure.{Pressure}
use Rattle.solver.specs.declared.types.DensityInitialization.{DensityInitialization}
use Rattle.solver.specs.declared.types.DensityInitialization.TheVariants.{Vapor, Liquid}
use Rattle.solver.specs.Answer.{Answer, Progress}
use Rattle.std.specs.Prelude.{Ok, Err}
use Rattle.solver.specs.Search.{Search, Within}
use Rattle.solver.proofs.Spans.{asked, within_more, within_bind, within_then, within_tested, within_cond}
use Rattle.solver_density.specs.declared.types.Branch.{Branch}
use Rattle.solver_density.specs.declared.types.Conditions.{Conditions}
use Rattle.std.specs.declared.ops.ControlFlow.TheVariants.{Break, Continue}
use Rattle.solver_density.specs.declared.types.Both.{Both}
use Rattle.solver_density.specs.declared.types.Detour.{Detour}
use Rattle.solver_density.specs.declared.types.Detour.TheVariants.{ByNearest, ByBoth}
use Rattle.solver_density.specs.Spinodal.{tested3, continued, spinodal_outcome, spinodal_from, pressure_spinodal, branch_start, pressure_spinodal_branch}
use Rattle.solver_density.specs.Density.{conditions_of, detour_of, converged, corrected, vapor, detour, unstable, after_slope, density_from, first_round, density_search, density_iteration}
use Rattle.solver_density.specs.Stable.{potentials, vapor_potential, stable_phase, after_liquid, density_iteration_stable}

within_tested3 : {n : ℕ} {t : Search} (y : Pressure) → Within n t → Within n (tested3 y t)
within_tested3 y w = within_tested y.p (within_tested y.dp_drho (within_tested y.d2p_drho2 w))

-- ---- kinds 3 and 4
within_continued : {n : ℕ} (o : Progress Float) (again : Float → Search) → ((ρ : Float) → Within n (again ρ)) → Within n (continued o again)
unfolding continued
within_continued (Break a) again h = Within.ended
within_continued (Continue ρ) again h = within_tested ρ (h ρ)

spinodal_from_lem : (maxdensity t : Float) (n : ℕ) (ρ : Float) → Within n (spinodal_from maxdensity t n ρ)
unfolding spinodal_from
spinodal_from_lem maxdensity t zero ρ = Within.ended
spinodal_from_lem maxdensity t (suc n) ρ =
    asked n (suc n) (omega arith)
    (λ y. within_tested3 y (within_continued (spinodal_outcome maxdensity ρ y) (spinodal_from maxdensity t n) (spinodal_from_lem maxdensity t n)))

pub spinodal_30 : (maxdensity t ρ : Float) → Within 30 (pressure_spinodal maxdensity t ρ)
unfolding pressure_spinodal
spinodal_30 maxdensity t ρ = within_cond (le ρ f0) Within.ended (spinodal_from_lem maxdensity t 30 ρ)

pub branch_30 : (maxdensity t : Float) (branch : Branch) → Within 30 (pressure_spinodal_branch maxdensity t branch)
unfolding pressure_spinodal_branch
branch_30 maxdensity t branch = within_then 0 _ (spinodal_30 maxdensity t (branch_start maxdensity branch)) (λ v. Within.ended)

-- ---- kind 1
module _ (c : Conditions) where
  pub vapor_30 : (way : Both) (ρl : Float) → Within 30 (vapor c way ρl)
  unfolding vapor
  vapor_30 way ρl = within_then 0 _ (branch_30 _ _ _) (λ v. Within.ended)

  pub detour_60 : (way : Detour) → Within 60 (detour c way)
  unfolding detour
  detour_60 (ByNearest way) = within_more (within_then 0 _ (spinodal_30 _ _ _) (λ v. Within.ended)) (omega arith)
  detour_60 (ByBoth way) = within_then 30 _ (branch_30 _ _ _) (λ l. vapor_30 way l.second)

  pub unstable_61 : (ρ error : Float) → Within 61 (unstable c ρ error)
  unfolding unstable
  unstable_61 ρ error = asked 60 61 (omega arith) (λ y. within_tested3 y (detour_60 (detour_of c.maxdensity ρ error y.d2p_drho2)))

  within_slope : (n m : ℕ) → n ≤ m → (ρ : Float) (y : Pressure) (in_unstable again : Float → Search) → ((e : Float) → Within m (in_unstable e)) → ((ρ : Float) → Within n (again ρ))
      → Within m (after_slope c ρ y in_unstable again)
  unfolding after_slope
  within_slope n m l ρ y in_unstable again u h =
      within_tested y.p
      (within_tested y.dp_drho
      (within_cond (negative_of y.dp_drho) (u _) (within_tested _ (within_cond (converged _ _) Within.ended (within_more (h _) l)))))

  pub density_from_lem : (n : ℕ) (ρ : Float) → Within (62 * n) (density_from c n ρ)
  unfolding density_from
  density_from_lem zero ρ = Within.ended
  density_from_lem (suc n) ρ =
      asked (61 + 62 * n) (62 * suc n) (omega arith)
      (λ y. within_slope (62 * n) (61 + 62 * n) (omega arith) ρ y _ (density_from c n) (λ error. within_then (62 * n) _ (unstable_61 ρ error) (λ v. density_from_lem n v.first)) (density_from_lem n))

  pub search_3101 : Within 3101 (density_search c)
  unfolding density_search first_round
  search_3101 =
      within_cond (le c.start f0) Within.ended
      (asked 3100 3101 (omega arith)
      (λ y. within_slope (62 * 49) 3100 (omega arith) c.start y _ (density_from c 49) (λ error. density_from_lem 50 (corrected c)) (density_from_lem 49)))

pub density_3101 : (maxdensity t p : Float) (initial : DensityInitialization) → Within 3101 (density_iteration maxdensity t p initial)
unfolding density_iteration
density_3101 maxdensity t p initial = search_3101 (conditions_of maxdensity t p initial)

-- ---- kind 2
pub phase_2 : (t : Float) (l v : Answer) → Within 2 (stable_phase t l v)
unfolding stable_phase potentials vapor_potential
phase_2 t (Ok l) (Ok v) = asked 1 2 (omega arith) (λ μl. within_tested μl (asked 0 1 (omega arith) (λ μv. within_tested μv Within.ended)))
phase_2 t (Ok l) (Err r) = Within.ended
phase_2 t (Err q) (Ok v) = Within.ended
phase_2 t (Err q) (Err r) = Within.ended

pub stable_6204 : (maxdensity t p : Float) → Within 6204 (density_iteration_stable maxdensity t p)
unfolding density_iteration_stable after_liquid
stable_6204 maxdensity t p = within_bind 3103 (after_liquid maxdensity t p) (density_3101 maxdensity t p Liquid) after_liquid_lem
  where
    after_liquid_lem : (l : Answer) → Within 3103 (after_liquid maxdensity t p l)
    after_liquid_lem l = within_cond (lt p (maxdensity ⊗ t)) (within_bind 2 (stable_phase t l) (density_3101 maxdensity t p Vapor) (phase_2 t l)) Within.ended
