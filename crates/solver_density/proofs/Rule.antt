-- In kinds 1, 3 and 4 the answer is 27 exactly where a number tested along the run leaves the finite range, in kind 2 where specs/NotFinite.antt says. Assumes nothing.
use mathlib.Core.Path.{◌≡◌, refl, ap, ◌∙◌}
use Prim.Native.Nat.{ℕ, zero, suc}
use mathlib.Core.Bool.{Bool, true, false, cond, not, ◌&&◌}
use lib.Ieee.{Float, lt, le}
use Rattle.float.specs.Ops.{◌⊗◌, f0}
use Rattle.float.specs.Sign.{negative_of, finite_of, abs_of}
use Rattle.evaluations.specs.declared.types.Pressure.{Pressure}
use Rattle.solver.specs.Decimals.{d1e_8}
use Rattle.solver.specs.declared.types.DensityInitialization.{DensityInitialization}
use Rattle.solver.specs.declared.types.DensityInitialization.TheVariants.{Vapor, Liquid}
use Rattle.solver.specs.declared.types.Values.{Values}
use Rattle.solver.specs.Answer.{Answer, number_of, status_of, is27, Progress}
use Rattle.std.specs.Prelude.{Ok, Err}
use Rattle.solver.specs.Search.{Evaluator, Search, done, bind, tested, run, clean, answer_of, found_and, Ruled, potential}
use Rattle.solver.proofs.Rule.{exactly_27, answer_bind, ruled_done, ruled_asks, ruled_tested, ruled_cond, ruled_then}
use Rattle.solver_density.specs.declared.types.Branch.{Branch}
use Rattle.solver_density.specs.declared.types.Conditions.{Conditions}
use Rattle.std.specs.declared.ops.ControlFlow.TheVariants.{Break, Continue}
use Rattle.solver_density.specs.declared.types.Nearest.{Nearest}
use Rattle.solver_density.specs.declared.types.Nearest.TheVariants.{HighDensity, AboveConvex, BelowConcave}
use Rattle.solver_density.specs.declared.types.Detour.{Detour}
use Rattle.solver_density.specs.declared.types.Detour.TheVariants.{ByNearest, ByBoth}
use Rattle.solver_density.specs.Spinodal.{tested3, continued, spinodal_outcome, spinodal_from, pressure_spinodal, on_branch, branch_answer, pressure_spinodal_branch}
use Rattle.solver_density.specs.Density.{conditions_of, detour_of, converged, corrected, after_nearest, vapor, detour, unstable, after_slope, density_from, first_round, density_search, density_iteration}
use Rattle.solver_density.specs.Stable.{lower_potential, vapor_potential, potentials, stable_phase, after_liquid, density_iteration_stable}
use Rattle.solver_density.specs.NotFinite.{potentials_not_finite, stable_not_finite}

either : {a b : Answer} (c : Bool) → Ruled (done a) → Ruled (done b) → Ruled (done (cond c a b))
either true r q = r
either false r q = q

ruled_tested3 : {t : Search} (y : Pressure) → Ruled t → Ruled (tested3 y t)
ruled_tested3 y r = ruled_tested y.p (ruled_tested y.dp_drho (ruled_tested y.d2p_drho2 r))

-- ---- kinds 3 and 4
data Other : Progress Float → Type 0 where
  ends : {a : Answer} → is27 a ≡ false → Other (Break a)
  goes : {ρ : Float} → Other (Continue ρ)

other_cond : {s t : Progress Float} (b : Bool) → Other s → Other t → Other (cond b s t)
other_cond true r q = r
other_cond false r q = q

ruled_continued : (o : Progress Float) (again : Float → Search) → Other o → ((ρ : Float) → Ruled (again ρ)) → Ruled (continued o again)
unfolding continued
ruled_continued _ again (ends e) h = ruled_done e
ruled_continued _ again (goes {ρ = ρ}) h = ruled_tested ρ (h ρ)

outcome_other : (maxdensity ρ : Float) (y : Pressure) → Other (spinodal_outcome maxdensity ρ y)
unfolding spinodal_outcome is27 status_of number_of
outcome_other maxdensity ρ y = other_cond (lt (abs_of y.dp_drho) d1e_8) (ends refl) (other_cond (finite_of _) goes (ends refl))

ruled_from : (maxdensity t : Float) (n : ℕ) (ρ : Float) → Ruled (spinodal_from maxdensity t n ρ)
unfolding spinodal_from is27 status_of number_of
ruled_from maxdensity t zero ρ = ruled_done refl
ruled_from maxdensity t (suc n) ρ =
    ruled_asks (λ (y : Pressure). ruled_tested3 y (ruled_continued (spinodal_outcome maxdensity ρ y) (spinodal_from maxdensity t n) (outcome_other maxdensity ρ y) (ruled_from maxdensity t n)))

ruled_spinodal : (maxdensity t ρ : Float) → Ruled (pressure_spinodal maxdensity t ρ)
unfolding pressure_spinodal is27 status_of number_of
ruled_spinodal maxdensity t ρ = ruled_cond (le ρ f0) (ruled_done refl) (ruled_from maxdensity t 30 ρ)

ruled_branch : (maxdensity t : Float) (branch : Branch) → Ruled (pressure_spinodal_branch maxdensity t branch)
unfolding pressure_spinodal_branch branch_answer is27 status_of number_of
ruled_branch maxdensity t branch = ruled_then _ (ruled_spinodal maxdensity t _) (λ v. either (on_branch branch v.third) (ruled_done refl) (ruled_done refl))

-- ---- kind 1
module _ (c : Conditions) where
  nearest_other : (way : Nearest) (sp : Values) → Ruled (done (after_nearest c way sp))
  unfolding after_nearest is27 status_of number_of
  nearest_other HighDensity sp = either (lt _ _) (either (negative_of _) (ruled_done refl) (ruled_done refl)) (ruled_done refl)
  nearest_other AboveConvex sp = ruled_done refl
  nearest_other BelowConcave sp = ruled_done refl

  ruled_detour : (way : Detour) → Ruled (detour c way)
  unfolding detour vapor is27 status_of number_of
  ruled_detour (ByNearest way) = ruled_then _ (ruled_spinodal _ _ _) (nearest_other way)
  ruled_detour (ByBoth way) = ruled_then _ (ruled_branch _ _ _) (λ l. ruled_then _ (ruled_branch _ _ _) (λ v. ruled_done refl))

  ruled_unstable : (ρ error : Float) → Ruled (unstable c ρ error)
  unfolding unstable
  ruled_unstable ρ error = ruled_asks (λ (y : Pressure). ruled_tested3 y (ruled_detour (detour_of c.maxdensity ρ error y.d2p_drho2)))

  ruled_slope : (ρ : Float) (y : Pressure) (in_unstable again : Float → Search) → ((e : Float) → Ruled (in_unstable e)) → ((ρ : Float) → Ruled (again ρ)) → Ruled (after_slope c ρ y in_unstable again)
  unfolding after_slope is27 status_of number_of
  ruled_slope ρ y in_unstable again u h =
      ruled_tested y.p
      (ruled_tested y.dp_drho (ruled_cond (negative_of y.dp_drho) (u _) (ruled_tested _ (ruled_cond (converged _ _) (ruled_done refl) (h _)))))

  ruled_density : (n : ℕ) (ρ : Float) → Ruled (density_from c n ρ)
  unfolding density_from is27 status_of number_of
  ruled_density zero ρ = ruled_done refl
  ruled_density (suc n) ρ =
      ruled_asks (λ (y : Pressure). ruled_slope ρ y _ (density_from c n) (λ error. ruled_then _ (ruled_unstable ρ error) (λ v. ruled_density n v.first)) (ruled_density n))

  ruled_search : Ruled (density_search c)
  unfolding density_search first_round is27 status_of number_of
  ruled_search =
      ruled_cond (le c.start f0) (ruled_done refl)
      (ruled_asks (λ (y : Pressure). ruled_slope c.start y _ (density_from c 49) (λ error. ruled_density 50 (corrected c)) (ruled_density 49)))

-- ---- kind 2: the potentials
ruled_potentials : (t : Float) (l v : Values) → Ruled (potentials t l v)
unfolding potentials vapor_potential lower_potential is27 status_of
ruled_potentials t l v =
    ruled_asks (λ (μl : Float). ruled_tested μl (ruled_asks (λ (μv : Float). ruled_tested μv (either (lt μv μl) (ruled_done refl) (ruled_done refl)))))

potentials_27 : (ev : Evaluator) (t : Float) (l v : Values) → is27 (answer_of ev (potentials t l v)) ≡ potentials_not_finite ev t l v
unfolding potentials vapor_potential potentials_not_finite clean tested
potentials_27 ev t l v = exactly_27 ev 0 (ruled_potentials t l v) ∙ ap (λ (b : Bool). not (finite_of (ev (potential t l.first)) && b)) (and-true (finite_of (ev (potential t v.first))))
  where
    and-true : (b : Bool) → b && true ≡ b
    and-true true = refl
    and-true false = refl

phases_27 : (ev : Evaluator) (t : Float) (l v : Answer) → is27 (answer_of ev (stable_phase t l v)) ≡ found_and l (λ l. found_and v (potentials_not_finite ev t l))
unfolding stable_phase found_and run is27 status_of number_of
phases_27 ev t (Ok l) (Ok v) = potentials_27 ev t l v
phases_27 ev t (Ok l) (Err r) = refl
phases_27 ev t (Err q) (Ok v) = refl
phases_27 ev t (Err q) (Err r) = refl

-- ---- the theorems
module _ (ev : Evaluator) (maxdensity t : Float) where
  pub density_27 : (p : Float) (initial : DensityInitialization)
      → is27 (answer_of ev (density_iteration maxdensity t p initial)) ≡ not (clean ev (density_iteration maxdensity t p initial))
  unfolding density_iteration
  density_27 p initial = exactly_27 ev 0 (ruled_search (conditions_of maxdensity t p initial))

  pub spinodal_27 : (ρ : Float) → is27 (answer_of ev (pressure_spinodal maxdensity t ρ)) ≡ not (clean ev (pressure_spinodal maxdensity t ρ))
  spinodal_27 ρ = exactly_27 ev 0 (ruled_spinodal maxdensity t ρ)

  pub branch_27 : (branch : Branch) → is27 (answer_of ev (pressure_spinodal_branch maxdensity t branch)) ≡ not (clean ev (pressure_spinodal_branch maxdensity t branch))
  branch_27 branch = exactly_27 ev 0 (ruled_branch maxdensity t branch)

  pub stable_27 : (p : Float) → is27 (answer_of ev (density_iteration_stable maxdensity t p)) ≡ stable_not_finite ev maxdensity t p
  unfolding density_iteration_stable after_liquid stable_not_finite run
  stable_27 p = ap is27 (answer_bind ev liquid (after_liquid maxdensity t p)) ∙ go (lt p (maxdensity ⊗ t))
    where
      liquid : Search
      liquid = density_iteration maxdensity t p Liquid

      vapor : Search
      vapor = density_iteration maxdensity t p Vapor

      go : (b : Bool) → is27 (answer_of ev (cond b (bind vapor (stable_phase t (answer_of ev liquid))) (done (answer_of ev liquid))))
          ≡ cond b (found_and (answer_of ev liquid) (λ l. found_and (answer_of ev vapor) (potentials_not_finite ev t l))) (not (clean ev liquid))
      go true = ap is27 (answer_bind ev vapor (stable_phase t (answer_of ev liquid))) ∙ phases_27 ev t (answer_of ev liquid) (answer_of ev vapor)
      go false = density_27 p Liquid
