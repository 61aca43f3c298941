-- `_density_iteration_stable` of density_iteration.rs. Definitions only.
use Rattle.std.specs.Prelude.{cond, Float, Ok, Err}
use Rattle.std.specs.Float.Ieee.{lt}
use Rattle.float.specs.Ops.{◌⊗◌}
use Rattle.solver.specs.declared.types.DensityInitialization.TheVariants.{Vapor, Liquid}
use Rattle.solver.specs.declared.types.Values.{Values}
use Rattle.solver.specs.declared.types.Refusal.TheVariants.{BothPhasesFailed}
use Rattle.solver.specs.Answer.{Answer}
use Rattle.solver.specs.Search.{Search, done, ask, refuse, tested, bind, potential}
use Rattle.solver_density.specs.Density.{density_iteration}

-- "equal potentials give liquid"
unfoldable pub lower_potential : (liquid vapor : Values) (μl μv : Float) → Answer
lower_potential liquid vapor μl μv = cond (lt μv μl) (Ok vapor) (Ok liquid)

module _ (t : Float) where
  unfoldable pub vapor_potential : (liquid vapor : Values) (μl : Float) → Search
  vapor_potential liquid vapor μl = ask (potential t vapor.first) (λ μv. tested μv (done (lower_potential liquid vapor μl μv)))

  unfoldable pub potentials : (liquid vapor : Values) → Search
  potentials liquid vapor = ask (potential t liquid.first) (λ μl. tested μl (vapor_potential liquid vapor μl))

  -- both phases searched, each found or failed
  unfoldable pub stable_phase : (liquid vapor : Answer) → Search
  stable_phase (Ok l) (Ok v) = potentials l v
  stable_phase (Ok l) (Err r) = done (Ok l)
  stable_phase (Err q) (Ok v) = done (Ok v)
  stable_phase (Err q) (Err r) = refuse BothPhasesFailed

module _ (maxdensity t p : Float) where
  unfoldable pub after_liquid : Answer → Search
  after_liquid liquid = cond (lt p (maxdensity ⊗ t)) (bind (density_iteration maxdensity t p Vapor) (stable_phase t liquid)) (done liquid)

  -- kind 2
  unfoldable pub density_iteration_stable : Search
  density_iteration_stable = bind (density_iteration maxdensity t p Liquid) after_liquid
