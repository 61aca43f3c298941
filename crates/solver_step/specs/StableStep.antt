-- Kind 2 one evaluation at a time: what is left at a spot, and where its evaluation leads. Definitions only.
use Rattle.std.specs.Prelude.{cond, Float, Ok, Err}
use Rattle.std.specs.Float.Ieee.{lt}
use Rattle.float.specs.Ops.{◌⊗◌, f0}
use Rattle.float.specs.Sign.{finite_of}
use Rattle.solver.specs.declared.types.DensityInitialization.TheVariants.{Vapor, Liquid}
use Rattle.solver.specs.declared.types.Values.{Values}
use Rattle.solver.specs.declared.types.Refusal.TheVariants.{BothPhasesFailed, NotFinite}
use Rattle.solver.specs.Search.{Evaluator, Search, done, bind, potential}
use Rattle.solver_density.specs.declared.types.Conditions.{Conditions}
use Rattle.solver_density.specs.Density.{conditions_of}
use Rattle.solver_density.specs.Stable.{vapor_potential, potentials, stable_phase, after_liquid}
use Rattle.solver_step.specs.Phase.{Phase, Standing}
use Rattle.solver_step.specs.declared.types.DensitySpot.{DensitySpot}
use Rattle.std.specs.declared.ops.ControlFlow.TheVariants.{Break, Continue}
use Rattle.solver_step.specs.declared.types.StableSpot.{StableSpot}
use Rattle.solver_step.specs.declared.types.StableSpot.TheVariants.{LiquidSearch, VaporSearch, LiquidPotential, VaporPotential}
use Rattle.solver_step.specs.DensityStep.{phase_answer, resume_density, density_at, density_next, density_begin}

-- a density that a search hands out
abbrev pub of_density : Float → Values
of_density ρ = record { first = ρ; second = f0; third = f0 }

-- both phases searched: the potentials are next, or the end
unfoldable pub phases_on : (liquid vapor : Phase) → Standing StableSpot
phases_on (Ok l) (Ok v) = Continue (LiquidPotential l v)
phases_on (Ok l) (Err r) = Break (Ok l)
phases_on (Err q) (Ok v) = Break (Ok v)
phases_on (Err q) (Err r) = Break (Err BothPhasesFailed)

unfoldable pub vapor_search_on : (liquid : Phase) → Standing DensitySpot → Standing StableSpot
vapor_search_on liquid (Break vapor) = phases_on liquid vapor
vapor_search_on liquid (Continue s) = Continue (VaporSearch liquid s)

unfoldable pub liquid_potential_on : (liquid vapor μl : Float) → Standing StableSpot
liquid_potential_on liquid vapor μl = cond (finite_of μl) (Continue (VaporPotential liquid vapor μl)) (Break (Err NotFinite))

unfoldable pub vapor_potential_on : (liquid vapor μl μv : Float) → Standing StableSpot
vapor_potential_on liquid vapor μl μv = cond (finite_of μv) (Break (Ok (cond (lt μv μl) vapor liquid))) (Break (Err NotFinite))

module _ (maxdensity t p : Float) where
  -- what each phase's search works with
  abbrev pub of_liquid : Conditions
  of_liquid = conditions_of maxdensity t p Liquid

  abbrev pub of_vapor : Conditions
  of_vapor = conditions_of maxdensity t p Vapor

  -- the search that is left
  unfoldable pub resume_stable : StableSpot → Search
  resume_stable (LiquidSearch s) = bind (resume_density of_liquid s) (after_liquid maxdensity t p)
  resume_stable (VaporSearch liquid s) = bind (resume_density of_vapor s) (stable_phase t (phase_answer liquid))
  resume_stable (LiquidPotential l v) = potentials t (of_density l) (of_density v)
  resume_stable (VaporPotential l v μl) = vapor_potential t (of_density l) (of_density v) μl

  unfoldable pub stable_left : Standing StableSpot → Search
  stable_left (Break p) = done (phase_answer p)
  stable_left (Continue s) = resume_stable s

  -- the density of the spot's evaluation
  unfoldable pub stable_at : StableSpot → Float
  stable_at (LiquidSearch s) = density_at of_liquid s
  stable_at (VaporSearch liquid s) = density_at of_vapor s
  stable_at (LiquidPotential l v) = l
  stable_at (VaporPotential l v μl) = v

  unfoldable pub liquid_search_on : Standing DensitySpot → Standing StableSpot
  liquid_search_on (Break liquid) = cond (lt p (maxdensity ⊗ t)) (vapor_search_on liquid (density_begin of_vapor)) (Break liquid)
  liquid_search_on (Continue s) = Continue (LiquidSearch s)

  -- the one evaluation, and where it leads
  unfoldable pub stable_next : Evaluator → StableSpot → Standing StableSpot
  stable_next ev (LiquidSearch s) = liquid_search_on (density_next of_liquid ev s)
  stable_next ev (VaporSearch liquid s) = vapor_search_on liquid (density_next of_vapor ev s)
  stable_next ev (LiquidPotential l v) = liquid_potential_on l v (ev (potential t l))
  stable_next ev (VaporPotential l v μl) = vapor_potential_on l v μl (ev (potential t v))

  -- where a search begins
  unfoldable pub stable_begin : Standing StableSpot
  stable_begin = liquid_search_on (density_begin of_liquid)
