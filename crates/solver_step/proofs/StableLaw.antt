-- Kind 2: a spot's evaluation is the one that the search left there makes. Assumes nothing.
use mathlib.Core.Path.{◌≡◌, refl, sym, ap, ◌∙◌}
use Prim.Native.Nat.{ℕ}
use mathlib.Core.Bool.{Bool, true, false, cond}
use lib.Ieee.{Float, lt}
use Rattle.float.specs.Ops.{◌⊗◌}
use Rattle.float.specs.Sign.{finite_of}
use Rattle.solver.specs.declared.types.Refusal.TheVariants.{NotFinite}
use Rattle.solver.specs.Answer.{Answer}
use Rattle.solver.specs.Search.{Evaluator, Search, done, refuse, tested, bind, settle, next_of, potential}
use Rattle.solver.proofs.Steps.{settle_bind, settle_tested, moved, next_bind, settled}
use Rattle.solver_density.specs.declared.types.Conditions.{Conditions}
use Rattle.solver_density.specs.Density.{density_search, density_iteration}
use Rattle.solver_density.specs.Stable.{lower_potential, vapor_potential, potentials, stable_phase, after_liquid, density_iteration_stable}
use Rattle.solver_step.specs.Phase.{Phase, Standing}
use Rattle.std.specs.Prelude.{Ok, Err}
use Rattle.solver_step.specs.declared.types.DensitySpot.{DensitySpot}
use Rattle.std.specs.declared.ops.ControlFlow.TheVariants.{Break, Continue}
use Rattle.solver_step.specs.declared.types.StableSpot.{StableSpot}
use Rattle.solver_step.specs.declared.types.StableSpot.TheVariants.{LiquidSearch, VaporSearch, LiquidPotential, VaporPotential}
use Rattle.solver_step.specs.DensityStep.{phase_answer, resume_density, density_left, density_at, density_begin}
use Rattle.solver_step.specs.StableStep.{of_density, phases_on, vapor_search_on, liquid_potential_on, vapor_potential_on, of_liquid, of_vapor, resume_stable, stable_left, stable_at, liquid_search_on, stable_next, stable_begin}
use Rattle.solver_step.proofs.DensityLaw.{density_law, density_begins, density_asks}

-- a phase's search where more follows
phase_begins : (c : Conditions) (f : Answer → Search) → settled (bind (density_left c (density_begin c)) f) ≡ settled (bind (density_search c) f)
phase_begins c f = ap (λ (x : Search). settled (bind x f)) (density_begins c) ∙ settle_bind finite_of (density_search c) f

module _ (maxdensity t p : Float) where
  abbrev left : Standing StableSpot → Search
  left = stable_left maxdensity t p

  phases_on_lem : (liquid vapor : Phase) → left (phases_on liquid vapor) ≡ settled (stable_phase t (phase_answer liquid) (phase_answer vapor))
  unfolding stable_left resume_stable phases_on stable_phase phase_answer potentials settle
  phases_on_lem (Ok l) (Ok v) = refl
  phases_on_lem (Ok l) (Err r) = refl
  phases_on_lem (Err q) (Ok v) = refl
  phases_on_lem (Err q) (Err r) = refl

  vapor_on_lem : (liquid : Phase) (x : Standing DensitySpot) → left (vapor_search_on liquid x) ≡ settled (bind (density_left (of_vapor maxdensity t p) x) (stable_phase t (phase_answer liquid)))
  unfolding stable_left resume_stable vapor_search_on density_left bind
  vapor_on_lem liquid (Break vapor) = phases_on_lem liquid vapor
  vapor_on_lem liquid (Continue s) = sym (density_asks (of_vapor maxdensity t p) s (stable_phase t (phase_answer liquid)))

  liquid_on_lem : (x : Standing DensitySpot) → left (liquid_search_on maxdensity t p x) ≡ settled (bind (density_left (of_liquid maxdensity t p) x) (after_liquid maxdensity t p))
  unfolding stable_left resume_stable liquid_search_on density_left bind after_liquid settle density_iteration
  liquid_on_lem (Break liquid) = go (lt p (maxdensity ⊗ t))
    where
      go : (b : Bool) → left (cond b (vapor_search_on liquid (density_begin (of_vapor maxdensity t p))) (Break liquid))
          ≡ settled (cond b (bind (density_search (of_vapor maxdensity t p)) (stable_phase t (phase_answer liquid))) (done (phase_answer liquid)))
      go true = vapor_on_lem liquid (density_begin (of_vapor maxdensity t p)) ∙ phase_begins (of_vapor maxdensity t p) (stable_phase t (phase_answer liquid))
      go false = refl
  liquid_on_lem (Continue s) = sym (density_asks (of_liquid maxdensity t p) s (after_liquid maxdensity t p))

  liquid_potential_on_lem : (l v μl : Float) → left (liquid_potential_on l v μl) ≡ settled (tested μl (vapor_potential t (of_density l) (of_density v) μl))
  unfolding stable_left resume_stable phase_answer liquid_potential_on vapor_potential settle
  liquid_potential_on_lem l v μl = go (finite_of μl) ∙ sym (settle_tested finite_of μl (vapor_potential t (of_density l) (of_density v) μl))
    where
      go : (b : Bool) → left (cond b (Continue (VaporPotential l v μl)) (Break (Err NotFinite))) ≡ cond b (settled (vapor_potential t (of_density l) (of_density v) μl)) (refuse NotFinite)
      go true = refl
      go false = refl

  vapor_potential_on_lem : (l v μl μv : Float) → left (vapor_potential_on l v μl μv) ≡ settled (tested μv (done (lower_potential (of_density l) (of_density v) μl μv)))
  unfolding stable_left phase_answer vapor_potential_on lower_potential settle
  vapor_potential_on_lem l v μl μv = go (finite_of μv) (lt μv μl) ∙ sym (settle_tested finite_of μv (done (lower_potential (of_density l) (of_density v) μl μv)))
    where
      go : (b d : Bool) → left (cond b (Break (Ok (cond d v l))) (Break (Err NotFinite))) ≡ cond b (done (cond d (phase_answer (Ok v)) (phase_answer (Ok l)))) (refuse NotFinite)
      go true true = refl
      go true false = refl
      go false d = refl

  -- ---- the law
  pub stable_law : (ev : Evaluator) (s : StableSpot) (n : ℕ) (d : Float)
      → next_of finite_of ev (resume_stable maxdensity t p s) n d ≡ moved n (stable_at maxdensity t p s) (stable_left maxdensity t p (stable_next maxdensity t p ev s))
  unfolding next_of resume_stable stable_at stable_next potentials vapor_potential
  stable_law ev (LiquidSearch s) n d =
      next_bind finite_of ev (resume_density (of_liquid maxdensity t p) s) (after_liquid maxdensity t p) n d _ (density_at (of_liquid maxdensity t p) s) (density_law (of_liquid maxdensity t p) ev s n d)
      ∙ ap (moved n (density_at (of_liquid maxdensity t p) s)) (sym (liquid_on_lem _))
  stable_law ev (VaporSearch liquid s) n d =
      next_bind finite_of ev (resume_density (of_vapor maxdensity t p) s) (stable_phase t (phase_answer liquid)) n d _ (density_at (of_vapor maxdensity t p) s) (density_law (of_vapor maxdensity t p) ev s n d)
      ∙ ap (moved n (density_at (of_vapor maxdensity t p) s)) (sym (vapor_on_lem liquid _))
  stable_law ev (LiquidPotential l v) n d = ap (moved n l) (sym (liquid_potential_on_lem l v (ev (potential t l))))
  stable_law ev (VaporPotential l v μl) n d = ap (moved n v) (sym (vapor_potential_on_lem l v μl (ev (potential t v))))

  pub stable_begins : stable_left maxdensity t p (stable_begin maxdensity t p) ≡ settled (density_iteration_stable maxdensity t p)
  unfolding stable_begin density_iteration_stable density_iteration
  stable_begins = liquid_on_lem (density_begin (of_liquid maxdensity t p)) ∙ phase_begins (of_liquid maxdensity t p) (after_liquid maxdensity t p)
