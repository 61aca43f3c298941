-- Kind 6: a spot's evaluation is the one that the search left there makes. Assumes nothing.
use mathlib.Core.Path.{◌≡◌, refl, sym, ap, ◌∙◌}
use Prim.Native.Nat.{ℕ, zero, suc}
use lib.Ieee.{Float}
use Rattle.float.specs.Sign.{finite_of}
use Rattle.std.specs.Prelude.{Ok, Err}
use Rattle.solver.specs.Search.{Evaluator, Search, bind, on_found, and_then, settle, next_of, stability}
use Rattle.solver.proofs.Steps.{settle_bind, moved, next_bind, settled}
use Rattle.std.specs.declared.option.Option.TheVariants.{None}
use Rattle.solver.specs.Answer.{Progress}
use Rattle.std.specs.declared.ops.ControlFlow.TheVariants.{Break, Continue}
use Rattle.solver_critical.specs.CriticalPoint.{start_density, critical_point}
use Rattle.solver_critical.specs.Spinodal.{spinodal_start, spinodal_from, calculate_spinodal, after_liquid, after_vapor, after_critical, spinodal}
use Rattle.solver.proofs.Turns.{led}
use Rattle.solver_critical.proofs.Settles.{stability_led_lem}
use Rattle.solver_critical_step.specs.declared.types.CriticalSpot.{CriticalSpot}
use Rattle.solver.specs.Rounds.{onward}
use Rattle.solver_critical_step.specs.declared.types.SpinodalsSpot.{SpinodalsSpot}
use Rattle.solver_critical_step.specs.declared.types.SpinodalsSpot.TheVariants.{CriticalSearch, VaporSpinodal, LiquidSpinodal}
use Rattle.solver_critical_step.specs.CriticalStep.{critical_at, critical_begin, resume_critical, critical_left}
use Rattle.solver_critical_step.specs.SpinodalsStep.{StabilitySpot, stability_on, stability_start, resume_stability, stability_left, stability_next, spinodals_at, liquid_on, vapor_on, critical_on, spinodals_begin, resume_spinodals, spinodals_left, spinodals_next}
use Rattle.solver_critical_step.proofs.CriticalLaw.{critical_law, critical_asks, critical_begins}

module _ (maxdensity t : Float) where
  -- ---- calculate_spinodal
  stability_on_lem : (n : ℕ) (o : Progress Float) → stability_left maxdensity t (stability_on n o) ≡ settled (led o (spinodal_from maxdensity t n))
  unfolding stability_left resume_stability onward settle led spinodal_from
  stability_on_lem n (Break a) = refl
  stability_on_lem zero (Continue ρ) = refl
  stability_on_lem (suc n) (Continue ρ) = refl

  stability_law : (ev : Evaluator) (s : StabilitySpot) (n : ℕ) (d : Float)
      → next_of finite_of ev (resume_stability maxdensity t s) n d ≡ moved n s.at (stability_left maxdensity t (stability_next maxdensity t ev s))
  unfolding next_of resume_stability spinodal_from stability_next
  stability_law ev s n d =
      ap (moved n s.at) (stability_led_lem maxdensity s.at (ev (stability t s.at)) (spinodal_from maxdensity t s.rounds) ∙ sym (stability_on_lem s.rounds _))

  -- ---- kind 6
  liquid_on_lem : (vapor : Float) (x : Progress StabilitySpot) → spinodals_left maxdensity t (liquid_on vapor x) ≡ settled (and_then (stability_left maxdensity t x) (after_liquid maxdensity t vapor))
  unfolding spinodals_left resume_spinodals liquid_on stability_left resume_stability spinodal_from after_liquid bind on_found settle
  liquid_on_lem vapor (Break (Ok l)) = refl
  liquid_on_lem vapor (Break (Err r)) = refl
  liquid_on_lem vapor (Continue s) = refl

  vapor_on_lem : (critical : Float) (x : Progress StabilitySpot) → spinodals_left maxdensity t (vapor_on critical x) ≡ settled (and_then (stability_left maxdensity t x) (after_vapor maxdensity t critical))
  unfolding spinodals_left resume_spinodals vapor_on stability_left resume_stability stability_start calculate_spinodal spinodal_start spinodal_from after_vapor bind on_found settle
  vapor_on_lem critical (Break (Ok v)) = refl
  vapor_on_lem critical (Break (Err r)) = refl
  vapor_on_lem critical (Continue s) = refl

  abbrev ρ : Float
  ρ = start_density maxdensity None

  critical_on_lem : (x : Progress CriticalSpot) → spinodals_left maxdensity t (critical_on maxdensity x) ≡ settled (and_then (critical_left maxdensity ρ x) (after_critical maxdensity t))
  unfolding spinodals_left resume_spinodals critical_on critical_left resume_stability stability_start calculate_spinodal spinodal_from after_critical bind on_found settle
  critical_on_lem (Break (Ok c)) = refl
  critical_on_lem (Break (Err r)) = refl
  critical_on_lem (Continue s) = sym (critical_asks maxdensity ρ s _)

  pub spinodals_law : (ev : Evaluator) (s : SpinodalsSpot) (n : ℕ) (d : Float)
      → next_of finite_of ev (resume_spinodals maxdensity t s) n d ≡ moved n (spinodals_at s) (spinodals_left maxdensity t (spinodals_next maxdensity t ev s))
  unfolding resume_spinodals spinodals_at spinodals_next
  spinodals_law ev (CriticalSearch s) n d =
      next_bind finite_of ev (resume_critical maxdensity ρ s) _ n d _ (critical_at s) (critical_law maxdensity ρ ev s n d)
      ∙ ap (moved n (critical_at s)) (sym (critical_on_lem _))
  spinodals_law ev (VaporSpinodal critical s) n d =
      next_bind finite_of ev (resume_stability maxdensity t s) _ n d _ s.at (stability_law ev s n d)
      ∙ ap (moved n s.at) (sym (vapor_on_lem critical _))
  spinodals_law ev (LiquidSpinodal vapor s) n d =
      next_bind finite_of ev (resume_stability maxdensity t s) _ n d _ s.at (stability_law ev s n d)
      ∙ ap (moved n s.at) (sym (liquid_on_lem vapor _))

  pub spinodals_begins : spinodals_left maxdensity t (spinodals_begin maxdensity) ≡ settled (spinodal maxdensity t)
  unfolding spinodals_begin spinodal
  spinodals_begins =
      critical_on_lem (critical_begin ρ None)
      ∙ ap (λ (s : Search). settled (and_then s (after_critical maxdensity t))) (critical_begins maxdensity None None)
      ∙ settle_bind finite_of (critical_point maxdensity None None) _
