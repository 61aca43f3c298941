-- Kinds 5 and 7: a spot's evaluation is the one that the search left there makes. Assumes nothing.
use Rattle.std.specs.declared.option.Option.TheVariants.{None, Some}
use mathlib.Core.Path.{◌≡◌, refl, sym, ap, ◌∙◌}
use Prim.Native.Nat.{ℕ, zero, suc, ◌≤◌}
use native.Mathlib.Omega.{arith}
use borrow.Author.Tests.{le-ltb}
use lib.ListN.{drop, drop_of_length-le}
use lib.Ieee.{Float}
use Rattle.float.specs.Sign.{finite_of}
use Rattle.solver.specs.Answer.{Answer}
use Rattle.std.specs.Prelude.{Ok, Err}
use Rattle.solver.specs.Search.{Evaluator, Search, bind, settle, next_of, criticality}
use Rattle.solver.proofs.Steps.{moved, next_bind, settled}
use Rattle.std.specs.declared.option.Option.{Option}
use Rattle.solver.specs.Answer.{Progress}
use Rattle.solver_critical.specs.declared.types.Point.{Point}
use Rattle.std.specs.declared.ops.ControlFlow.TheVariants.{Break, Continue}
use Rattle.solver_critical.specs.CriticalPoint.{or_else, trial_temperatures, trial_temperature, start_density, hkm_from, critical_point_hkm, trials, from_temperature, critical_point}
use Rattle.solver.proofs.Turns.{led}
use Rattle.solver_critical.proofs.Settles.{round_led}
use Rattle.solver.specs.Rounds.{onward}
use Rattle.solver_critical_step.specs.declared.types.CriticalSpot.{CriticalSpot}
use Rattle.solver_critical_step.specs.declared.types.CriticalSpot.TheVariants.{Given, Trial}
use Rattle.solver_critical_step.specs.CriticalStep.{HkmSpot, hkm_on, hkm_start, resume_hkm, hkm_left, hkm_next, critical_at, given_on, trial_at, trial_on, critical_begin, resume_critical, critical_left, critical_next}

module _ (maxdensity : Float) where
  -- ---- critical_point_hkm
  hkm_on_lem : (n : ℕ) (o : Progress Point) → hkm_left maxdensity (hkm_on n o) ≡ settled (led o (hkm_from maxdensity n))
  unfolding hkm_left resume_hkm onward settle led hkm_from
  hkm_on_lem n (Break a) = refl
  hkm_on_lem zero (Continue p) = refl
  hkm_on_lem (suc n) (Continue p) = refl

  hkm_law : (ev : Evaluator) (s : HkmSpot) (n : ℕ) (d : Float) → next_of finite_of ev (resume_hkm maxdensity s) n d ≡ moved n s.at.rho (hkm_left maxdensity (hkm_next maxdensity ev s))
  unfolding next_of resume_hkm hkm_from hkm_next
  hkm_law ev s n d =
      ap (moved n s.at.rho) (round_led maxdensity (hkm_from maxdensity s.rounds) s.at (ev (criticality s.at.t s.at.rho)) ∙ sym (hkm_on_lem s.rounds _))

  -- what stands at a spot asks, also where more follows
  hkm_asks : (s : HkmSpot) (f : Answer → Search) → settled (bind (resume_hkm maxdensity s) f) ≡ bind (resume_hkm maxdensity s) f
  unfolding settle bind resume_hkm hkm_from
  hkm_asks s f = refl

  -- ---- kinds 5 and 7
  module _ (ρ : Float) where
    -- the trials from i on
    abbrev from : ℕ → Search
    from i = trials maxdensity ρ (drop i trial_temperatures)

    trial_at_lem : (i : ℕ) → critical_left maxdensity ρ (trial_at ρ i) ≡ settled (from i)
    unfolding critical_left resume_critical resume_hkm trial_at hkm_start trial_temperatures trial_temperature trials critical_point_hkm hkm_from bind settle
    trial_at_lem zero = refl
    trial_at_lem (suc zero) = refl
    trial_at_lem (suc (suc zero)) = refl
    trial_at_lem (suc (suc (suc i))) = let h : 3 ≤ suc (suc (suc i)) = omega arith in rw (le-ltb (suc (suc (suc i))) 3 h, drop_of_length-le trial_temperatures h)

    trial_on_lem : (i : ℕ) (x : Progress HkmSpot) → critical_left maxdensity ρ (trial_on ρ i x) ≡ settled (bind (hkm_left maxdensity x) (or_else (from (suc i))))
    unfolding critical_left resume_critical trial_on hkm_left or_else bind settle
    trial_on_lem i (Break (Ok v)) = refl
    trial_on_lem i (Break (Err r)) = trial_at_lem (suc i)
    trial_on_lem i (Continue s) = sym (hkm_asks s _)

    given_on_lem : (x : Progress HkmSpot) → critical_left maxdensity ρ (given_on x) ≡ hkm_left maxdensity x
    unfolding critical_left resume_critical given_on hkm_left
    given_on_lem (Break a) = refl
    given_on_lem (Continue s) = refl

    pub critical_law : (ev : Evaluator) (s : CriticalSpot) (n : ℕ) (d : Float)
        → next_of finite_of ev (resume_critical maxdensity ρ s) n d ≡ moved n (critical_at s) (critical_left maxdensity ρ (critical_next maxdensity ρ ev s))
    unfolding resume_critical critical_at critical_next
    critical_law ev (Given s) n d = hkm_law ev s n d ∙ ap (moved n s.at.rho) (sym (given_on_lem _))
    critical_law ev (Trial i s) n d =
        next_bind finite_of ev (resume_hkm maxdensity s) (or_else (from (suc i))) n d _ s.at.rho (hkm_law ev s n d)
        ∙ ap (moved n s.at.rho) (sym (trial_on_lem i _))

    from_temperature_lem : (temperature : Option Float) → critical_left maxdensity ρ (critical_begin ρ temperature) ≡ settled (from_temperature maxdensity temperature ρ)
    unfolding critical_begin from_temperature critical_left resume_critical resume_hkm hkm_start critical_point_hkm hkm_from settle
    from_temperature_lem None = trial_at_lem 0
    from_temperature_lem (Some t) = refl

    pub critical_asks : (s : CriticalSpot) (f : Answer → Search) → settled (bind (resume_critical maxdensity ρ s) f) ≡ bind (resume_critical maxdensity ρ s) f
    unfolding settle bind resume_critical resume_hkm hkm_from
    critical_asks (Given s) f = refl
    critical_asks (Trial i s) f = refl

  pub critical_begins : (temperature density : Option Float)
      → critical_left maxdensity (start_density maxdensity density) (critical_begin (start_density maxdensity density) temperature) ≡ settled (critical_point maxdensity temperature density)
  unfolding critical_point
  critical_begins temperature density = from_temperature_lem (start_density maxdensity density) temperature
