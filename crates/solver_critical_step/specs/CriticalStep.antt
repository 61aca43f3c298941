-- Kinds 5 and 7 one evaluation at a time: what is left at a spot, and where its evaluation leads. Definitions only.
use Rattle.std.specs.declared.option.Option.TheVariants.{None, Some}
use Rattle.std.specs.Prelude.{ℕ, suc, cond, ltb, drop, length, Float}
use Rattle.solver.specs.declared.types.Refusal.TheVariants.{NotConverged}
use Rattle.std.specs.Prelude.{Ok, Err}
use Rattle.solver.specs.Search.{Evaluator, Search, done, bind, criticality}
use Rattle.std.specs.declared.option.Option.{Option}
use Rattle.solver.specs.Answer.{Progress}
use Rattle.solver_critical.specs.declared.types.Point.{Point}
use Rattle.std.specs.declared.ops.ControlFlow.TheVariants.{Break, Continue}
use Rattle.solver_critical.specs.CriticalPoint.{or_else, trial_temperatures, trial_temperature, hkm_from, trials}
use Rattle.solver_critical.specs.Rounds.{critical_round}
use Rattle.solver.specs.declared.types.Spot.{Spot}
use Rattle.solver.specs.Rounds.{onward}
use Rattle.solver_critical_step.specs.declared.types.CriticalSpot.{CriticalSpot}
use Rattle.solver_critical_step.specs.declared.types.CriticalSpot.TheVariants.{Given, Trial}

-- ---- critical_point_hkm

-- the rounds left after this one, and the point
abbrev pub HkmSpot : Type 0
HkmSpot = Spot Point

-- with n rounds left, where a round leads
abbrev pub hkm_on : ℕ → Progress Point → Progress HkmSpot
hkm_on n o = onward n NotConverged o

-- where a search begins
unfoldable pub hkm_start : (t ρ : Float) → HkmSpot
hkm_start t ρ = record { rounds = 49; at = record { t = t; rho = ρ } }

module _ (maxdensity : Float) where
  -- the search that is left
  unfoldable pub resume_hkm : HkmSpot → Search
  resume_hkm s = hkm_from maxdensity (suc s.rounds) s.at

  unfoldable pub hkm_left : Progress HkmSpot → Search
  hkm_left (Break a) = done a
  hkm_left (Continue s) = resume_hkm s

  -- the one evaluation, and where it leads
  unfoldable pub hkm_next : Evaluator → HkmSpot → Progress HkmSpot
  hkm_next ev s = hkm_on s.rounds (critical_round maxdensity s.at (ev (criticality s.at.t s.at.rho)))

-- ---- kinds 5 and 7

-- the density of the spot's evaluation
unfoldable pub critical_at : CriticalSpot → Float
critical_at (Given s) = s.at.rho
critical_at (Trial i s) = s.at.rho

unfoldable pub given_on : Progress HkmSpot → Progress CriticalSpot
given_on (Break a) = Break a
given_on (Continue s) = Continue (Given s)

-- ρ is the density that each trial starts from
module _ (ρ : Float) where
  -- the trial i begins, or there is none
  unfoldable pub trial_at : ℕ → Progress CriticalSpot
  trial_at i = cond (ltb i (length trial_temperatures)) (Continue (Trial i (hkm_start (trial_temperature i) ρ))) (Break (Err NotConverged))

  -- where the trial i stands, or what it leads to
  unfoldable pub trial_on : ℕ → Progress HkmSpot → Progress CriticalSpot
  trial_on i (Break (Ok v)) = Break (Ok v)
  trial_on i (Break (Err r)) = trial_at (suc i)
  trial_on i (Continue s) = Continue (Trial i s)

  -- where a search begins
  unfoldable pub critical_begin : (temperature : Option Float) → Progress CriticalSpot
  critical_begin None = trial_at 0
  critical_begin (Some t) = Continue (Given (hkm_start t ρ))

module _ (maxdensity ρ : Float) where
  -- the search that is left
  unfoldable pub resume_critical : CriticalSpot → Search
  resume_critical (Given s) = resume_hkm maxdensity s
  resume_critical (Trial i s) = bind (resume_hkm maxdensity s) (or_else (trials maxdensity ρ (drop (suc i) trial_temperatures)))

  unfoldable pub critical_left : Progress CriticalSpot → Search
  critical_left (Break a) = done a
  critical_left (Continue s) = resume_critical s

  -- the one evaluation, and where it leads
  unfoldable pub critical_next : Evaluator → CriticalSpot → Progress CriticalSpot
  critical_next ev (Given s) = given_on (hkm_next maxdensity ev s)
  critical_next ev (Trial i s) = trial_on ρ i (hkm_next maxdensity ev s)
