-- Kind 6 one evaluation at a time: what is left at a spot, and where its evaluation leads. Definitions only.
use Rattle.std.specs.Prelude.{ℕ, suc, Float}
use Rattle.solver.specs.declared.types.DensityInitialization.TheVariants.{Vapor}
use Rattle.solver.specs.declared.types.Refusal.TheVariants.{Supercritical}
use Rattle.std.specs.Prelude.{Ok, Err}
use Rattle.solver.specs.Search.{Evaluator, Search, done, and_then, stability}
use Rattle.std.specs.declared.option.Option.TheVariants.{None}
use Rattle.solver.specs.Answer.{Progress}
use Rattle.std.specs.declared.ops.ControlFlow.TheVariants.{Break, Continue}
use Rattle.solver_critical.specs.CriticalPoint.{start_density}
use Rattle.solver_critical.specs.Spinodal.{both_answer, spinodal_start, liquid_start, spinodal_from, after_liquid, after_vapor, after_critical}
use Rattle.solver_critical.specs.Rounds.{stability_round}
use Rattle.solver_critical_step.specs.declared.types.CriticalSpot.{CriticalSpot}
use Rattle.solver.specs.declared.types.Spot.{Spot}
use Rattle.solver.specs.Rounds.{onward}
use Rattle.solver_critical_step.specs.declared.types.SpinodalsSpot.{SpinodalsSpot}
use Rattle.solver_critical_step.specs.declared.types.SpinodalsSpot.TheVariants.{CriticalSearch, VaporSpinodal, LiquidSpinodal}
use Rattle.solver_critical_step.specs.CriticalStep.{critical_at, critical_begin, resume_critical, critical_next}

-- ---- calculate_spinodal

-- the rounds left after this one, and the density
abbrev pub StabilitySpot : Type 0
StabilitySpot = Spot Float

-- with n rounds left, where a round leads
abbrev pub stability_on : ℕ → Progress Float → Progress StabilitySpot
stability_on n o = onward n Supercritical o

-- where a search begins
unfoldable pub stability_start : (ρ : Float) → StabilitySpot
stability_start ρ = record { rounds = 49; at = ρ }

module _ (maxdensity t : Float) where
  -- the search that is left
  unfoldable pub resume_stability : StabilitySpot → Search
  resume_stability s = spinodal_from maxdensity t (suc s.rounds) s.at

  unfoldable pub stability_left : Progress StabilitySpot → Search
  stability_left (Break a) = done a
  stability_left (Continue s) = resume_stability s

  -- the one evaluation, and where it leads
  unfoldable pub stability_next : Evaluator → StabilitySpot → Progress StabilitySpot
  stability_next ev s = stability_on s.rounds (stability_round maxdensity s.at (ev (stability t s.at)))

-- ---- kind 6

-- the density of the spot's evaluation
unfoldable pub spinodals_at : SpinodalsSpot → Float
spinodals_at (CriticalSearch s) = critical_at s
spinodals_at (VaporSpinodal critical s) = s.at
spinodals_at (LiquidSpinodal vapor s) = s.at

-- where a part stands, or what it leads to
unfoldable pub liquid_on : (vapor : Float) → Progress StabilitySpot → Progress SpinodalsSpot
liquid_on vapor (Break (Ok l)) = Break (both_answer vapor l.first)
liquid_on vapor (Break (Err r)) = Break (Err r)
liquid_on vapor (Continue s) = Continue (LiquidSpinodal vapor s)

unfoldable pub vapor_on : (critical : Float) → Progress StabilitySpot → Progress SpinodalsSpot
vapor_on critical (Break (Ok v)) = Continue (LiquidSpinodal v.first (stability_start (liquid_start critical v.first)))
vapor_on critical (Break (Err r)) = Break (Err r)
vapor_on critical (Continue s) = Continue (VaporSpinodal critical s)

unfoldable pub critical_on : (maxdensity : Float) → Progress CriticalSpot → Progress SpinodalsSpot
critical_on maxdensity (Break (Ok c)) = Continue (VaporSpinodal c.second (stability_start (spinodal_start maxdensity Vapor)))
critical_on maxdensity (Break (Err r)) = Break (Err r)
critical_on maxdensity (Continue s) = Continue (CriticalSearch s)

-- where a search begins
unfoldable pub spinodals_begin : (maxdensity : Float) → Progress SpinodalsSpot
spinodals_begin maxdensity = critical_on maxdensity (critical_begin (start_density maxdensity None) None)

module _ (maxdensity t : Float) where
  -- the search that is left
  unfoldable pub resume_spinodals : SpinodalsSpot → Search
  resume_spinodals (CriticalSearch s) = and_then (resume_critical maxdensity (start_density maxdensity None) s) (after_critical maxdensity t)
  resume_spinodals (VaporSpinodal critical s) = and_then (resume_stability maxdensity t s) (after_vapor maxdensity t critical)
  resume_spinodals (LiquidSpinodal vapor s) = and_then (resume_stability maxdensity t s) (after_liquid maxdensity t vapor)

  unfoldable pub spinodals_left : Progress SpinodalsSpot → Search
  spinodals_left (Break a) = done a
  spinodals_left (Continue s) = resume_spinodals s

  -- the one evaluation, and where it leads
  unfoldable pub spinodals_next : Evaluator → SpinodalsSpot → Progress SpinodalsSpot
  spinodals_next ev (CriticalSearch s) = critical_on maxdensity (critical_next maxdensity (start_density maxdensity None) ev s)
  spinodals_next ev (VaporSpinodal critical s) = vapor_on critical (stability_next maxdensity t ev s)
  spinodals_next ev (LiquidSpinodal vapor s) = liquid_on vapor (stability_next maxdensity t ev s)
