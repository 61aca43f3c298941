-- The places of kinds 5 to 7 as numbers and back. Every number is read as some place. Definitions only.
use Rattle.std.specs.Prelude.{ℕ, cond, eqb, Float}
use Rattle.float.specs.Ops.{f0}
use Rattle.solver.specs.declared.types.Numbers.{Numbers}
use Rattle.solver.specs.Stored.{answer_by, ended_numbers}
use Rattle.solver_critical_step.specs.CriticalStep.{HkmSpot}
use Rattle.solver_critical_step.specs.declared.types.CriticalSpot.{CriticalSpot}
use Rattle.solver_critical_step.specs.declared.types.CriticalSpot.TheVariants.{Given, Trial}
use Rattle.solver.specs.Answer.{Progress}
use Rattle.std.specs.declared.ops.ControlFlow.TheVariants.{Break, Continue}
use Rattle.solver_critical_step.specs.SpinodalsStep.{StabilitySpot}
use Rattle.solver_critical_step.specs.declared.types.SpinodalsSpot.{SpinodalsSpot}
use Rattle.solver_critical_step.specs.declared.types.SpinodalsSpot.TheVariants.{CriticalSearch, VaporSpinodal, LiquidSpinodal}

-- a place that asks
unfoldable pub spot_numbers : (stage tag way rounds : ℕ) (x y : Float) → Numbers
spot_numbers stage tag way rounds x y =
    record {
      counters = record { stage = stage; tag = tag; status = 0; left = 0; way = way; rounds = rounds };
      values = record { first = x; second = y; third = f0 };
    }

-- ---- kinds 5 and 7: tag 0 is the end, 1 a round from a given temperature, any other a trial's, and `way` says which trial
unfoldable pub critical_spot_numbers : (stage : ℕ) → CriticalSpot → Numbers
critical_spot_numbers stage (Given s) = spot_numbers stage 1 0 s.rounds s.at.t s.at.rho
critical_spot_numbers stage (Trial i s) = spot_numbers stage 2 i s.rounds s.at.t s.at.rho

unfoldable pub critical_numbers : Progress CriticalSpot → Numbers
critical_numbers (Break a) = ended_numbers a
critical_numbers (Continue s) = critical_spot_numbers 0 s

unfoldable pub hkm_spot_by : Numbers → HkmSpot
hkm_spot_by n = record { rounds = n.counters.rounds; at = record { t = n.values.first; rho = n.values.second } }

unfoldable pub critical_spot_by : Numbers → CriticalSpot
critical_spot_by n = cond (eqb n.counters.tag 1) (Given (hkm_spot_by n)) (Trial n.counters.way (hkm_spot_by n))

unfoldable pub critical_place_by : Numbers → Progress CriticalSpot
critical_place_by n = cond (eqb n.counters.tag 0) (Break (answer_by n.counters.status n.values)) (Continue (critical_spot_by n))

-- ---- kind 6: stage 0 is the end, 1 the critical point's search, 2 the vapour's spinodal, any other the liquid's
unfoldable pub spinodals_numbers : Progress SpinodalsSpot → Numbers
spinodals_numbers (Break a) = ended_numbers a
spinodals_numbers (Continue (CriticalSearch s)) = critical_spot_numbers 1 s
spinodals_numbers (Continue (VaporSpinodal critical s)) = spot_numbers 2 0 0 s.rounds s.at critical
spinodals_numbers (Continue (LiquidSpinodal vapor s)) = spot_numbers 3 0 0 s.rounds s.at vapor

unfoldable pub stability_spot_by : Numbers → StabilitySpot
stability_spot_by n = record { rounds = n.counters.rounds; at = n.values.first }

unfoldable pub spinodals_spot_by : Numbers → SpinodalsSpot
spinodals_spot_by n =
    cond (eqb n.counters.stage 1) (CriticalSearch (critical_spot_by n))
    (cond (eqb n.counters.stage 2) (VaporSpinodal n.values.second (stability_spot_by n)) (LiquidSpinodal n.values.second (stability_spot_by n)))

unfoldable pub spinodals_place_by : Numbers → Progress SpinodalsSpot
spinodals_place_by n = cond (eqb n.counters.stage 0) (Break (answer_by n.counters.status n.values)) (Continue (spinodals_spot_by n))
