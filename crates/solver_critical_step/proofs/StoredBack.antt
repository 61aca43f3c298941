-- A place that is stored is read back. Assumes nothing.
use mathlib.Core.Path.{◌≡◌, refl, ap}
use Rattle.solver.specs.Stored.{ended_numbers}
use Rattle.solver.proofs.StoredBack.{answer_back}
use Rattle.solver_critical_step.specs.declared.types.CriticalSpot.TheVariants.{Given, Trial}
use Rattle.solver.specs.Answer.{Progress}
use Rattle.solver_critical_step.specs.declared.types.CriticalSpot.{CriticalSpot}
use Rattle.std.specs.declared.ops.ControlFlow.TheVariants.{Break, Continue}
use Rattle.solver_critical_step.specs.declared.types.SpinodalsSpot.TheVariants.{CriticalSearch, VaporSpinodal, LiquidSpinodal}
use Rattle.solver_critical_step.specs.declared.types.SpinodalsSpot.{SpinodalsSpot}
use Rattle.solver_critical_step.specs.Stored.{spot_numbers, critical_spot_numbers, critical_numbers, hkm_spot_by, critical_spot_by, critical_place_by, spinodals_numbers, stability_spot_by, spinodals_spot_by, spinodals_place_by}

pub critical_back : (x : Progress CriticalSpot) → critical_place_by (critical_numbers x) ≡ x
unfolding critical_place_by critical_spot_by critical_numbers critical_spot_numbers hkm_spot_by spot_numbers ended_numbers
critical_back (Break a) = ap Break (answer_back a)
critical_back (Continue (Given s)) = refl
critical_back (Continue (Trial i s)) = refl

pub spinodals_back : (x : Progress SpinodalsSpot) → spinodals_place_by (spinodals_numbers x) ≡ x
unfolding spinodals_place_by spinodals_spot_by spinodals_numbers stability_spot_by spot_numbers ended_numbers critical_spot_numbers critical_spot_by hkm_spot_by
spinodals_back (Break a) = ap Break (answer_back a)
spinodals_back (Continue (CriticalSearch (Given s))) = refl
spinodals_back (Continue (CriticalSearch (Trial i s))) = refl
spinodals_back (Continue (VaporSpinodal critical s)) = refl
spinodals_back (Continue (LiquidSpinodal vapor s)) = refl
