-- When a job ends with 27. Definitions only.
use Rattle.std.specs.Prelude.{Bool, false, not, Ok, Err}
use Rattle.eos.specs.declared.types.Blend.{Blend}
use Rattle.eos.specs.Cubic.{nth, max_density}
use Rattle.solver.specs.Search.{Evaluator, clean}
use Rattle.solver_density.specs.Density.{density_iteration}
use Rattle.solver_density.specs.Spinodal.{pressure_spinodal, pressure_spinodal_branch}
use Rattle.solver_density.specs.NotFinite.{stable_not_finite}
use Rattle.solver_critical.specs.NotFinite.{critical_not_finite, spinodals_not_finite}
use Rattle.solver_binary.specs.CriticalPointBinary.{critical_point_binary_t, critical_point_binary_p}
use Rattle.reader.specs.declared.types.Task.{Task}
use Rattle.reader.specs.declared.types.Refusal.{Refusal}
use Rattle.std.specs.declared.result.Result.{Result}

-- "If a pressure, slope, curvature, potential, residual or derivative it yields, or a temperature or density after a step and its floor, isn't finite, and
-- only then, that search ends with 27", for each kind; a data refusal is none
unfoldable pub not_finite : Evaluator → Blend → Result Task Refusal → Bool
not_finite ev blend (Err refusal) = false
not_finite ev blend (Ok (Task.DensityIteration t p initial)) = not (clean ev (density_iteration (max_density blend) t p initial))
not_finite ev blend (Ok (Task.DensityIterationStable t p)) = stable_not_finite ev (max_density blend) t p
not_finite ev blend (Ok (Task.PressureSpinodal t start)) = not (clean ev (pressure_spinodal (max_density blend) t start))
not_finite ev blend (Ok (Task.PressureSpinodalBranch t branch)) = not (clean ev (pressure_spinodal_branch (max_density blend) t branch))
not_finite ev blend (Ok (Task.CriticalPoint t density)) = critical_not_finite ev (max_density blend) t density
not_finite ev blend (Ok (Task.Spinodal t)) = spinodals_not_finite ev (max_density blend) t
not_finite ev blend (Ok (Task.CriticalPointBinaryT t density)) = not (clean ev (critical_point_binary_t (max_density blend) (nth blend.x 0) (nth blend.x 1) t density))
not_finite ev blend (Ok (Task.CriticalPointBinaryP p t density)) = not (clean ev (critical_point_binary_p (max_density blend) (nth blend.x 0) (nth blend.x 1) p t density))
