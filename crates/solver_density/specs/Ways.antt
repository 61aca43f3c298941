-- The detours as the numbers that a stored place of a search has for them, and back. Every number is read as some detour. Definitions only.
use Rattle.std.specs.Prelude.{ℕ, cond, eqb}
use Rattle.solver_density.specs.declared.types.Nearest.{Nearest}
use Rattle.solver_density.specs.declared.types.Nearest.TheVariants.{HighDensity, AboveConvex, BelowConcave}
use Rattle.solver_density.specs.declared.types.Both.{Both}
use Rattle.solver_density.specs.declared.types.Both.TheVariants.{BelowConvex, AboveConcave}

unfoldable pub nearest_number : Nearest → ℕ
nearest_number HighDensity = 0
nearest_number AboveConvex = 1
nearest_number BelowConcave = 2

unfoldable pub nearest_by : ℕ → Nearest
nearest_by n = cond (eqb n 0) HighDensity (cond (eqb n 1) AboveConvex BelowConcave)

unfoldable pub both_number : Both → ℕ
both_number BelowConvex = 0
both_number AboveConcave = 1

unfoldable pub both_by : ℕ → Both
both_by n = cond (eqb n 0) BelowConvex AboveConcave
