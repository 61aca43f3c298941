-- How a density search ends, and where one stands. Definitions only.
use Rattle.std.specs.Prelude.{Float}
use Rattle.std.specs.declared.result.Result.{Result}
use Rattle.std.specs.declared.ops.ControlFlow.{ControlFlow}
use Rattle.solver.specs.declared.types.Refusal.{Refusal}

-- the density found, or why the search failed
abbrev pub Phase : Type 0
Phase = Result Float Refusal

-- how it ended, or what it goes on from
abbrev pub Standing : Type 0 → Type 0
Standing s = ControlFlow Phase s
