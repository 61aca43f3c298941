-- An answer as document 01's record states it: a status and three floats. Definitions only.
use Rattle.std.specs.Prelude.{ℕ, Bool, eqb, Ok, Err}
use Rattle.float.specs.Ops.{f0}
use Rattle.solver.specs.declared.types.Values.{Values}
use Rattle.solver.specs.declared.types.Refusal.{Refusal}
use Rattle.solver.specs.declared.types.Refusal.TheVariants.{StartNotPositive, NotConverged, IterationFailed, BothPhasesFailed, WrongBranch, Supercritical, NotFinite}
use Rattle.std.specs.declared.result.Result.{Result}
use Rattle.std.specs.declared.ops.ControlFlow.{ControlFlow}

-- what a search found, or why it failed
abbrev pub Answer : Type 0
Answer = Result Values Refusal

-- what a round comes to, or where a search stands: the answer, or what the search goes on from
abbrev pub Progress : Type 0 → Type 0
Progress s = ControlFlow Answer s

-- "The equation, sealed: 21 starting density 0 or below; 22 not converged; 23 iteration failed; 24 both phases failed;
-- 25 wrong branch; 26 supercritical; 27 not finite"
unfoldable pub number_of : Refusal → ℕ
number_of StartNotPositive = 21
number_of NotConverged = 22
number_of IterationFailed = 23
number_of BothPhasesFailed = 24
number_of WrongBranch = 25
number_of Supercritical = 26
number_of NotFinite = 27

-- "status u64 (0 or a refusal)"
unfoldable pub status_of : Answer → ℕ
status_of (Ok v) = 0
status_of (Err r) = number_of r

-- "Unused floats, and all on refusal, are +0"
unfoldable pub values_of : Answer → Values
values_of (Ok v) = v
values_of (Err r) = record { first = f0; second = f0; third = f0 }

-- the answer is 27
unfoldable pub is27 : Answer → Bool
is27 a = eqb (status_of a) 27
