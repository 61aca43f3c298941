-- "equal potentials give liquid": of the definition for any two potentials, and of kind 2's last part with any equation of state. Assumes nothing.
use mathlib.Core.Path.{◌≡◌}
use Prim.Native.Nat.{ℕ, ◌+◌}
use mathlib.Core.Bool.{true}
use lib.Ieee.{Float, eq}
use Rattle.float.specs.Sign.{finite_of}
use Rattle.float.proofs.SignLaws.{equal_not_below, not_below_itself}
use Rattle.solver.specs.declared.types.Values.{Values}
use Rattle.std.specs.Prelude.{Ok}
use Rattle.solver.specs.Search.{Evaluator, run, potential}
use Rattle.solver.proofs.Runs.{run_tested}
use Rattle.solver_density.specs.Stable.{lower_potential, vapor_potential, potentials}

pub same_give_liquid : (liquid vapor : Values) (μ : Float) → lower_potential liquid vapor μ μ ≡ Ok liquid
unfolding lower_potential
same_give_liquid liquid vapor μ = rw (not_below_itself μ)

-- potentials that compare equal, also +0 and −0
pub equal_give_liquid : (liquid vapor : Values) (μl μv : Float) → eq μl μv ≡ true → lower_potential liquid vapor μl μv ≡ Ok liquid
unfolding lower_potential
equal_give_liquid liquid vapor μl μv e = rw (equal_not_below μl μv e)

-- both phases found, with potentials that are finite and compare equal
pub equal_potentials : (ev : Evaluator) (n : ℕ) (t : Float) (liquid vapor : Values) → finite_of (ev (potential t liquid.first)) ≡ true
    → finite_of (ev (potential t vapor.first)) ≡ true → eq (ev (potential t liquid.first)) (ev (potential t vapor.first)) ≡ true
    → run finite_of ev n (potentials t liquid vapor) ≡ record { answer = Ok liquid; evaluations = n + 1 + 1 }
unfolding run potentials vapor_potential
equal_potentials ev n t liquid vapor fl fv e = rw (run_tested finite_of ev (n + 1) _ _, fl, run_tested finite_of ev (n + 1 + 1) _ _, fv, equal_give_liquid liquid vapor (ev (potential t liquid.first)) (ev (potential t vapor.first)) e)
