-- The rounds of kinds 8 and 9: their span, their 27, their runs and their steps, from what holds of one round. Assumes nothing.
use mathlib.Core.Path.{◌≡◌, refl, sym, ap, ◌∙◌}
use Prim.Native.Nat.{ℕ, zero, suc, ◌+◌, ◌-◌, ◌≤◌, ◌<◌}
use native.Mathlib.Omega.{arith}
use lib.Ieee.{Float}
use Rattle.float.specs.Sign.{finite_of}
use Rattle.eos.specs.declared.types.Blend.{Blend}
use Rattle.solver.specs.declared.types.Refusal.TheVariants.{NotConverged}
use Rattle.std.specs.Prelude.{Ok, Err}
use Rattle.solver.specs.declared.types.Ran.{Ran}
use Rattle.solver.specs.Answer.{Progress, number_of, status_of, is27}
use Rattle.solver.specs.Search.{Query, Yield, density_of, Evaluator, Search, refuse, run, Within, Ruled, next_of}
use Rattle.solver.specs.Evaluated.{evaluated}
use Rattle.solver.proofs.Spans.{asked}
use Rattle.solver.proofs.Rule.{ruled_done, ruled_asks}
use Rattle.solver.proofs.Runs.{ran, same_run}
use Rattle.solver.proofs.Steps.{settled, moved}
use Rattle.solver.proofs.Turns.{led}
use Rattle.solver_binary.specs.CriticalPointBinary.{rounds}

module _ {P : Type 0} (query : P → Query) (after : (p : P) → Yield (query p) → (P → Search) → Search) where
  pub within_rounds : ((n : ℕ) (p : P) (y : Yield (query p)) (again : P → Search) → ((p : P) → Within n (again p)) → Within n (after p y again)) → (n : ℕ) (p : P) → Within n (rounds query after n p)
  unfolding rounds
  within_rounds h zero p = Within.ended
  within_rounds h (suc n) p = asked n (suc n) (omega arith) (λ y. h n p y (rounds query after n) (within_rounds h n))

  pub ruled_rounds : ((p : P) (y : Yield (query p)) (again : P → Search) → ((p : P) → Ruled (again p)) → Ruled (after p y again)) → (n : ℕ) (p : P) → Ruled (rounds query after n p)
  unfolding rounds is27 status_of number_of
  ruled_rounds h zero p = ruled_done refl
  ruled_rounds h (suc n) p = ruled_asks (λ (y : Yield (query p)). h p y (rounds query after n) (ruled_rounds h n))

  -- no round is left
  pub rounds_ends : (p : P) → rounds query after zero p ≡ refuse NotConverged
  unfolding rounds
  rounds_ends p = refl

  -- a round's value stands for the tests and the search that follow it
  module _ (round : (p : P) → Yield (query p) → Progress P) (leads : (p : P) (y : Yield (query p)) (again : P → Search) → settled (after p y again) ≡ settled (led (round p y) again)) where
    -- what a round leaves to run
    pub rounds_turn : (b : Blend) (m n : ℕ) (p : P) (o : Progress P) → o ≡ round p (evaluated b (query p)) → ran b m (rounds query after (suc n) p) ≡ ran b (m + 1) (led o (rounds query after n))
    unfolding run rounds
    rounds_turn b m n p o eo = rw eo (same_run b (m + 1) _ _ (leads p (evaluated b (query p)) (rounds query after n)))

    -- a round is the one evaluation of the search that is left
    pub rounds_next : (ev : Evaluator) (p : P) (left n : ℕ) (d : Float)
        → next_of finite_of ev (rounds query after (suc left) p) n d ≡ moved n (density_of (query p)) (settled (led (round p (ev (query p))) (rounds query after left)))
    unfolding next_of rounds
    rounds_next ev p left n d = ap (moved n (density_of (query p))) (leads p (ev (query p)) (rounds query after left))
