-- `stepping::answers::after`.
use Rattle.std.proofs.Common.{◌≡◌}
use Rattle.stepping.specs.States.{state_after}
use Rattle.stepping.proofs.answers.after.Given as goal

abbrev pub invariant-loop : goal.invariant-loop
invariant-loop l = l.state ≡ state_after l.job l.counter
