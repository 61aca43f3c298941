-- `solver::search::onward`.
use Rattle.std.proofs.Common.{◌≡◌, suc, arith}
use Rattle.solver.specs.Rounds.{onward}
use Rattle.solver.proofs.search.onward.Goals as goal

pub returns-in_err-at : goal.returns-in_err-at
unfolding onward
returns-in_err-at g c = rw (c.from_residual.ensures, c.in_err-at.was)

pub returns-in-Some : goal.returns-in-Some
unfolding onward
returns-in-Some g c = let e : c.args.rounds ≡ suc c.in-Some.rounds = omega arith in rw (c.in_ok-at.was, e)

pub returns-in-None : goal.returns-in-None
unfolding onward
returns-in-None g c = let e : c.args.rounds ≡ 0 = omega arith in rw (c.in_ok-at.was, e)
