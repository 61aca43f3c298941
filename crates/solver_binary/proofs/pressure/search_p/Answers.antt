-- `solver_binary::pressure::search_p`.
use Rattle.std.proofs.Common.{rules}
use Rattle.solver.specs.Evaluated.{evaluated}
use Rattle.solver.proofs.Turns.{runs_rounds}
use Rattle.solver_binary.proofs.Newton.{rounds_ends, rounds_turn}
use Rattle.solver_binary.proofs.Settles.{round_led_p}
use Rattle.solver_binary.specs.CriticalPointBinary.{after_conditions_p, query_p, search_p}
use Rattle.solver_binary.specs.Rounds.{round_p}
use Rattle.solver_binary.proofs.pressure.search_p.Goals as goal

pub returns : goal.returns
unfolding evaluated
returns c =
    let a = c.args in
    runs_rounds _ _ a.blend (search_p a.maxdensity a.pressure) (rounds_ends (query_p a.pressure) (after_conditions_p a.maxdensity)) (λ m n p o h. rounds_turn (query_p a.pressure) (after_conditions_p a.maxdensity) (round_p a.maxdensity) (round_led_p a.maxdensity) a.blend m n p o (search rules)) 0 200 _ _ c.rounds.ensures
