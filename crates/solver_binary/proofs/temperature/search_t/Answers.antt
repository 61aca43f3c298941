-- `solver_binary::temperature::search_t`.
use Rattle.std.proofs.Common.{rules}
use Rattle.solver.specs.Evaluated.{evaluated}
use Rattle.solver.proofs.Turns.{runs_rounds}
use Rattle.solver_binary.proofs.Newton.{rounds_ends, rounds_turn}
use Rattle.solver_binary.proofs.Settles.{round_led_t}
use Rattle.solver_binary.specs.CriticalPointBinary.{after_conditions_t, query_t, search_t}
use Rattle.solver_binary.specs.Rounds.{round_t}
use Rattle.solver_binary.proofs.temperature.search_t.Goals as goal

pub returns : goal.returns
unfolding evaluated
returns c =
    let a = c.args in
    runs_rounds _ _ a.blend (search_t a.maxdensity a.t) (rounds_ends (query_t a.t) (after_conditions_t a.maxdensity)) (λ m n p o h. rounds_turn (query_t a.t) (after_conditions_t a.maxdensity) (round_t a.maxdensity) (round_led_t a.maxdensity) a.blend m n p o (search rules)) 0 200 _ _ c.rounds.ensures
