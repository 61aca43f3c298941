-- `solver::search::rounds`.
use Rattle.std.proofs.Common.{◌-◌}
use Rattle.solver.specs.declared.types.Ran.{Ran}
use Rattle.solver.specs.Rounds.{RunsRounds}
use Rattle.solver.proofs.search.rounds.Given as goal

abbrev pub invariant-loop-made : goal.invariant-loop-made
invariant-loop-made g l =
    (e : Ran)
    → RunsRounds (goal.F-post g l.round) l.exhausted l.made (l.count - l.made) l.at e
    → RunsRounds (goal.F-post g l.round) l.exhausted 0 l.count l.fn.start e
