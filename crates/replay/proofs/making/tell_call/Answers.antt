-- `replay::making::tell_call`.
use Rattle.replay.proofs.CallLaws.{submit_told, turn_told, look_told}
use Rattle.replay.proofs.making.tell_call.Goals as goal

pub returns-in-Submit : goal.returns-in-Submit
returns-in-Submit c = submit_told _ _ _ _ _ _ _ _ _ _ _ _ c.in-Submit.is c.part_of.ensures c.tell_submit.ensures.0 c.tell_submit.ensures.1

pub returns-in-Turn : goal.returns-in-Turn
returns-in-Turn c = turn_told _ _ _ _ _ _ _ _ c.in-Turn.is c.tell_turn.ensures

pub returns-in-Look : goal.returns-in-Look
returns-in-Look c = look_told _ _ _ _ _ _ c.in-Look.is c.tell_look.ensures
