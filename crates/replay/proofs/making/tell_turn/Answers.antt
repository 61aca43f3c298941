-- `replay::making::tell_turn`.
use mathlib.Core.Path.{sym}
use lib.Seq.{length-take-le}
use Rattle.replay.proofs.CallLaws.{turn_all, turn_start}
use Rattle.replay.proofs.making.tell_turn.Goals as goal

pub returns-then-record-length : goal.returns-then-record-length
returns-then-record-length c = turn_all _ _ _ _ _ _ c.if-record-length.true c.tell_turn.auto.«record» c.tell_turn.ensures.0 c.tell_turn.ensures.1 c.tell_turn.ensures.2

pub slice_bounds-tell_turn-end-2 : goal.slice_bounds-tell_turn-end-2
slice_bounds-tell_turn-end-2 c = sym (length-take-le _ _ c.if-record-length.false)

pub returns : goal.returns
returns c = turn_start _ _ _ _ _ _ c.if-record-length.false c.tell_turn-2.auto.«record» c.tell_turn-2.ensures.0 c.tell_turn-2.ensures.1 c.tell_turn-2.ensures.2
