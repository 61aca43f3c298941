-- `quarter::turns::turn_quarter`.
use Rattle.std.proofs.Common.{arith}
use Rattle.quarter.proofs.QuarterLaws.{turns_low, turns_next, held_some, turn_none, turn_out, turn_on}
use Rattle.quarter.proofs.turns.turn_quarter.Goals as goal

pub returns-then-get_u64-eq0 : goal.returns-then-get_u64-eq0
returns-then-get_u64-eq0 c = turn_none _ _ _ _ c.get_u64.ensures c.if-get_u64-eq0.true

pub overflow_add-turns : goal.overflow_add-turns
overflow_add-turns c = let low = turns_low c.args.q.now c.requires.1 in omega (arith, c.get_u64-turns.ensures)

pub free-requires : goal.free-requires
free-requires c = held_some _ _ c.get_u64.ensures c.if-get_u64-eq0.false

pub returns-then-turns-span_of : goal.returns-then-turns-span_of
returns-then-turns-span_of c = turn_out _ _ _ _ c.get_u64.ensures c.if-get_u64-eq0.false _ _ _ c.first_kind-kind.ensures c.get_u64-turns.ensures c.span_of.ensures c.if-turns-span_of.true _ _ _ _ _ c.first_ticket-ticket.ensures c.stepped.ensures c.outcome-outcome.ensures c.write_record.ensures c.free.ensures

pub keep-requires : goal.keep-requires
keep-requires c = turns_next _ c.requires.1

pub returns : goal.returns
returns c = turn_on _ _ _ _ c.get_u64.ensures c.if-get_u64-eq0.false _ _ _ c.first_kind-kind.ensures c.get_u64-turns.ensures c.span_of.ensures c.if-turns-span_of.false _ c.keep.ensures
