-- `quarter::quotes::turns_left`.
use Rattle.std.proofs.Common.{arith}
use Rattle.quarter.proofs.QuarterLaws.{held_few, turns_off, turns_left_lem}
use Rattle.quarter.proofs.quotes.turns_left.Goals as goal

pub spans_from-spans-requires : goal.spans_from-spans-requires
spans_from-spans-requires c = held_few _ _ c.requires c.get_u64-held.ensures

pub overflow_sub-result : goal.overflow_sub-result
overflow_sub-result c = omega (arith, turns_off _ _ _ _ _ c.requires c.get_u64-held.ensures c.first_ticket.ensures c.spans_from-spans.ensures.0 c.get_u64.ensures)

pub returns : goal.returns
returns c = turns_left_lem _ _ _ _ _ c.requires c.get_u64-held.ensures c.first_ticket.ensures c.spans_from-spans.ensures.0 c.get_u64.ensures c.spans_from-spans.ensures.1
