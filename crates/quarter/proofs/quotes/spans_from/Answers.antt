-- `quarter::quotes::spans_from`.
use Rattle.std.proofs.Common.{arith}
use Rattle.schedule.proofs.Tests.{span_within}
use Rattle.quarter.proofs.QuarterLaws.{spans_begin, spans_more, spans_done}
use Rattle.quarter.proofs.quotes.spans_from.Goals as goal

pub loop-i-init : goal.loop-i-init
loop-i-init c = (omega arith, spans_begin _ _ _)

pub overflow_add-sum : goal.overflow_add-sum
overflow_add-sum c = omega (arith, c.span_of-sum.ensures, (span_within c.get_u64.result).high)

pub loop-i-preserved : goal.loop-i-preserved
loop-i-preserved c = (omega (arith, c.span_of-sum.ensures, (span_within c.get_u64.result).high), spans_more _ _ _ _ _ _ c.loop-i-test.true _ _ c.get_u64.ensures c.span_of-sum.ensures c.loop-i.invariant.1)

pub returns : goal.returns
returns c = (spans_done _ _ _ _ _ _ c.loop-i-test.false c.loop-i.invariant.1, omega arith)
