-- `quarter::ranges::each_slot_fits`.
use Rattle.std.proofs.Common.{sym, ◌∙◌}
use borrow.Author.Tests.{not-false, not-true}
use Rattle.quarter.proofs.QuarterLaws.{slots_fail, slots_more, slots_done}
use Rattle.quarter.proofs.ranges.each_slot_fits.Goals as goal

pub returns-then-not-slot_fits : goal.returns-then-not-slot_fits
returns-then-not-slot_fits c = slots_fail _ _ _ _ _ c.loop-i-test.true (sym c.slot_fits.ensures ∙ not-true c.slot_fits.result c.if-not-slot_fits.true-raw) c.loop-i.invariant

pub loop-i-preserved : goal.loop-i-preserved
loop-i-preserved c = slots_more _ _ _ _ _ c.loop-i-test.true (sym c.slot_fits.ensures ∙ not-false c.slot_fits.result c.if-not-slot_fits.false-raw) c.loop-i.invariant

pub returns : goal.returns
returns c = slots_done _ _ _ _ _ c.loop-i-test.false c.loop-i.invariant
