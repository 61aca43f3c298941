-- `quarter::ranges::each_slot_fits`.
use Rattle.std.proofs.Common.{◌≡◌, ◌+◌, ◌-◌}
use Rattle.board_spec.specs.Quarter.{slots_fit}
use Rattle.quarter.proofs.ranges.each_slot_fits.Given as goal

abbrev pub invariant-loop-i : goal.invariant-loop-i
invariant-loop-i l = (slots_fit l.q (l.ticket + l.i) (l.count - l.i) ≡ slots_fit l.q l.ticket l.count)
