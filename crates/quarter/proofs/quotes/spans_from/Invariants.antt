-- `quarter::quotes::spans_from`.
use Rattle.std.proofs.Common.{◌≡◌, ◌+◌, ◌-◌, ◌*◌, ◌≤◌}
use Rattle.board_spec.specs.Quarter.{spans_from}
use Rattle.quarter.proofs.quotes.spans_from.Given as goal

abbrev pub invariant-loop-i : goal.invariant-loop-i
invariant-loop-i l = (l.sum ≤ 6204 * l.i) × (l.sum + spans_from l.q (l.ticket + l.i) (l.count - l.i) ≡ spans_from l.q l.ticket l.count)
