-- `jobs::run`.
use mathlib.Core.Path.{◌≡◌}
use lib.ListN.{length}
use Rattle.schedule.specs.Schedule.{accept}
use Rattle.jobs.specs.Line.{verdict_of}
use Rattle.jobs.proofs.Alone.{Alone}
use Rattle.jobs.proofs.run.Given as goal

abbrev pub invariant-loop-made : goal.invariant-loop-made
invariant-loop-made l =
    (length l.board ≡ 24584) × (l.«record» ≡ l.initial.«record») × (verdict_of l.kind l.n l.block ≡ accept) × Alone l.kind l.n l.block l._made l.board
