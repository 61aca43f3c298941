-- `replay::runs::make_calls`.
use Rattle.replay.proofs.RunLaws.{LeftOf}
use lib.ListN.{length}
use Prim.Native.Nat.{◌/◌}
use mathlib.Core.Path.{◌≡◌}
use Rattle.replay.proofs.runs.make_calls.Given as goal

abbrev pub invariant-loop-made : goal.invariant-loop-made
invariant-loop-made l =
    (l.room ≡ length l.initial.answers / 32) × (length l.board ≡ length l.initial.board) × (length l.answers ≡ length l.initial.answers)
    × LeftOf l.calls l.initial.board l.initial.answers l.board l.answers l.room l.made l.at
