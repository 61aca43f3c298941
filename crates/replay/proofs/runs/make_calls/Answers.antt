-- `replay::runs::make_calls`.
use Rattle.replay.proofs.RunLaws.{left_start, left_end, left_full, left_step, found_fits_lem}
use native.Mathlib.Omega.{arith}
use mathlib.Core.Path.{refl, ◌∙◌}
use Rattle.replay.proofs.runs.make_calls.Goals as goal

pub loop-made-init : goal.loop-made-init
loop-made-init c = (refl, refl, refl, left_start _ _ _ _ refl)

pub returns-in_default : goal.returns-in_default
returns-in_default c = left_end _ _ _ _ _ _ _ _ c.loop-made.invariant.3 _ c.in_default.is c.call_at.ensures.0

pub make_call-requires : goal.make_call-requires
make_call-requires c = let L = c.loop-made in (omega arith, found_fits_lem _ _ _ _ c.in-Some.is c.call_at.ensures.1)

pub loop-made-preserved : goal.loop-made-preserved
loop-made-preserved c = let L = c.loop-made in let M = c.make_call in (refl, M.auto.board ∙ L.invariant.1, M.auto.answers ∙ L.invariant.2, left_step _ _ _ _ _ _ _ _ L.invariant.3 _ _ _ _ _ (omega arith) c.in-Some.is c.call_at.ensures.0 M.ensures)

pub returns : goal.returns
returns c = left_full _ _ _ _ _ _ _ _ c.loop-made.invariant.3 (omega arith) (omega arith)
