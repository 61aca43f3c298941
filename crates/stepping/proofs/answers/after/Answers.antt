-- `stepping::answers::after`.
use Rattle.stepping.specs.States.{state_after}
use Rattle.stepping.proofs.AnswerLaws.{after_one_more}
use Rattle.stepping.proofs.answers.after.Goals as goal

pub loop-init : goal.loop-init
unfolding state_after
loop-init c = c.start-state.ensures

pub loop-preserved : goal.loop-preserved
loop-preserved c = after_one_more _ _ _ _ c.loop.invariant c.step-state.ensures
