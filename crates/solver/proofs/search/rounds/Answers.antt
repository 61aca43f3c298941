-- `solver::search::rounds`.
use Rattle.std.proofs.Common.{arith, refl}
use Rattle.std.specs.declared.ops.ControlFlow.TheVariants.{Break, Continue}
use Rattle.solver.proofs.Turns.{one_round, all_made}
use Rattle.solver.proofs.search.rounds.Goals as goal

pub returns-in-Break : goal.returns-in-Break
returns-in-Break g c = c.loop-made.invariant _ (one_round _ _ _ c.args.count _ (Break c.in-Break.answer) _ (omega arith) c.in-Break.ensures refl)

pub loop-made-preserved : goal.loop-made-preserved
loop-made-preserved g c = λ e h. c.loop-made.invariant e (one_round _ _ _ c.args.count _ (Continue c.in-Continue.next) e (omega arith) c.in-Continue.ensures h)

pub returns : goal.returns
returns g c = c.loop-made.invariant _ (all_made _ _ _ c.args.count _ (omega arith) (omega arith))
