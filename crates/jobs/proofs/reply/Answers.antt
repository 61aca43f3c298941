-- `jobs::reply`.
use Rattle.buf.specs.Bytes.{zeros}
use Rattle.jobs.specs.Line.{refused_number}
use Rattle.jobs.proofs.JobLaws.{refusal_some, reply_line, reply_number}
use native.Mathlib.Omega.{arith}
use mathlib.Core.Path.{refl, sym, ◌∙◌}
use Rattle.jobs.proofs.reply.Goals as goal

pub returns-in-Ok : goal.returns-in-Ok
unfolding zeros refused_number
returns-in-Ok c = reply_line _ _ _ _ _ _ _ 0 c.from-kind.ensures c.from-n.ensures c.in-Ok.ensures.0 c.in-Ok.ensures.1 refl c.put_line.ensures

pub returns-in-Err : goal.returns-in-Err
unfolding zeros refused_number
returns-in-Err c =
    reply_number _ _ _ _ _ _ _ _ c.from-kind.ensures c.from-n.ensures (c.from.ensures ∙ c.in-Err.ensures.0) c.in-Err.ensures.1
    (λ z. refusal_some _ (sym c.from.ensures ∙ z))
    (c.put_number.ensures.0, omega (arith, c.put_number.ensures.1), omega (arith, c.put_number.ensures.2))
