-- `answers::reply`.
use native.Mathlib.Omega.{arith}
use borrow.Author.Tests.{ne_eqb}
use Rattle.buf.specs.Bytes.{part, zeros}
use Rattle.answers.specs.Reply.{did, reply_of}
use Rattle.answers.proofs.reply.Goals as goal

pub returns-then-refusal-eq0 : goal.returns-then-refusal-eq0
unfolding zeros part did reply_of
returns-then-refusal-eq0 c = rw (← c.from-kind.ensures, ← c.from-n.ensures, ← c.answer-answered.ensures.0, ← c.answer-answered.ensures.1, ← c.number-refusal.ensures, c.if-refusal-eq0.true) c.put_line.ensures

pub returns : goal.returns
unfolding zeros part did reply_of
returns c = rw (← c.from-kind.ensures, ← c.from-n.ensures, ← c.answer-answered.ensures.0, ← c.number-refusal.ensures, ne_eqb _ _ c.if-refusal-eq0.false) (c.put_number.ensures.0, omega (arith, c.put_number.ensures.1), omega (arith, c.put_number.ensures.2))
