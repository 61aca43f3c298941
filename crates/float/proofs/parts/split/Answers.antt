-- `float::parts::split`.
use native.Mathlib.Omega.{arith}
use Rattle.float.proofs.PartLaws.{zeros_in, parted_low, parted_high}
use Rattle.float.proofs.parts.split.Goals as goal

pub overflow_sub-result : goal.overflow_sub-result
overflow_sub-result c = omega (arith, zeros_in c.args.b c.requires.0 c.if-b-lt-HIDDEN_BIT.true)

pub overflow_shl-result : goal.overflow_shl-result
overflow_shl-result c = omega (arith, zeros_in c.args.b c.requires.0 c.if-b-lt-HIDDEN_BIT.true)

pub overflow_sub-result-then-b-lt-HIDDEN_BIT : goal.overflow_sub-result-then-b-lt-HIDDEN_BIT
overflow_sub-result-then-b-lt-HIDDEN_BIT c = omega (arith, zeros_in c.args.b c.requires.0 c.if-b-lt-HIDDEN_BIT.true)

pub returns-then-b-lt-HIDDEN_BIT : goal.returns-then-b-lt-HIDDEN_BIT
returns-then-b-lt-HIDDEN_BIT c = rw c.from-z.ensures (parted_low c.args.b c.requires.0 c.if-b-lt-HIDDEN_BIT.true)

pub returns-else-b-lt-HIDDEN_BIT : goal.returns-else-b-lt-HIDDEN_BIT
returns-else-b-lt-HIDDEN_BIT c = parted_high c.args.b c.if-b-lt-HIDDEN_BIT.false c.requires.1
