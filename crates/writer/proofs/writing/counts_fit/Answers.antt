-- `writer::writing::counts_fit`.
use native.Mathlib.Omega.{arith}
use Rattle.block.proofs.Sizes.{product}
use borrow.Author.Rules.{rules}
use Rattle.writer.proofs.writing.counts_fit.Goals as goal

pub overflow_mul-count-then-coefficients-count : goal.overflow_mul-count-then-coefficients-count
overflow_mul-count-then-coefficients-count c = let h = product c.args.n (search rules) in omega arith
